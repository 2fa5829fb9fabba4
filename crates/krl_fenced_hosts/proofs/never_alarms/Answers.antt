use Rattle.krl_fenced_hosts.proofs.Promised.{never_alarms}
use Rattle.krl_fenced_hosts.proofs.never_alarms.Goals as goal

pub returns : goal.returns
returns c = never_alarms
