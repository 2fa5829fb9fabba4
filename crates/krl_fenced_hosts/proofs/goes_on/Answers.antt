use Rattle.krl_fenced_hosts.proofs.OneHost.{overtakes}
use Rattle.krl_fenced_hosts.proofs.goes_on.Goals as goal

pub returns : goal.returns
returns c = overtakes
