use Rattle.krl_machine.proofs.Runs.{never_alarms}
use Rattle.krl_machine.proofs.no_alarm.Goals as goal

pub returns : goal.returns
returns c = never_alarms
