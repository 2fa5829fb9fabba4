use Rattle.krl_failover.proofs.Machine.Reached.{fenced_alarm}
use Rattle.krl_failover.proofs.machine_laws.no_alarm.Goals as goal

pub returns : goal.returns
returns c = fenced_alarm
