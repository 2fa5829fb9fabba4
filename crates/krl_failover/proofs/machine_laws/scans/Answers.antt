use Rattle.krl_failover.proofs.Machine.Reached.{fenced_scans}
use Rattle.krl_failover.proofs.machine_laws.scans.Goals as goal

pub returns : goal.returns
returns c = fenced_scans
