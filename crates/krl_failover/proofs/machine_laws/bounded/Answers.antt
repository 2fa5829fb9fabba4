use Rattle.krl_failover.proofs.Machine.Reached.{fenced_bounded}
use Rattle.krl_failover.proofs.machine_laws.bounded.Goals as goal

pub returns : goal.returns
returns c = fenced_bounded
