use Rattle.krl_failover.proofs.Machine.Reached.{fenced_writes}
use Rattle.krl_failover.proofs.machine_laws.once.Goals as goal

pub returns : goal.returns
returns c = fenced_writes
