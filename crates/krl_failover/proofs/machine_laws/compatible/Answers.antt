use Rattle.krl_failover.proofs.Machine.Reached.{fenced_compatible}
use Rattle.krl_failover.proofs.machine_laws.compatible.Goals as goal

pub returns : goal.returns
returns c = fenced_compatible
