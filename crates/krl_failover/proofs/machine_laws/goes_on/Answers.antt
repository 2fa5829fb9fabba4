use Rattle.krl_failover.proofs.Machine.Witness.{goes_on}
use Rattle.krl_failover.proofs.machine_laws.goes_on.Goals as goal

pub returns : goal.returns
returns c = goes_on
