use Rattle.krl_failover.proofs.Worlds.Witness.{old_grants}
use Rattle.krl_failover.proofs.world_laws.goes_on.Goals as goal

pub returns : goal.returns
returns c = old_grants
