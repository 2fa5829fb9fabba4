use Rattle.krl_failover.proofs.Worlds.Promised.{headline_holds}
use Rattle.krl_failover.proofs.world_laws.headline.Goals as goal

pub returns : goal.returns
returns c = headline_holds
