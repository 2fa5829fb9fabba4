use Rattle.krl_world_laws.proofs.Shards.Together.{some_together}
use Rattle.krl_world_laws.proofs.shard_laws.some_together.Goals as goal

pub returns : goal.returns
returns c = some_together
