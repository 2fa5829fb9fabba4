use Rattle.krl_world_laws.proofs.Shards.Together.{together_is_union}
use Rattle.krl_world_laws.proofs.shard_laws.together_is_union.Goals as goal

pub returns : goal.returns
returns c = together_is_union
