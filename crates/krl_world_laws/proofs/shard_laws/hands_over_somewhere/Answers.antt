use Rattle.krl_world_laws.proofs.Shards.LeasedSomewhere.{hands_over}
use Rattle.krl_world_laws.proofs.shard_laws.hands_over_somewhere.Goals as goal

pub returns : goal.returns
returns c = hands_over
