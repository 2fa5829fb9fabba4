use Rattle.krl_world_laws.proofs.Shards.Somewhere.{scans_both}
use Rattle.krl_world_laws.proofs.shard_laws.scans_both_somewhere.Goals as goal

pub returns : goal.returns
returns c = scans_both
