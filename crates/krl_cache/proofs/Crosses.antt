-- A cache may go to another thread.
use denote.Param.Send.{IsSend, sendable}
use Rattle.std.proofs.MapsCrossing.{BTreeMap-send}
use Rattle.krl_modes.proofs.Crosses.{range_part_sent}
use Rattle.krl_cache.specs.contracts.entry.Entry as entry
use Rattle.krl_cache.specs.contracts.cache.Cache as cache

entry_sent : IsSend (entry.the_field).row
entry_sent = search sendable depth 24 fits 4000

pub cache_sent : IsSend (cache.the_field).row
cache_sent = let a = range_part_sent in let b = entry_sent in search (sendable, BTreeMap-send) depth 24 fits 4000
