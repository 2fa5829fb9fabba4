use Rattle.krl_cache.proofs.Names.{◌≡◌, ◌<◌, ◌^◌, length, filter_map, row_of}
use Rattle.krl_cache.proofs.found.RowsInPlace.pop_first.Given as goal

abbrev pub invariant-loop-point : goal.invariant-loop-point
invariant-loop-point l = record {
  rows : filter_map row_of l.self-inside.rest ≡ l.fn.self;
  fits : length l.self-inside.rest < 2 ^ 63;
}

abbrev pub decreases-loop-point : goal.decreases-loop-point
decreases-loop-point l = length l.self-inside.rest
