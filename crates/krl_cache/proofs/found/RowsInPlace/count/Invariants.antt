use Rattle.krl_cache.proofs.Names.{◌≡◌, ◌+◌, ◌<◌, ◌^◌, length, filter_map, row_of}
use Rattle.krl_cache.proofs.found.RowsInPlace.count.Given as goal

abbrev pub invariant-loop-entry : goal.invariant-loop-entry
invariant-loop-entry l = record {
  counted : l.count + length (filter_map row_of l.entry-iterator) ≡ length (l.self);
  few : l.count + length l.entry-iterator < 2 ^ 63;
}
