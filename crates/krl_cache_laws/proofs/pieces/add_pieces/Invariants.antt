use Rattle.std.proofs.Common.{◌≡◌, ◌++◌, take}
use Rattle.std.specs.List.{filter_map}
use Rattle.krl_cache_laws.specs.Lists.{clip}
use Rattle.krl_cache_laws.proofs.pieces.add_pieces.Given as goal

abbrev pub invariant-loop-piece : goal.invariant-loop-piece
invariant-loop-piece l = l.list.items ≡ l.fn.list.items ++ filter_map (clip l.lo l.hi l.keep) (take l.piece-index l.pieces)
