use Rattle.krl_table.proofs.Names.{drop, RangesRise}
use Rattle.krl_table.proofs.pieces.ranges_rise.Given as goal

-- if the others rise from here on, all do
abbrev pub invariant-loop-piece : goal.invariant-loop-piece
invariant-loop-piece l = RangesRise l.low (drop l.piece-index l.pieces) → RangesRise 0 l.pieces
