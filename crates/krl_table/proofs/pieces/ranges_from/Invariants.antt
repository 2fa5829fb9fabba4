use Rattle.krl_table.proofs.Names.{length, RangesRise, SameRanges}
use Rattle.krl_table.proofs.pieces.ranges_from.Given as goal

abbrev pub invariant-loop-first : goal.invariant-loop-first
invariant-loop-first l = record {
  same : SameRanges l.at l.left l.pieces;
  rises : RangesRise 0 l.pieces → RangesRise 0 l.left;
}

abbrev pub decreases-loop-first : goal.decreases-loop-first
decreases-loop-first l = length l.left
