use Rattle.krl_table.proofs.Names.{length, KeysRise, SameKeys}
use Rattle.krl_table.proofs.pieces.keys_from.Given as goal

abbrev pub invariant-loop-first : goal.invariant-loop-first
invariant-loop-first l = record {
  same : SameKeys l.at l.left l.pieces;
  rises : KeysRise 0 l.pieces → KeysRise 0 l.left;
}

abbrev pub decreases-loop-first : goal.decreases-loop-first
decreases-loop-first l = length l.left
