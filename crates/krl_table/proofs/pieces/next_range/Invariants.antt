use Rattle.krl_table.proofs.Names.{ℕ, ◌≤◌, drop, RangesOff}
use Rattle.krl_table.proofs.pieces.next_range.Given as goal

-- no piece so far has a point before the next
abbrev pub invariant-loop-piece : goal.invariant-loop-piece
invariant-loop-piece l = record {
  above : l.at ≤ l.next;
  most : l.next ≤ l.most;
  off : (r : ℕ) → r ≤ l.next → RangesOff (drop l.piece-index l.pieces) l.at r → RangesOff l.pieces l.at r;
}
