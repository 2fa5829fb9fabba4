use Rattle.krl_table.proofs.Names.{ℕ, ◌≤◌, drop, KeysOff}
use Rattle.krl_table.proofs.pieces.next_key.Given as goal

-- no piece so far has a point before the next
abbrev pub invariant-loop-piece : goal.invariant-loop-piece
invariant-loop-piece l = record {
  above : l.at ≤ l.next;
  most : l.next ≤ l.most;
  off : (r : ℕ) → r ≤ l.next → KeysOff (drop l.piece-index l.pieces) l.at r → KeysOff l.pieces l.at r;
}
