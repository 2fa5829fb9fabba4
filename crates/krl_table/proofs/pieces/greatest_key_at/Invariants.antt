use Rattle.krl_table.proofs.Names.{◌≡◌, drop, key_join, greatest_key_at}
use Rattle.krl_table.proofs.pieces.greatest_key_at.Given as goal

-- what was joined, and what is left to join
abbrev pub invariant-loop-piece : goal.invariant-loop-piece
invariant-loop-piece l = key_join l.part (greatest_key_at (drop l.piece-index l.pieces) l.point) ≡ greatest_key_at l.pieces l.point
