use Rattle.krl_table.proofs.Names.{◌≡◌, drop, range_join, joined_range_over}
use Rattle.krl_table.proofs.pieces.joined_range_over.Given as goal

-- what was joined, and what is left to join
abbrev pub invariant-loop-piece : goal.invariant-loop-piece
invariant-loop-piece l = range_join l.part (joined_range_over (drop l.piece-index l.pieces) l.span) ≡ joined_range_over l.pieces l.span
