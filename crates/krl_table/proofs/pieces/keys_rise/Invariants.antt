use Rattle.krl_table.proofs.Names.{◌↔◌, drop, KeysRise}
use Rattle.krl_table.proofs.pieces.keys_rise.Given as goal

-- all rise exactly if the others do from here on
abbrev pub invariant-loop-piece : goal.invariant-loop-piece
invariant-loop-piece l = KeysRise l.low (drop l.piece-index l.pieces) ↔ KeysRise 0 l.pieces
