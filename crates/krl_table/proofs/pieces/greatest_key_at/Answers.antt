use Rattle.krl_table.proofs.Names.{◌+◌, drop, sym, ap, ◌∙◌, arith, key_join, greatest_key_at}
use Rattle.krl_table.proofs.ReportRows.PieceByPiece.{key_begins, key_goes, key_ends}
use Rattle.krl_table.proofs.ReportRows.Rising.{key_stops}
use Rattle.krl_table.proofs.pieces.greatest_key_at.Goals as goal

pub loop-piece-init : goal.loop-piece-init
loop-piece-init c = key_begins c.args.pieces.now c.args.point

pub loop-piece-preserved : goal.loop-piece-preserved
loop-piece-preserved c =
    let xs = c.args.pieces.now in let i = c.loop-piece.piece-index in
    ap (λ p. key_join p (greatest_key_at (drop (i + 1) xs) c.args.point)) (c.join-part.ensures.join ∙ ap (key_join c.loop-piece.part) c.key_at.ensures)
    ∙ key_goes xs i _ c.args.point c.loop-piece.part (omega arith) ∙ c.loop-piece.invariant

pub returns : goal.returns
returns c = sym (key_ends c.args.pieces.now c.loop-piece.piece-index c.args.point c.loop-piece.part (omega arith)) ∙ c.loop-piece.invariant

pub returns-then-piece-point : goal.returns-then-piece-point
returns-then-piece-point c = key_stops c.args.pieces.now c.loop-piece.piece-index _ c.args.point c.loop-piece.part (omega arith) c.if-piece-point.true (c.requires c.if-rises.true) c.loop-piece.invariant
