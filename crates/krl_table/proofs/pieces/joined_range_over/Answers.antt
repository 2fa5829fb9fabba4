use Rattle.krl_table.proofs.Names.{◌+◌, drop, sym, ap, ◌∙◌, arith, range_join, joined_range_over}
use Rattle.krl_table.proofs.ReportRows.PieceByPiece.{range_begins, range_goes, range_ends}
use Rattle.krl_table.proofs.ReportRows.Rising.{range_stops}
use Rattle.krl_table.proofs.pieces.joined_range_over.Goals as goal

pub loop-piece-init : goal.loop-piece-init
loop-piece-init c = range_begins c.args.pieces.now c.args.span

pub loop-piece-preserved : goal.loop-piece-preserved
loop-piece-preserved c =
    let xs = c.args.pieces.now in let i = c.loop-piece.piece-index in let x = c.piece-item.result in
    ap (λ p. range_join p (joined_range_over (drop (i + 1) xs) c.args.span)) (c.join-part.ensures.join ∙ ap (range_join c.loop-piece.part) c.range_on.ensures)
    ∙ range_goes xs i x c.args.span c.loop-piece.part (omega arith) c.piece-item.is ∙ c.loop-piece.invariant

pub returns : goal.returns
returns c = sym (range_ends c.args.pieces.now c.loop-piece.piece-index c.args.span c.loop-piece.part (omega arith)) ∙ c.loop-piece.invariant

pub returns-then-lo-hi : goal.returns-then-lo-hi
returns-then-lo-hi c = range_stops c.args.pieces.now c.loop-piece.piece-index c.piece-item.result c.args.span c.loop-piece.part (omega arith) c.piece-item.is (omega (arith, c.if-lo-hi.true, c.lo.ensures.end, c.hi.ensures.end)) (c.requires c.if-rises.true) c.loop-piece.invariant
