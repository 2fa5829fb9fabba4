use Rattle.std.proofs.Common.{arith}
use Rattle.krl_table.proofs.ReportRows.PieceByPiece.{ranges_begin, ranges_go, ranges_end}
use Rattle.krl_table.proofs.ReportRows.Rising.{ranges_off_from}
use Rattle.krl_table.proofs.pieces.next_range.Goals as goal

pub loop-piece-init : goal.loop-piece-init
loop-piece-init c = record { above = c.requires.most; most = omega arith; off = ranges_begin c.args.pieces.now c.args.at c.args.most }

pub loop-piece-preserved : goal.loop-piece-preserved
loop-piece-preserved c =
    let w = c.loop-piece.invariant in let x = c.piece-item.result in
    record {
      above = omega (arith, w.above, c.from_span.ensures.above, c.min-next.ensures);
      most = omega (arith, w.most, c.min-next.ensures);
      off = ranges_go c.args.pieces.now c.loop-piece.piece-index x c.args.at c.loop-piece.next c.from_span.result c.min-next.result (omega arith) c.piece-item.is
          (omega (arith, c.min-next.ensures)) (omega (arith, c.min-next.ensures)) c.from_span.ensures.off w.off;
    }

pub returns : goal.returns
returns c = let w = c.loop-piece.invariant in record {
  above = w.above;
  most = w.most;
  off = ranges_end c.args.pieces.now c.loop-piece.piece-index c.args.at c.loop-piece.next (omega arith) w.off;
}

pub returns-then-lo-next-clause-off : goal.returns-then-lo-next-clause-off
returns-then-lo-next-clause-off c =
    c.loop-piece.invariant.off c.loop-piece.next (omega arith)
    (ranges_off_from c.args.pieces.now c.loop-piece.piece-index c.piece-item.result c.args.at c.loop-piece.next (omega arith) c.piece-item.is (omega (arith, c.if-lo-next.true, c.lo.ensures.end)) (c.requires.rises c.if-rises.true))
