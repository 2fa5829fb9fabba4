use Rattle.std.proofs.Common.{arith}
use Rattle.krl_table.proofs.ReportRows.PieceByPiece.{keys_begin, keys_go, keys_end}
use Rattle.krl_table.proofs.ReportRows.Rising.{keys_off_from}
use Rattle.krl_table.proofs.pieces.next_key.Goals as goal

pub loop-piece-init : goal.loop-piece-init
loop-piece-init c = record { above = c.requires.most; most = omega arith; off = keys_begin c.args.pieces.now c.args.at c.args.most }

pub loop-piece-preserved : goal.loop-piece-preserved
loop-piece-preserved c =
    let w = c.loop-piece.invariant in
    record {
      above = omega (arith, w.above, c.from_point.ensures.above, c.min-next.ensures);
      most = omega (arith, w.most, c.min-next.ensures);
      off = keys_go c.args.pieces.now c.loop-piece.piece-index _ c.args.at c.loop-piece.next c.from_point.result c.min-next.result (omega arith)
          (omega (arith, c.min-next.ensures)) (omega (arith, c.min-next.ensures)) c.from_point.ensures.off w.off;
    }

pub returns : goal.returns
returns c = let w = c.loop-piece.invariant in record {
  above = w.above;
  most = w.most;
  off = keys_end c.args.pieces.now c.loop-piece.piece-index c.args.at c.loop-piece.next (omega arith) w.off;
}

pub returns-then-piece-next-clause-off : goal.returns-then-piece-next-clause-off
returns-then-piece-next-clause-off c =
    c.loop-piece.invariant.off c.loop-piece.next (omega arith)
    (keys_off_from c.args.pieces.now c.loop-piece.piece-index _ c.args.at c.loop-piece.next (omega arith) c.if-piece-next.true (c.requires.rises c.if-rises.true))
