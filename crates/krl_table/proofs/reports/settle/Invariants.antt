use Rattle.krl_table.proofs.Names.{◌≡◌, ◌-◌, ◌+◌, END, ReportsSame, AreWithin}
use Rattle.krl_table.proofs.ReportRows.PieceByPiece.{IsSettled}
use Rattle.krl_table.proofs.reports.settle.Given as goal

abbrev pub invariant-loop-reported : goal.invariant-loop-reported
invariant-loop-reported l = record {
  settled : IsSettled l.durable.index l.client l.pieces l.fn.rows.map l.rows.map l.at;
  same : ReportsSame l.durable.index l.at l.sweep l.pieces;
  within : AreWithin l.extents.by_client l.rows.map;
  room : l.rows.room ≡ l.fn.rows.room;
}

abbrev pub decreases-loop-reported : goal.decreases-loop-reported
decreases-loop-reported l = END + 1 - l.at
