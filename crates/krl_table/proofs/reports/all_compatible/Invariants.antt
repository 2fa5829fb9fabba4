use Rattle.krl_table.proofs.Names.{◌≡◌, ◌<◌, ◌≤◌, ◌-◌, ◌+◌, ℕ, true, END, is_slot, is_compatible_there, rebuilt, BeginsSpan, ReportsSame, rows_of}
use Rattle.krl_table.proofs.reports.all_compatible.Given as goal

abbrev pub invariant-loop-reported : goal.invariant-loop-reported
invariant-loop-reported l = record {
  begins : BeginsSpan l.durable.index l.at;
  end : l.at ≤ END + 1;
  same : ReportsSame l.durable.index l.at l.sweep l.pieces;
  fit : (n : ℕ) → n < l.at → is_slot l.durable.index n ≡ true → is_compatible_there (rows_of l.rows.map) n l.client (rebuilt l.durable.index l.pieces n) ≡ true;
}

abbrev pub decreases-loop-reported : goal.decreases-loop-reported
decreases-loop-reported l = END + 1 - l.at
