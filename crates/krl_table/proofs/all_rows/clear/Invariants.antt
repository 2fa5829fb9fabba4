use Rattle.krl_table.proofs.Names.{◌≡◌, ◌-◌, ◌+◌, ◌≤◌, END, cleared_within}
use Rattle.krl_table.proofs.Rows.Walk.{IsWalked}
use Rattle.krl_table.proofs.all_rows.clear.Given as goal

abbrev pub invariant-loop-slot : goal.invariant-loop-slot
invariant-loop-slot l = record {
  walked : IsWalked (cleared_within l.extent l.client) l.fn.rows.map l.rows.map l.at;
  first : l.extent.first ≤ l.at;
  room : l.rows.room ≡ l.fn.rows.room;
}

abbrev pub decreases-loop-slot : goal.decreases-loop-slot
decreases-loop-slot l = END + 1 - l.at
