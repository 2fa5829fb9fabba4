use Rattle.krl_table.proofs.Names.{◌≡◌, ◌-◌, ◌≤◌, lowered_between}
use Rattle.krl_table.proofs.Rows.Walk.{IsWalked}
use Rattle.krl_table.proofs.all_rows.lower.Given as goal

abbrev pub invariant-loop-slot : goal.invariant-loop-slot
invariant-loop-slot l = record {
  walked : IsWalked (lowered_between l.from l.hi l.client l.keep) l.fn.rows.map l.rows.map l.at;
  from : l.from ≤ l.at;
  room : l.rows.room ≡ l.fn.rows.room;
}

abbrev pub decreases-loop-slot : goal.decreases-loop-slot
decreases-loop-slot l = l.hi - l.at
