use Rattle.krl_table.proofs.Names.{◌-◌, ◌+◌, ◌≤◌, END}
use Rattle.krl_table.proofs.Rows.Holds.{IsFree}
use Rattle.krl_table.proofs.table.shown.next_held.Given as goal

abbrev pub invariant-loop-slot : goal.invariant-loop-slot
invariant-loop-slot l = (l.from ≤ l.at) × IsFree l.rows.map l.client l.from l.at

abbrev pub decreases-loop-slot : goal.decreases-loop-slot
decreases-loop-slot l = END + 1 - l.at
