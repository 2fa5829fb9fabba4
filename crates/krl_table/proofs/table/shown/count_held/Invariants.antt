use Rattle.krl_table.proofs.Names.{◌-◌, ◌+◌, END}
use Rattle.krl_table.proofs.Rows.Holds.{AreCounted}
use Rattle.krl_table.proofs.table.shown.count_held.Given as goal

abbrev pub invariant-loop-slot : goal.invariant-loop-slot
invariant-loop-slot l = AreCounted l.rows.map l.client l.at l.count

abbrev pub decreases-loop-slot : goal.decreases-loop-slot
decreases-loop-slot l = END + 1 - l.at
