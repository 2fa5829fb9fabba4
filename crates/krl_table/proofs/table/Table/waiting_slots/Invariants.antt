use Rattle.krl_table.proofs.Rows.NextWaiting.{AreFound, count_from}
use Rattle.krl_table.proofs.table.Table.waiting_slots.Given as goal

abbrev pub invariant-loop-point : goal.invariant-loop-point
invariant-loop-point l = AreFound l.durable.index l.self.map l.self-inside.waiting.by_client l.low l.slots.items

abbrev pub decreases-loop-point : goal.decreases-loop-point
decreases-loop-point l = count_from l.low l.self-inside.waiting.by_client
