use Rattle.std.proofs.Common.{◌≡◌, ◌-◌, length}
use Rattle.krl_table.proofs.Calls.Raises.{IsGoing}
use Rattle.krl_table.proofs.table.Table.go_on.Given as goal

abbrev pub invariant-loop-finger : goal.invariant-loop-finger
invariant-loop-finger l = IsGoing l.durable.reach l.durable.index l.fn.self.map l.slot l.waiter l.fn.reached.items l.self.map l.at l.reached.items × (l.self.room ≡ l.fn.self.room)

abbrev pub decreases-loop-finger : goal.decreases-loop-finger
decreases-loop-finger l = l.durable.reach - length l.reached.items
