use Rattle.krl_table.proofs.Rows.NextWaiting.{IsLeastBelow}
use Rattle.krl_table.proofs.waiting.Waiting.least_from.Given as goal

abbrev pub invariant-loop-waiter : goal.invariant-loop-waiter
invariant-loop-waiter l = IsLeastBelow l.self.by_client l.low l.waiter-index l.least
