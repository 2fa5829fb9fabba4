use Rattle.std.proofs.Common.{◌≡◌, drop}
use Rattle.krl_messages.specs.Ascending.{ascend_from}
use Rattle.krl_messages.proofs.holdings.ascend.Given as goal

abbrev pub invariant-loop-holding : goal.invariant-loop-holding
invariant-loop-holding l = ascend_from l.least (drop l.holding-index l.list) ≡ ascend_from 0 l.list
