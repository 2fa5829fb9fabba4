use Rattle.std.proofs.Common.{◌≡◌, drop}
use Rattle.krl_messages.specs.Holdings.{have_values}
use Rattle.krl_messages.proofs.holdings.all_have_values.Given as goal

abbrev pub invariant-loop-holding : goal.invariant-loop-holding
invariant-loop-holding l = have_values (drop l.holding-index l.list) ≡ have_values l.list
