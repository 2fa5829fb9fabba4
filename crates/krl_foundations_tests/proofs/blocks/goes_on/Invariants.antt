use Rattle.std.proofs.Common.{◌≤◌}
use Rattle.krl_foundations_tests.proofs.blocks.goes_on.Given as goal

abbrev pub invariant-loop-round : goal.invariant-loop-round
invariant-loop-round l = 10000 ≤ l.blocks.room
