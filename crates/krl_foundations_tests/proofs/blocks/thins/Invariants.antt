use Rattle.std.proofs.Common.{◌≡◌}
use Rattle.krl_foundations_tests.proofs.blocks.thins.Given as goal

abbrev pub invariant-loop-n : goal.invariant-loop-n
invariant-loop-n l = l.blocks.room ≡ l.initial.blocks.room
