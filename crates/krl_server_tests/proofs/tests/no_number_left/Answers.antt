use Rattle.std.proofs.Common.{nat_eq, [], ◌∷◌}
use Rattle.std.specs.List.{IsDistinct}
use Rattle.krl_server_tests.proofs.tests.no_number_left.Goals as goal

apart : IsDistinct nat_eq (0 ∷ [])
unfolding IsDistinct
apart = (tt, tt)

pub kept-requires-clause-once : goal.kept-requires-clause-once
kept-requires-clause-once c = apart
