use Rattle.std.proofs.Common.{nat_eq, [], ◌∷◌, refl}
use Rattle.std.specs.List.{IsDistinct}
use Rattle.krl_server_tests.proofs.tests.two_clients.Goals as goal

apart : IsDistinct nat_eq (0 ∷ 1 ∷ [])
unfolding IsDistinct
apart = ((refl, tt), (tt, tt))

pub kept-requires-clause-once : goal.kept-requires-clause-once
kept-requires-clause-once c = apart
