use Rattle.std.proofs.Common.{nat_eq, [], ◌∷◌, refl}
use Rattle.std.specs.List.{IsDistinct}
use Rattle.krl_world_tests.proofs.migration.a_world_goes_on_from_it.Goals as goal

apart : IsDistinct nat_eq (0 ∷ 9 ∷ [])
unfolding IsDistinct
apart = ((refl, tt), (tt, tt))

pub survived-requires-clause-once : goal.survived-requires-clause-once
survived-requires-clause-once g c = apart
