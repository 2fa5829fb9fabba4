use Rattle.std.proofs.Common.{nat_eq, [], ◌∷◌, refl}
use Rattle.std.specs.List.{IsDistinct}
use Rattle.krl_foundations_tests.proofs.migration.names_the_one_who_has_not_left.Goals as goal

two : IsDistinct nat_eq (0 ∷ 9 ∷ [])
unfolding IsDistinct
two = ((refl, tt), (tt, tt))

pub migrates-requires-clause-once : goal.migrates-requires-clause-once
migrates-requires-clause-once g c = two
