use Rattle.std.proofs.Common.{nat_eq, [], ◌∷◌, refl}
use Rattle.std.specs.List.{IsDistinct}
use Rattle.krl_foundations_tests.proofs.migration.names_the_first_who_has_not_left.Goals as goal

three : IsDistinct nat_eq (0 ∷ 3 ∷ 1 ∷ [])
unfolding IsDistinct
three = ((refl, (refl, tt)), ((refl, tt), (tt, tt)))

pub migrates-requires-clause-once : goal.migrates-requires-clause-once
migrates-requires-clause-once g c = three
