use Rattle.std.proofs.Common.{nat_eq, [], ◌∷◌, refl}
use Rattle.std.specs.List.{IsDistinct}
use Rattle.krl_foundations_tests.proofs.migration.keeps_all_but_the_form_of_values.Goals as goal

apart : IsDistinct nat_eq (0 ∷ 9 ∷ [])
unfolding IsDistinct
apart = ((refl, tt), (tt, tt))

pub migrates-requires-clause-once : goal.migrates-requires-clause-once
migrates-requires-clause-once g c = apart
