use Rattle.std.proofs.Common.{nat_eq, [], ◌∷◌, refl}
use Rattle.std.specs.List.{IsDistinct}
use Rattle.krl_world_tests.proofs.migration.no_world_begins_while_somebody_has_not_left.Goals as goal

two : IsDistinct nat_eq (0 ∷ 9 ∷ [])
unfolding IsDistinct
two = ((refl, tt), (tt, tt))

three : IsDistinct nat_eq (0 ∷ 3 ∷ 1 ∷ [])
unfolding IsDistinct
three = ((refl, (refl, tt)), ((refl, tt), (tt, tt)))

pub begins_not-requires-clause-once : goal.begins_not-requires-clause-once
begins_not-requires-clause-once g c = two

pub begins_not-requires-2-clause-once : goal.begins_not-requires-2-clause-once
begins_not-requires-2-clause-once g c = three
