use Rattle.std.proofs.Common.{nat_eq, [], ◌∷◌, refl}
use Rattle.std.specs.List.{IsDistinct}
use Rattle.krl_world_tests.proofs.migration.no_world_begins_after_the_last_epoch.Goals as goal

apart : IsDistinct nat_eq (0 ∷ 9 ∷ [])
unfolding IsDistinct
apart = ((refl, tt), (tt, tt))

pub begins_not-requires-clause-once : goal.begins_not-requires-clause-once
begins_not-requires-clause-once g c = apart

pub survived-requires-clause-once : goal.survived-requires-clause-once
survived-requires-clause-once g c = apart
