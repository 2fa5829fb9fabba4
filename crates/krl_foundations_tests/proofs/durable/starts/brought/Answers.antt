use Rattle.std.proofs.Common.{nat_eq, [], ◌∷◌, refl}
use Rattle.std.specs.List.{IsDistinct}
use Rattle.krl_foundations_tests.proofs.durable.starts.brought.Goals as goal

apart : IsDistinct nat_eq (5 ∷ 2 ∷ [])
unfolding IsDistinct
apart = ((refl, tt), (tt, tt))

pub from_parts-requires-clause-once : goal.from_parts-requires-clause-once
from_parts-requires-clause-once c = apart
