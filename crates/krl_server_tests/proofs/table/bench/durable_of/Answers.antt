use Rattle.std.proofs.Common.{nat_eq, [], ◌∷◌}
use Rattle.std.specs.List.{IsDistinct}
use Rattle.krl_server_tests.proofs.table.bench.durable_of.Goals as goal

one : IsDistinct nat_eq (0 ∷ [])
unfolding IsDistinct
one = (tt, tt)

pub from_parts-requires-clause-once : goal.from_parts-requires-clause-once
from_parts-requires-clause-once c = one
