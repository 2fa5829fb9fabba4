use Rattle.std.proofs.Common.{ℕ, nat_eq, []}
use Rattle.std.specs.List.{IsDistinct}
use Rattle.krl_server_tests.proofs.tests.limited.Goals as goal

none : IsDistinct nat_eq []
unfolding IsDistinct
none = tt

pub from_parts-requires-clause-once : goal.from_parts-requires-clause-once
from_parts-requires-clause-once c = none
