use Rattle.std.proofs.Common.{◌≤◌, ◌-◌}
use Rattle.krl_cache.specs.Beliefs.{CoversAll}
use Rattle.krl_cache_laws.specs.Lists.{lists_believe}
use Rattle.krl_cache_laws.proofs.plain.PlainCache.first_unknown.Given as goal

abbrev pub invariant-loop-p : goal.invariant-loop-p
invariant-loop-p l = (l.lo ≤ l.p) × CoversAll (lists_believe l.self) (record { lo = l.lo; hi = l.p })

abbrev pub decreases-loop-p : goal.decreases-loop-p
decreases-loop-p l = l.hi - l.p
