use Rattle.std.proofs.Common.{◌≡◌, true, drop}
use Rattle.krl_messages.specs.Holdings.{have_values}
use Rattle.krl_cache.specs.Laws.{IsBelief}
use Rattle.krl_cache.specs.Beliefs.{adopt_all}
use Rattle.krl_cache_laws.specs.Lists.{lists_believe}
use Rattle.krl_cache_laws.proofs.plain.PlainCache.adopt_each.Given as goal

abbrev pub invariant-loop-holding : goal.invariant-loop-holding
invariant-loop-holding l = record {
  rules : have_values (drop l.holding-index l.holdings) ≡ true;
  left : adopt_all (drop l.holding-index l.holdings) (lists_believe l.self) ≡ adopt_all l.holdings (lists_believe l.fn.self);
  belief : IsBelief (lists_believe l.fn.self) → IsBelief (lists_believe l.self);
}
