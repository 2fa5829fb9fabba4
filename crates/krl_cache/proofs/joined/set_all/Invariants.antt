use Rattle.krl_cache.proofs.Names.{drop, at}
use Rattle.krl_cache.proofs.Beside.{IsSetting}
use Rattle.krl_cache.proofs.joined.set_all.Given as goal

abbrev pub invariant-loop-holding : goal.invariant-loop-holding
invariant-loop-holding l = IsSetting l.holdings (at l.fn.entries.entries) (drop l.holding-index l.holdings) (at l.entries.entries)
