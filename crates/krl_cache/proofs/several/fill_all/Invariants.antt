use Rattle.krl_cache.proofs.Names.{drop, at}
use Rattle.krl_cache.proofs.Rooms.{IsFilling}
use Rattle.krl_cache.proofs.several.fill_all.Given as goal

abbrev pub invariant-loop-holding : goal.invariant-loop-holding
invariant-loop-holding l = IsFilling l.holdings (at l.fn.starts.entries) (at l.fn.entries.entries) (drop l.holding-index l.holdings) (at l.starts.entries) (at l.entries.entries)
