use Rattle.krl_cache.proofs.Names.{◌≡◌, ℕ, true, false, drop, at, KeepsParts, BeginsAnew, is_end_of}
use Rattle.krl_cache.proofs.several.merge_all.Given as goal

abbrev pub invariant-loop-holding : goal.invariant-loop-holding
invariant-loop-holding l = record {
  kept : KeepsParts (at l.fn.starts.entries) (at l.starts.entries);
  anew : (q : ℕ) → is_end_of l.holdings q ≡ true → is_end_of (drop l.holding-index l.holdings) q ≡ false
      → BeginsAnew (at l.starts.entries) q;
}
