use Rattle.krl_cache.proofs.Names.{ℕ, ◌+◌, Option, Entry, at, AreNext}
use Rattle.krl_cache.proofs.Scans.{IsWalked}
use Rattle.krl_cache.proofs.walk.reads_gaps.Given as goal

abbrev pub invariant-loop-next : goal.invariant-loop-next
invariant-loop-next l =
    (p : ℕ) × ((g : ℕ → Option Entry) → IsWalked (at l.starts.entries) g l.lo l.hi p l.part)
    × AreNext (at l.starts.entries) (p + 1) l.hi l.next-iterator
