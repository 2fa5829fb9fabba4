use Rattle.krl_cache.proofs.Names.{◌+◌, at, AreNext, left_of}
use Rattle.krl_cache.proofs.Scans.{IsWalked}
use Rattle.krl_cache.proofs.walk.first_unknown.Given as goal

abbrev pub invariant-loop-start : goal.invariant-loop-start
invariant-loop-start l = record {
  walked : IsWalked (at l.starts.entries) (at l.entries.entries) l.lo l.hi l.p l.part;
  next : AreNext (at l.starts.entries) (l.p + 1) l.hi l.start-iterator;
  left : AreNext (at l.entries.entries) l.p l.hi (left_of l.left);
}
