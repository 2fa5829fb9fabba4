use Rattle.krl_cache.proofs.Names.{length, left_of}
use Rattle.krl_cache.proofs.Walked.{Comes}
use Rattle.krl_cache.proofs.walk.first_gap.Given as goal

abbrev pub invariant-loop-point : goal.invariant-loop-point
invariant-loop-point l = Comes l.fn.part l.fn.lo l.fn.hi (left_of l.fn.left) l.p (left_of l.left)

abbrev pub decreases-loop-point : goal.decreases-loop-point
decreases-loop-point l = length (left_of l.left)
