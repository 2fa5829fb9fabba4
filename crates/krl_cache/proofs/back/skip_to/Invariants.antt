use Rattle.krl_cache.proofs.Names.{length, back_of}
use Rattle.krl_cache.proofs.Backs.{Comes}
use Rattle.krl_cache.proofs.back.skip_to.Given as goal

abbrev pub invariant-loop-any : goal.invariant-loop-any
invariant-loop-any l = Comes l.fn.p (back_of l.fn.back) (back_of l.back) l.any

abbrev pub decreases-loop-any : goal.decreases-loop-any
decreases-loop-any l = length (back_of l.back)
