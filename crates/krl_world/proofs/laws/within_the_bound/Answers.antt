use Rattle.krl_refinement.proofs.Server.Whole.{all_follow}
use Rattle.krl_world.proofs.Promises.Kept.{bounded_holds, restarts_holds}
use Rattle.krl_world.proofs.laws.within_the_bound.Goals as goal

pub returns-clause-bounded : goal.returns-clause-bounded
returns-clause-bounded c = bounded_holds all_follow

pub returns-clause-restarts : goal.returns-clause-restarts
returns-clause-restarts c = restarts_holds all_follow
