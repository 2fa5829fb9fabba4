use Rattle.krl_world.proofs.Refinement.Reached.{has_bound}
use Rattle.krl_world.proofs.laws.bound_of_a_run.Goals as goal

pub returns : goal.returns
returns c = has_bound
