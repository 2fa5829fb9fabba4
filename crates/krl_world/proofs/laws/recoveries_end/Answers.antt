use Rattle.krl_refinement.proofs.Server.Whole.{all_follow}
use Rattle.krl_world.proofs.Promises.Closing.{recoveries_end}
use Rattle.krl_world.proofs.laws.recoveries_end.Goals as goal

pub returns : goal.returns
returns c = recoveries_end all_follow
