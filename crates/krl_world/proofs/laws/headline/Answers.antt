use Rattle.krl_refinement.proofs.Server.Whole.{all_follow}
use Rattle.krl_world.proofs.Promises.Kept.{headline_holds}
use Rattle.krl_world.proofs.laws.headline.Goals as goal

pub returns : goal.returns
returns c = headline_holds all_follow
