use Rattle.krl_refinement.proofs.Server.Whole.{all_follow}
use Rattle.krl_refinement.proofs.server_follows.Goals as goal

pub returns : goal.returns
returns c = all_follow
