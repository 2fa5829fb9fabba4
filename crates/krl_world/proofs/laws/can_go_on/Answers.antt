use Rattle.krl_refinement.proofs.Server.Whole.{all_follow}
use Rattle.krl_world.proofs.Progress.CanGoOn.{can_go_on}
use Rattle.krl_world.proofs.laws.can_go_on.Goals as goal

pub returns : goal.returns
returns c = can_go_on all_follow
