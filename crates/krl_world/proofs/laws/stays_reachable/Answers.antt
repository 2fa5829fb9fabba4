use Rattle.krl_world.proofs.Functions.Shapes.{reachable_stays}
use Rattle.krl_world.proofs.laws.stays_reachable.Goals as goal

pub returns : goal.returns
returns c = reachable_stays
