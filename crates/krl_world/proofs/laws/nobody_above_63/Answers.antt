use Rattle.krl_world.proofs.Functions.Shapes.{nobody_above_63}
use Rattle.krl_world.proofs.laws.nobody_above_63.Goals as goal

pub returns : goal.returns
returns c = nobody_above_63
