use Rattle.krl_world.proofs.Examples.Running.{w6, reached, scans}
use Rattle.krl_world.proofs.laws.scans_somewhere.Goals as goal

pub returns : goal.returns
returns c = (w6, reached, scans)
