use Rattle.krl_world.proofs.Examples.DownRun.{left, w7, reached, down, scans}
use Rattle.krl_world.proofs.laws.scans_while_down.Goals as goal

pub returns : goal.returns
returns c = (w7, left, reached, down, scans)
