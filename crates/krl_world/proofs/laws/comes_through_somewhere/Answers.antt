use Rattle.krl_world.proofs.Examples.RestartRun.{whole, c27, resumed, told_back, second, reported, serves, told_applied, listed}
use Rattle.krl_world.proofs.Examples.RestartRun.{without}
use Rattle.krl_world.proofs.laws.comes_through_somewhere.Goals as goal

pub returns : goal.returns
returns c = (c27, record { reached = resumed; called_back = told_back; epoch = second; reports = reported; serves = serves; told = (whole, told_applied); listed = listed; gone = without })
