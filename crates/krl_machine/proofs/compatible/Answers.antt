use Rattle.krl_machine.proofs.Runs.{always_compatible}
use Rattle.krl_machine.proofs.compatible.Goals as goal

pub returns : goal.returns
returns c = always_compatible
