use Rattle.krl_machine.proofs.Runs.{always_bounded}
use Rattle.krl_machine.proofs.bounded.Goals as goal

pub returns : goal.returns
returns c = always_bounded
