use Rattle.krl_machine.proofs.Writes.{writes_once}
use Rattle.krl_machine.proofs.once.Goals as goal

pub returns : goal.returns
returns c = writes_once
