use Rattle.krl_machine.proofs.Bounds.{bound_stays}
use Rattle.krl_machine.proofs.bound_stays.Goals as goal

pub returns : goal.returns
returns c = bound_stays
