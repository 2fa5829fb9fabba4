use Rattle.krl_machine.proofs.Witness.{world2, reach2, it_reads}
use Rattle.krl_machine.proofs.can_hold.Goals as goal

pub returns : goal.returns
returns c = (world2, reach2, it_reads)
