use Rattle.krl_progress.proofs.RecoveryEnds as ends
use Rattle.krl_progress.proofs.laws.recovery_ends.Goals as goal

pub returns : goal.returns
returns c = ends.recovery_ends
