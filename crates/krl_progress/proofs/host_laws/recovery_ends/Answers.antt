use Rattle.krl_progress.proofs.HostProgress as progress
use Rattle.krl_progress.proofs.host_laws.recovery_ends.Goals as goal

pub returns : goal.returns
returns c = progress.recovery_ends
