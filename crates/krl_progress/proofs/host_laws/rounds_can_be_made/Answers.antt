use Rattle.krl_progress.proofs.HostMakes as progress
use Rattle.krl_progress.proofs.host_laws.rounds_can_be_made.Goals as goal

pub returns : goal.returns
returns c = progress.rounds_can_be_made
