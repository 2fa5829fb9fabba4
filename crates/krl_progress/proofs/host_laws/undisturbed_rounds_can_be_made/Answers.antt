use Rattle.krl_progress.proofs.HostQuiet as progress
use Rattle.krl_progress.proofs.host_laws.undisturbed_rounds_can_be_made.Goals as goal

pub returns : goal.returns
returns c = progress.undisturbed_rounds_can_be_made
