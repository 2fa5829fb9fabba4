use Rattle.krl_progress.proofs.HostQuiet as progress
use Rattle.krl_progress.proofs.host_laws.somebody_is_answered.Goals as goal

pub returns : goal.returns
returns c = progress.somebody_is_answered
