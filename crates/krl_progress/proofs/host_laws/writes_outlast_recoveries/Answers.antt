use Rattle.krl_progress.proofs.HostProgress as progress
use Rattle.krl_progress.proofs.host_laws.writes_outlast_recoveries.Goals as goal

pub returns : goal.returns
returns c = progress.writes_outlast_recoveries
