use Rattle.krl_progress.proofs.Outlasting as lemmas
use Rattle.krl_progress.proofs.laws.writes_outlast_recoveries.Goals as goal

pub returns : goal.returns
returns c = lemmas.writes_outlast_recoveries
