use Rattle.krl_progress.proofs.Lateness as lemmas
use Rattle.krl_progress.proofs.laws.somebody_moves_on.Goals as goal

pub returns : goal.returns
returns c = lemmas.somebody_moves_on
