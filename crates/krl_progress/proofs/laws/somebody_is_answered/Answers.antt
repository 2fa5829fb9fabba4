use Rattle.krl_progress.proofs.Somebody as lemmas
use Rattle.krl_progress.proofs.laws.somebody_is_answered.Goals as goal

pub returns : goal.returns
returns c = lemmas.somebody_is_answered
