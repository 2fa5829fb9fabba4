use Rattle.krl_progress.proofs.Answering as lemmas
use Rattle.krl_progress.proofs.laws.writes_are_answered.Goals as goal

pub returns : goal.returns
returns c = lemmas.writes_are_answered
