use Rattle.krl_progress.proofs.Manned as lemmas
use Rattle.krl_progress.proofs.laws.manned_worlds_answer.Goals as goal

pub returns : goal.returns
returns c = lemmas.manned_worlds_answer
