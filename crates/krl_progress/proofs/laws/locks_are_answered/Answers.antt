use Rattle.krl_progress.proofs.LocksAnswered as lemmas
use Rattle.krl_progress.proofs.laws.locks_are_answered.Goals as goal

pub returns : goal.returns
returns c = lemmas.locks_are_answered
