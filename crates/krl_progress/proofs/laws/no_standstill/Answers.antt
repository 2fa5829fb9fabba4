use Rattle.krl_progress.proofs.Standstill as lemmas
use Rattle.krl_progress.proofs.laws.no_standstill.Goals as goal

pub returns : goal.returns
returns c = lemmas.no_standstill
