use Rattle.krl_progress.proofs.Agreed as lemmas
use Rattle.krl_progress.proofs.laws.requests_are_known.Goals as goal

pub returns : goal.returns
returns c = lemmas.requests_are_known
