use Rattle.krl_progress.proofs.Manned as lemmas
use Rattle.krl_progress.proofs.laws.requests_are_registered.Goals as goal

pub returns : goal.returns
returns c = lemmas.requests_are_registered
