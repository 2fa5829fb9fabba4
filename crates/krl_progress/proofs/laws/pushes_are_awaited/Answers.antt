use Rattle.krl_progress.proofs.Awaited as lemmas
use Rattle.krl_progress.proofs.laws.pushes_are_awaited.Goals as goal

pub returns : goal.returns
returns c = lemmas.pushes_are_awaited
