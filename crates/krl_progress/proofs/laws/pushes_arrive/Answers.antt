use Rattle.krl_progress.proofs.PushesArrive as lemmas
use Rattle.krl_progress.proofs.laws.pushes_arrive.Goals as goal

pub returns : goal.returns
returns c = lemmas.pushes_arrive
