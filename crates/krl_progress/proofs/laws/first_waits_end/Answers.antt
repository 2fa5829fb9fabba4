use Rattle.krl_progress.proofs.FirstWaits as lemmas
use Rattle.krl_progress.proofs.laws.first_waits_end.Goals as goal

pub returns : goal.returns
returns c = lemmas.first_waits_end
