use Rattle.krl_split.proofs.Answered as lemmas
use Rattle.krl_split.proofs.answered_somewhere.Goals as goal

pub returns : goal.returns
returns c = lemmas.answered_somewhere
