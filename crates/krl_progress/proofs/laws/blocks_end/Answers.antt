use Rattle.krl_progress.proofs.BlocksEnd as lemmas
use Rattle.krl_progress.proofs.laws.blocks_end.Goals as goal

pub returns : goal.returns
returns c = lemmas.blocks_end
