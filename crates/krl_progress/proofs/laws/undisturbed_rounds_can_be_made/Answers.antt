use Rattle.krl_progress.proofs.QuietRounds as lemmas
use Rattle.krl_progress.proofs.laws.undisturbed_rounds_can_be_made.Goals as goal

pub returns : goal.returns
returns c = lemmas.undisturbed_rounds_can_be_made
