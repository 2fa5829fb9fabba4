use Rattle.krl_locked_table.proofs.Somewhere as lemmas
use Rattle.krl_locked_table.proofs.answers_somewhere.Goals as goal

pub returns : goal.returns
returns c = lemmas.answers_somewhere
