use Rattle.krl_lease_table.proofs.Evicted as lemmas
use Rattle.krl_lease_table.proofs.laws.evicted_answer_nothing.Goals as goal

pub returns : goal.returns
returns c = lemmas.evicted_answer_nothing
