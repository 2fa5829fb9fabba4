use Rattle.krl_lease_table.proofs.Somewhere as lemmas
use Rattle.krl_lease_table.proofs.laws.evicts_somewhere.Goals as goal

pub returns : goal.returns
returns c = lemmas.evicts_somewhere
