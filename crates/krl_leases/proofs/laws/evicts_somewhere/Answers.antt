use Rattle.krl_leases.proofs.Somewhere as lemmas
use Rattle.krl_leases.proofs.laws.evicts_somewhere.Goals as goal

pub returns : goal.returns
returns c = lemmas.evicts_somewhere
