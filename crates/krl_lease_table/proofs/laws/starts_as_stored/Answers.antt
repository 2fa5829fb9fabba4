use Rattle.krl_lease_table.proofs.Starting as lemmas
use Rattle.krl_lease_table.proofs.laws.starts_as_stored.Goals as goal

pub returns : goal.returns
returns c = lemmas.starts_as_stored
