use Rattle.krl_cached_table.proofs.Locks as lemmas
use Rattle.krl_cached_table.proofs.locks_are_compatible.Goals as goal

pub returns : goal.returns
returns c = lemmas.locks_are_compatible
