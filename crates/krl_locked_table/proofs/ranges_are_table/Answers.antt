use Rattle.krl_locked_table.proofs.Promised as lemmas
use Rattle.krl_locked_table.proofs.ranges_are_table.Goals as goal

pub returns : goal.returns
returns c = lemmas.ranges_are_table
