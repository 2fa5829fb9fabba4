use Rattle.std.proofs.Common.{refl}
use Rattle.krl_text.specs.Printing.{modes_lines}
use Rattle.krl_text.proofs.laws.modes_prints_the_tables.Goals as goal

pub returns : goal.returns
unfolding modes_lines
returns c = refl
