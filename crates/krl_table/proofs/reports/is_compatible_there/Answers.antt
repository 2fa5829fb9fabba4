use Rattle.krl_table.proofs.Names.{sym, ap, ◌∙◌, is_compatible_in_row, row_there}
use Rattle.krl_table.proofs.Calls.Raises.{blank_is_compatible}
use Rattle.krl_table.proofs.reports.is_compatible_there.Goals as goal

pub returns-in-None : goal.returns-in-None
returns-in-None c = sym (ap (λ o. is_compatible_in_row (row_there o) c.args.client c.args.mode) (sym c.get.ensures ∙ ap (λ o. Rattle.std.specs.Prelude.option_copied o) c.in-None.is) ∙ blank_is_compatible c.args.client c.args.mode)
