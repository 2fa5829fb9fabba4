use Rattle.krl_table.proofs.Names.{◌≡◌, ◌&&◌, None, sym, ap, ◌∙◌, option_copied, get, is_compatible_in_row, blank_row, wanted, nobody_waits, row_there}
use Rattle.krl_table.proofs.Calls.Raises.{blank_is_compatible}
use Rattle.krl_table.proofs.table.Table.is_free_for.Goals as goal

pub returns-in-None : goal.returns-in-None
returns-in-None c =
    let w = c.args.waiter.now in
    let none : get c.args.self.now.map c.args.slot ≡ None = ap (λ m. get m c.args.slot) (sym (ap (λ s. s.map) c.self.view_is)) ∙ sym c.get.ensures ∙ ap (λ o. option_copied o) c.in-None.is in
    sym (ap (λ o. nobody_waits (row_there o).queue && is_compatible_in_row (row_there o) w.client (wanted (row_there o) w)) none ∙ blank_is_compatible w.client (wanted blank_row w))
