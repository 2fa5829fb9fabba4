use Rattle.krl_table.proofs.Names.{◌≡◌, Bool, true, false, not, ◌&&◌, Some, None, nat_eq, refl, sym, ap, subst, ◌∙◌, option_copied, get, END, needs_entry, is_compatible_in_row, blank_row, wanted}
use Rattle.krl_table.proofs.Names.{nobody_waits, row_of, row_there, is_row_open}
use Rattle.krl_table.proofs.Calls.Raises.{blank_is_compatible}
use Rattle.krl_table.proofs.table.Table.is_open_to.Goals as goal

second : (a b d : Bool) → (a && (b && d)) ≡ true → b ≡ true
second true true d e = refl
second true false d e = absurd (cc)
second false b d e = absurd (cc)

pub returns-in-Some-clause-result : goal.returns-in-Some-clause-result
returns-in-Some-clause-result c =
    let here : get c.args.self.now.map c.args.slot ≡ Some c.in-Some.row.now = ap (λ m. get m c.args.slot) (sym (ap (λ s. s.map) c.self.view_is)) ∙ sym c.in-Some.ensures in
    c.is_row_open.ensures ∙ ap (λ o. is_row_open c.args.slot (row_there o) c.args.waiter.now) (sym here)

pub returns-in-Some-clause-is_compatible_there : goal.returns-in-Some-clause-is_compatible_there
returns-in-Some-clause-is_compatible_there c e =
    let w = c.args.waiter.now in
    let here : get c.args.self.now.map c.args.slot ≡ Some c.in-Some.row.now = ap (λ m. get m c.args.slot) (sym (ap (λ s. s.map) c.self.view_is)) ∙ sym c.in-Some.ensures in
    subst (λ o. is_compatible_in_row (row_there o) w.client (wanted (row_there o) w) ≡ true) (sym here)
    (second (nobody_waits c.in-Some.row.now.queue) (is_compatible_in_row (row_of c.in-Some.row.now) w.client (wanted (row_of c.in-Some.row.now) w)) (not (needs_entry w.mode && nat_eq c.args.slot END)) (sym c.is_row_open.ensures ∙ e))

pub returns-in-None-clause-result : goal.returns-in-None-clause-result
returns-in-None-clause-result c =
    let w = c.args.waiter.now in
    let none : get c.args.self.now.map c.args.slot ≡ None = ap (λ m. get m c.args.slot) (sym (ap (λ s. s.map) c.self.view_is)) ∙ sym c.get.ensures ∙ ap (λ o. option_copied o) c.in-None.is in
    ap not c.lacks_entry.ensures ∙ sym (ap (λ o. is_row_open c.args.slot (row_there o) w) none ∙ ap (λ b. b && not (needs_entry w.mode && nat_eq c.args.slot END)) (blank_is_compatible w.client (wanted blank_row w)))

pub returns-in-None-clause-is_compatible_there : goal.returns-in-None-clause-is_compatible_there
returns-in-None-clause-is_compatible_there c e =
    let w = c.args.waiter.now in
    let none : get c.args.self.now.map c.args.slot ≡ None = ap (λ m. get m c.args.slot) (sym (ap (λ s. s.map) c.self.view_is)) ∙ sym c.get.ensures ∙ ap (λ o. option_copied o) c.in-None.is in
    ap (λ o. is_compatible_in_row (row_there o) w.client (wanted (row_there o) w)) none
    ∙ blank_is_compatible w.client (wanted blank_row w)
