use Rattle.std.proofs.Common.{◌≡◌, ◌<◌, Some, None, IfSome, IfNone, List, [], ◌∷◌, slice_get, refl, sym, ap, subst, ◌∙◌}
use Rattle.krl_table.proofs.Names.{get, Waiter, front_of, row_there, rows_of}
use Rattle.krl_table.proofs.Rows.RowChanges.{front-is}
use Rattle.krl_table.proofs.Calls.Fronts.{front_client}
use Rattle.krl_table.proofs.table.Table.first.Goals as goal

no_first : (us : List Waiter) → slice_get us 0 ≡ None → us ≡ []
no_first [] e = refl
no_first (u ∷ us) e = absurd (cc)

pub returns-in_err-waiter-clause-none : goal.returns-in_err-waiter-clause-none
returns-in_err-waiter-clause-none c =
    let here : get c.args.self.now.map c.args.slot ≡ Some c.in_ok-row.row.now = ap (λ m. get m c.args.slot) (sym (ap (λ s. s.map) c.self.view_is)) ∙ sym c.in_ok-row.ensures in
    let none = ap (λ o. (row_there o).queue) here ∙ no_first c.in_ok-row.row.now.queue (sym c.in_err-waiter.ensures) in
    subst (λ o. IfNone o ((rows_of c.args.self.now.map c.args.slot).queue ≡ [])) (sym c.from_residual-in_err-waiter.ensures) none

pub returns-clause-client : goal.returns-clause-client
returns-clause-client c =
    let t = c.self.inside.rows.map in
    let here : get t c.args.slot ≡ Some c.in_ok-row.row.now = sym c.in_ok-row.ensures in
    let is = sym c.in_ok-waiter.was ∙ c.front.ensures ∙ front-is c.in_ok-row.row.now.queue ∙ sym (ap (λ o. front_of (row_there o).queue) here) in
    subst (λ o. IfSome o (λ u. u.client < 64)) (sym is) (front_client t c.args.slot c.self.invariant.0)
