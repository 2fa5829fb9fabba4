use Rattle.krl_table.proofs.Names.{◌≡◌, ◌<◌, Some, IfSome, sym, ap, subst, ◌∙◌, get, front_of, row_there}
use Rattle.krl_table.proofs.Rows.RowChanges.{front-is}
use Rattle.krl_table.proofs.Calls.Fronts.{front_client}
use Rattle.krl_table.proofs.table.Table.front.Goals as goal

pub returns-in-Some-clause-client : goal.returns-in-Some-clause-client
returns-in-Some-clause-client c =
    let t = c.self.inside.rows.map in
    let here : get t c.args.slot ≡ Some c.in-Some.row.now = sym c.in-Some.ensures in
    let is = c.front.ensures ∙ front-is c.in-Some.row.now.queue ∙ sym (ap (λ o. front_of (row_there o).queue) here) in
    subst (λ o. IfSome o (λ u. u.client < 64)) (sym is) (front_client t c.args.slot c.self.invariant.0)
