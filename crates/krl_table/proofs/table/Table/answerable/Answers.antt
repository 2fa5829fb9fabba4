use Rattle.krl_table.proofs.Names.{◌≡◌, ◌<◌, true, Some, IfSome, sym, ap, subst, ◌∙◌, arith, get, is_compatible_in_row, front_of, wanted, answerable, row_reply, row_of, row_there, rows_of, IsOver}
use Rattle.krl_table.proofs.Calls.Fronts.{front_client}
use Rattle.krl_table.proofs.Calls.Answering.{reply_is, reply_grants}
use Rattle.krl_table.proofs.table.Table.answerable.Goals as goal

pub reply-requires : goal.reply-requires
reply-requires c =
    let here : get c.self.inside.rows.map c.args.slot ≡ Some c.in-Some.row.now = sym c.in-Some.ensures in
    subst (λ o. IfSome (front_of (row_there o).queue) (λ u. u.client < 64)) here (front_client c.self.inside.rows.map c.args.slot c.self.invariant.0)

pub returns-in-Some-clause-answer : goal.returns-in-Some-clause-answer
returns-in-Some-clause-answer c m over =
    let t = c.self.inside.rows.map in
    let here : get t c.args.slot ≡ Some c.in-Some.row.now = sym c.in-Some.ensures in
    let acked : c.args.acked ≡ true = grind (arith, c.if-not-acked.false) in
    c.reply.ensures ∙ ap (λ o. row_reply c.args.slot (row_there o)) (sym here) ∙ reply_is m t (subst (IsOver m) (sym (ap (λ s. s.map) c.self.view_is)) over) c.args.slot
    ∙ ap (λ x. answerable m (rows_of x) c.args.slot true) (ap (λ s. s.map) c.self.view_is)
    ∙ ap (answerable m (rows_of c.args.self.now.map) c.args.slot) (sym acked)

pub returns-in-Some-clause-grants : goal.returns-in-Some-clause-grants
returns-in-Some-clause-grants c is =
    let t = c.self.inside.rows.map in
    let here : get t c.args.slot ≡ Some c.in-Some.row.now = sym c.in-Some.ensures in
    let row = ap (λ x. rows_of x c.args.slot) (sym (ap (λ s. s.map) c.self.view_is)) ∙ ap row_there here in
    subst (λ x. IfSome (front_of x.queue) (λ u. is_compatible_in_row x u.client (wanted x u) ≡ true)) (sym row) (reply_grants c.args.slot (row_of c.in-Some.row.now) (sym c.reply.ensures ∙ is))
