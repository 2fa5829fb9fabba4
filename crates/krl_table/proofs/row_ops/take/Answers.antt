use Rattle.std.proofs.Common.{◌≡◌, Some, None, IsSome, sym, ap, subst, ◌∙◌, refl}
use Rattle.std.specs.FinMap as map
use Rattle.krl_table.proofs.Rows.RowChanges.{eq_cases, insert_other, insert_same}
use Rattle.krl_table.proofs.row_ops.take.Goals as goal

pub returns-in-Some-clause-others : goal.returns-in-Some-clause-others
returns-in-Some-clause-others c n ne = ap (λ s. map.get s.map n) c.in-Some.ensures.replaced ∙ insert_other c.args.rows.now.map c.args.slot c.blank.result n ne

pub returns-in-Some-clause-room : goal.returns-in-Some-clause-room
returns-in-Some-clause-room c h e = absurd (let bad : Some c.blank.result ≡ None = sym (insert_same c.args.rows.now.map c.args.slot c.blank.result) ∙ sym (ap (λ s. map.get s.map c.args.slot) c.in-Some.ensures.replaced) ∙ e in cc)

pub returns-in-Some-clause-there : goal.returns-in-Some-clause-there
returns-in-Some-clause-there c h e = absurd (let bad : Some c.blank.result ≡ None = sym (insert_same c.args.rows.now.map c.args.slot c.blank.result) ∙ sym (ap (λ s. map.get s.map c.args.slot) c.in-Some.ensures.replaced) ∙ e in cc)

pub returns-in-Some-clause-stays : goal.returns-in-Some-clause-stays
returns-in-Some-clause-stays c h = subst IsSome (sym (ap (λ s. map.get s.map c.args.slot) c.in-Some.ensures.replaced ∙ insert_same c.args.rows.now.map c.args.slot c.blank.result)) refl

pub returns-in-Some-clause-kept : goal.returns-in-Some-clause-kept
returns-in-Some-clause-kept c n h = eq_cases n c.args.slot
    (λ e. subst (λ k. IsSome (map.get c.args.rows.now.map k)) (sym e) (subst IsSome c.in-Some.ensures.before refl))
    (λ ne. subst IsSome (ap (λ s. map.get s.map n) c.in-Some.ensures.replaced ∙ insert_other c.args.rows.now.map c.args.slot c.blank.result n ne) h)
