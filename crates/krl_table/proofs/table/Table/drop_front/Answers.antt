use Rattle.krl_table.proofs.Names.{◌≡◌, ◌≤◌, ◌<◌, Some, None, true, IsSome, IfSome, Option, sym, ap, subst, refl, ◌∙◌, is_some, get, SlotRow, rows_of, IsOver, AreListed}
use Rattle.krl_table.proofs.Calls.Fronts.{front_client, dropped_sound, dropped_listed, dropped_over}
use Rattle.krl_table.proofs.Invariant.Sounds.{row_end}
use Rattle.krl_table.proofs.Invariant.Within.{same_wider, within_less, free_behind}
use Rattle.krl_table.proofs.table.Table.drop_front.Goals as goal

some_of : (o : Option SlotRow) → is_some o ≡ true → IsSome o
some_of None e = absurd (cc)
some_of (Some r) e = refl

pub leave-requires : goal.leave-requires
leave-requires c = subst (λ o. IfSome o (λ u. u.client < 64)) (sym c.drop_front-first.ensures.waiter) (front_client c.self.inside.rows.map c.args.slot c.self.invariant.0)

pub invariant_of-self : goal.invariant_of-self
invariant_of-self c =
    let t = c.self.inside.rows.map in let u = c.drop_front-first.new.rows.map in let k = c.args.slot in
    let le = row_end t c.self.invariant.0 k (some_of (get t k) (ap (λ x. is_some (get x k)) (ap (λ s. s.map) c.self.view_is) ∙ sym c.has_row.ensures ∙ c.if-has_row.true)) in (
      dropped_sound t u k c.self.invariant.0 le c.drop_front-first.ensures.set,
      subst (λ l. AreListed l u) (sym c.leave.ensures) (dropped_listed t u k c.self.invariant.0 le c.drop_front-first.ensures.set c.self.inside.waiting.by_client c.drop_front-first.result c.drop_front-first.ensures.waiter c.self.invariant.1),
      (let es = c.self.inside.extents.by_client in within_less es es t u k _ c.drop_front-first.ensures.set (same_wider es) c.self.invariant.2 (free_behind (rows_of t k))),
    )

pub returns-then-has_row-clause-slots : goal.returns-then-has_row-clause-slots
returns-then-has_row-clause-slots c m over =
    let t = c.self.inside.rows.map in let u = c.drop_front-first.new.rows.map in let k = c.args.slot in
    let o = subst (IsOver m) (sym (ap (λ s. s.map) c.self.view_is)) over in
    dropped_over t u k c.self.invariant.0 (row_end t c.self.invariant.0 k (some_of (get t k) (ap (λ x. is_some (get x k)) (ap (λ s. s.map) c.self.view_is) ∙ sym c.has_row.ensures ∙ c.if-has_row.true))) c.drop_front-first.ensures.set m o (o.within k (some_of (get t k) (ap (λ x. is_some (get x k)) (ap (λ s. s.map) c.self.view_is) ∙ sym c.has_row.ensures ∙ c.if-has_row.true)))
