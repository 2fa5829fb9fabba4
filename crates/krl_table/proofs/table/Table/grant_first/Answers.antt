use Rattle.krl_table.proofs.Names.{◌≡◌, ◌≤◌, ◌<◌, true, IsSome, IfSome, sym, ap, subst, ◌∙◌, get, front_of, is_wanted_compatible, granted_first, rows_of, IsOver, AreListed}
use Rattle.krl_table.proofs.Rows.RowChanges.{set_rows}
use Rattle.krl_table.proofs.Calls.Fronts.{front_client, granted_sound, granted_listed, granted_over}
use Rattle.krl_table.proofs.Invariant.Sounds.{row_end}
use Rattle.krl_table.proofs.Invariant.Within.{same_wider, within_less, free_granted}
use Rattle.krl_table.proofs.table.Table.grant_first.Goals as goal

pub grant-first-requires : goal.grant-first-requires
grant-first-requires c = record {
  there = subst (λ x. IsSome (get x c.args.slot)) (sym (ap (λ s. s.map) c.self.view_is)) c.requires.there;
  client = front_client c.self.inside.rows.map c.args.slot c.self.invariant.0;
}

pub leave-requires : goal.leave-requires
leave-requires c = subst (λ o. IfSome o (λ u. u.client < 64)) (sym c.grant-first.ensures.waiter) (front_client c.self.inside.rows.map c.args.slot c.self.invariant.0)

pub invariant_of-self : goal.invariant_of-self
invariant_of-self c =
    let t = c.self.inside.rows.map in let u = c.grant-first.new.rows.map in let k = c.args.slot in
    let le = row_end t c.self.invariant.0 k (subst (λ x. IsSome (get x k)) (sym (ap (λ s. s.map) c.self.view_is)) c.requires.there) in (
      granted_sound t u k c.self.invariant.0 le c.grant-first.ensures.set (subst (λ x. IfSome (front_of (rows_of x k).queue) (λ w. is_wanted_compatible (rows_of x) k w ≡ true)) (sym (ap (λ s. s.map) c.self.view_is)) c.requires.is_compatible_there),
      subst (λ l. AreListed l u) (sym c.leave.ensures) (granted_listed t u k c.self.invariant.0 le c.grant-first.ensures.set c.self.inside.waiting.by_client c.grant-first.result c.grant-first.ensures.waiter c.self.invariant.1),
      (let es = c.self.inside.extents.by_client in within_less es es t u k _ c.grant-first.ensures.set (same_wider es) c.self.invariant.2 (free_granted (rows_of t k))),
    )

pub returns-clause-granted : goal.returns-clause-granted
returns-clause-granted c n = set_rows c.self.inside.rows.map c.grant-first.new.rows.map c.args.slot _ c.grant-first.ensures.set n
    ∙ ap (λ x. granted_first (rows_of x) c.args.slot n) (ap (λ s. s.map) c.self.view_is)

pub returns-clause-slots : goal.returns-clause-slots
returns-clause-slots c m over =
    let t = c.self.inside.rows.map in let u = c.grant-first.new.rows.map in let k = c.args.slot in
    let there = subst (λ x. IsSome (get x k)) (sym (ap (λ s. s.map) c.self.view_is)) c.requires.there in
    let o = subst (IsOver m) (sym (ap (λ s. s.map) c.self.view_is)) over in
    granted_over t u k c.self.invariant.0 (row_end t c.self.invariant.0 k there) c.grant-first.ensures.set m o (o.within k there)

pub returns-clause-end : goal.returns-clause-end
returns-clause-end c = row_end c.self.inside.rows.map c.self.invariant.0 c.args.slot (subst (λ x. IsSome (get x c.args.slot)) (sym (ap (λ s. s.map) c.self.view_is)) c.requires.there)
