use Rattle.krl_table.proofs.Names.{◌≡◌, ℕ, suc, true, false, Option, Some, None, IfSome, sym, ap, subst, add-one, ◌∙◌, arith, nat_tests, nat_lt, END, slot_of, rows_of, IsNextReached}
use Rattle.krl_table.proofs.Calls.Raises.{by_take}
use Rattle.krl_table.proofs.table.Table.next_reached.Goals as goal

-- what holds of the number holds of its point
of_point : (o : Option ℕ) (k : ℕ) (P : ℕ → Type 0) → IfSome o (λ p. p ≡ k) → P k → IfSome o P
of_point None k P h x = tt
of_point (Some p) k P h x = subst P (sym h) x

pub returns-then-is_open_to-clause-some : goal.returns-then-is_open_to-clause-some
returns-then-is_open_to-clause-some c =
    let m = c.args.durable.now.index in let t = c.args.self.now.map in let at = c.args.at in let w = c.args.waiter.now in let next = c.find_by-next.result.point in
    let slot : slot_of m (suc at) ≡ next = ap (slot_of m) (sym (add-one at)) ∙ sym c.find_by-next.ensures.slot in
    let near : nat_lt at END ≡ true = grind (arith, nat_tests, c.if-at-ge-END.false) in
    let below : nat_lt (suc at) w.hi ≡ true = grind (arith, nat_tests, c.if-at-waiter.false) in
    of_point c.new.result next (IsNextReached m t at w) c.new.ensures.point (record {
      slot = slot;
      is_compatible_there = c.is_open_to.ensures.is_compatible_there c.if-is_open_to.true;
      on = by_take m (rows_of t) at next w true near below slot (sym c.is_open_to.ensures.result ∙ c.if-is_open_to.true);
    })

pub returns-else-is_open_to-clause-none : goal.returns-else-is_open_to-clause-none
returns-else-is_open_to-clause-none c =
    let m = c.args.durable.now.index in let t = c.args.self.now.map in let at = c.args.at in let w = c.args.waiter.now in let next = c.find_by-next.result.point in
    let slot : slot_of m (suc at) ≡ next = ap (slot_of m) (sym (add-one at)) ∙ sym c.find_by-next.ensures.slot in
    let near : nat_lt at END ≡ true = grind (arith, nat_tests, c.if-at-ge-END.false) in
    let below : nat_lt (suc at) w.hi ≡ true = grind (arith, nat_tests, c.if-at-waiter.false) in
    by_take m (rows_of t) at next w false near below slot (sym c.is_open_to.ensures.result ∙ c.if-is_open_to.false)
