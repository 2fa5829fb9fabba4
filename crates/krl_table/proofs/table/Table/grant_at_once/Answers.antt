use Rattle.krl_table.proofs.Names.{◌≡◌, ◌-◌, ◌++◌, ◌∷◌, [], Bool, true, false, ◌&&◌, length, refl, sym, ap, subst, ◌∙◌, arith, fun_ext, slot_of, IsSlotOf, Rows, raised_on, is_wanted_compatible}
use Rattle.krl_table.proofs.Names.{nobody_waits, reached_after, rows_of}
use Rattle.krl_table.proofs.Calls.Answering.{lacks_is}
use Rattle.krl_table.proofs.Calls.Raises.{one_noted, unwrapped}
use Rattle.krl_table.proofs.Calls.AtOnce.{at_once_is, at_once_granted, at_once_reached}
use Rattle.krl_table.proofs.table.Table.grant_at_once.Goals as goal

first_of_two : (a b : Bool) → (a && b) ≡ true → a ≡ true
first_of_two true b e = refl
first_of_two false b e = e

pub returns-clause-when : goal.returns-clause-when
returns-clause-when c =
    let m = c.args.durable.now.index in let rows = rows_of c.args.self.now.map in let w = c.args.waiter.now in let k = c.slot_of-slot.result in
    let is_free : c.is_free_for.result ≡ true = grind (arith, c.if-not-is_free_for.false) in
    let at : slot_of m w.point ≡ k = ap (slot_of m) (sym c.get.ensures.number) ∙ sym c.slot_of-slot.ensures.slot in
    let slot = subst (λ p. IsSlotOf m p k) c.get.ensures.number (c.slot_of-slot.ensures.least c.get.ensures.in_range) in
    sym (at_once_is m rows w k true false at (sym c.is_free_for.ensures ∙ is_free)
    (sym (lacks_is m c.requires.over.near k w slot) ∙ sym c.asks_absent.ensures ∙ c.if-asks_absent.false))

pub returns-clause-granted : goal.returns-clause-granted
returns-clause-granted c n =
    let m = c.args.durable.now.index in let rows = rows_of c.args.self.now.map in let w = c.args.waiter.now in let k = c.slot_of-slot.result in
    let is_free : c.is_free_for.result ≡ true = grind (arith, c.if-not-is_free_for.false) in
    let at : slot_of m w.point ≡ k = ap (slot_of m) (sym c.get.ensures.number) ∙ sym c.slot_of-slot.ensures.slot in
    let free = first_of_two (nobody_waits (rows k).queue) (is_wanted_compatible rows k w) (sym c.is_free_for.ensures
    ∙ is_free) in
    let j = c.args.durable.now.reach in
    let many = one_noted j c.new-reached.result.items c.push.new.self.items _ c.new-reached.ensures c.push.ensures.items in
    ap (λ (r : Rows). r n) (c.go_on.ensures.rows
    ∙ ap (λ i. raised_on (rows_of c.raise.new.self.map) (reached_after m (rows_of c.raise.new.self.map) k w i) w) many
    ∙ ap (λ (r : Rows). raised_on r (reached_after m r k w (j - 1)) w) (fun_ext c.raise.ensures.raised)
    ∙ sym (at_once_granted m rows w k at free j))

pub returns-clause-reached : goal.returns-clause-reached
returns-clause-reached c =
    let m = c.args.durable.now.index in let rows = rows_of c.args.self.now.map in let w = c.args.waiter.now in let k = c.slot_of-slot.result in
    let is_free : c.is_free_for.result ≡ true = grind (arith, c.if-not-is_free_for.false) in
    let at : slot_of m w.point ≡ k = ap (slot_of m) (sym c.get.ensures.number) ∙ sym c.slot_of-slot.ensures.slot in
    let free = first_of_two (nobody_waits (rows k).queue) (is_wanted_compatible rows k w) (sym c.is_free_for.ensures
    ∙ is_free) in
    let j = c.args.durable.now.reach in
    let many = one_noted j c.new-reached.result.items c.push.new.self.items _ c.new-reached.ensures c.push.ensures.items in
    let point = unwrapped c.new.result c.unwrap.result k c.unwrap.ensures c.new.ensures.point in
    c.go_on.ensures.reached
    ∙ ap (λ l. l ++ reached_after m (rows_of c.raise.new.self.map) k w (j - length c.push.new.self.items)) (c.push.ensures.items ∙ ap (λ l. l ++ c.unwrap.result ∷ []) c.new-reached.ensures)
    ∙ ap (λ i. i ∷ reached_after m (rows_of c.raise.new.self.map) k w (j - length c.push.new.self.items)) point
    ∙ ap (λ i. k ∷ reached_after m (rows_of c.raise.new.self.map) k w i) many
    ∙ ap (λ (r : Rows). k ∷ reached_after m r k w (j - 1)) (fun_ext c.raise.ensures.raised)
    ∙ sym (at_once_reached m rows w k at free j)
