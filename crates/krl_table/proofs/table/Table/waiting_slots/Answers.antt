use Rattle.krl_table.proofs.Names.{ap, ◌≡◌, ◌+◌, ◌≤◌, ◌++◌, ◌∷◌, [], suc, ℕ, sym, subst, add-one, arith, Index, IsSlotOf, END, IsSound, AreListed}
use Rattle.krl_table.proofs.Rows.NextWaiting.{AreFound, count_from, none_found, all_found, fewer_left, room_for_slot, one_found}
use Rattle.krl_table.proofs.table.Table.waiting_slots.Goals as goal

-- the slot, as it was found
found : (m : Index) (p q s : ℕ) → p ≡ q → p ≤ END → (p ≤ END → IsSlotOf m p s) → IsSlotOf m q s
found m p q s e le h = subst (λ x. IsSlotOf m x s) e (h le)

pub loop-point-init : goal.loop-point-init
loop-point-init c = subst (AreFound c.args.durable.now.index c.args.self.now.map c.self.inside.waiting.by_client 0) (sym c.new-slots.ensures)
    (none_found c.args.durable.now.index c.args.self.now.map c.requires (subst IsSound (ap (λ s. s.map) c.self.view_is) c.self.invariant.0) c.self.inside.waiting.by_client (subst (AreListed c.self.inside.waiting.by_client) (ap (λ s. s.map) c.self.view_is) c.self.invariant.1))

pub push-requires : goal.push-requires
push-requires c = (
  omega arith,
  room_for_slot c.args.durable.now.index c.args.self.now.map c.requires (subst IsSound (ap (λ s. s.map) c.self.view_is) c.self.invariant.0) c.self.inside.waiting.by_client (subst (AreListed c.self.inside.waiting.by_client) (ap (λ s. s.map) c.self.view_is) c.self.invariant.1) c.loop-point.low c.loop-point.slots.items c.loop-point.invariant c.in-Some.point c.slot_of-slot.result c.in-Some.ensures
      (found c.args.durable.now.index c.get.result c.in-Some.point c.slot_of-slot.result c.get.ensures.number c.get.ensures.in_range c.slot_of-slot.ensures.least),
)

pub loop-point-smaller : goal.loop-point-smaller
loop-point-smaller c =
    let less = fewer_left c.args.durable.now.index c.args.self.now.map c.requires (subst IsSound (ap (λ s. s.map) c.self.view_is) c.self.invariant.0) c.self.inside.waiting.by_client (subst (AreListed c.self.inside.waiting.by_client) (ap (λ s. s.map) c.self.view_is) c.self.invariant.1) c.loop-point.low c.loop-point.slots.items c.loop-point.invariant c.in-Some.point c.slot_of-slot.result c.in-Some.ensures
    (found c.args.durable.now.index c.get.result c.in-Some.point c.slot_of-slot.result c.get.ensures.number c.get.ensures.in_range c.slot_of-slot.ensures.least) in
    subst (λ n. suc (count_from n c.self.inside.waiting.by_client) ≤ count_from c.loop-point.low c.self.inside.waiting.by_client) (sym (add-one c.slot_of-slot.result)) less

pub loop-point-preserved : goal.loop-point-preserved
loop-point-preserved c =
    let m = c.args.durable.now.index in let t = c.args.self.now.map in let ws = c.self.inside.waiting.by_client in
    subst (λ l. AreFound m t ws (c.slot_of-slot.result + 1) l) (sym c.push.ensures.items)
    (subst (λ n. AreFound m t ws n (c.loop-point.slots.items ++ c.slot_of-slot.result ∷ [])) (sym (add-one c.slot_of-slot.result))
    (one_found m t c.requires (subst IsSound (ap (λ s. s.map) c.self.view_is) c.self.invariant.0) ws (subst (AreListed ws) (ap (λ s. s.map) c.self.view_is) c.self.invariant.1) c.loop-point.low c.loop-point.slots.items c.loop-point.invariant c.in-Some.point c.slot_of-slot.result c.in-Some.ensures
    (found m c.get.result c.in-Some.point c.slot_of-slot.result c.get.ensures.number c.get.ensures.in_range c.slot_of-slot.ensures.least)))

pub returns-clause-slots : goal.returns-clause-slots
returns-clause-slots c = all_found c.args.durable.now.index c.args.self.now.map c.requires (subst IsSound (ap (λ s. s.map) c.self.view_is) c.self.invariant.0) c.self.inside.waiting.by_client (subst (AreListed c.self.inside.waiting.by_client) (ap (λ s. s.map) c.self.view_is) c.self.invariant.1) c.loop-point.low c.loop-point.slots.items c.loop-point.invariant c.in_default.ensures
