use Rattle.std.proofs.Common.{ℕ, ◌≡◌, ◌≤◌, ◌<◌, ◌∙◌, Bool, true, Option, Some, sym, ap, subst, ⊎_elim, arith}
use Rattle.std.specs.Prelude.{IfSome}
use Rattle.std.proofs.lemmas.Bool.{cases_lt}
use Rattle.krl_modes.specs.declared.point.TheConstants.{END}
use Rattle.krl_durable.specs.Index.{is_slot, slot_of}
use Rattle.krl_durable.specs.Slots.{IsSlotOf}
use Rattle.krl_durable.specs.Registers.{Durable}
use Rattle.krl_durable.specs.Kept.{IsKept}
use Rattle.krl_durable.proofs.SlotLaws.{near_end}
use Rattle.krl_table.proofs.Rows.Slots.{slot_end, slot_is}
use Rattle.krl_server.specs.Servers.{Server}
use Rattle.krl_server.specs.StateMeaning.{meaning}
use Rattle.krl_server.specs.Waits.{may_read}
use Rattle.krl_embed.proofs.server_shows.may_read_each.Goals as goal

-- a slot of what survives is a point
slot_is_point : (d : Durable) → IsKept d → (n : ℕ) → is_slot d.index n ≡ true → n ≤ END
slot_is_point d kept n there = slot_end d.index (near_end d.index kept.keys) n there

-- the points from one on up to its slot have the same slot
same_slot : (d : Durable) → IsKept d → (p q n : ℕ) → IsSlotOf d.index p n → p ≤ q → q ≤ n → slot_of d.index q ≡ n
same_slot d kept p q n is from to =
    let high = slot_is_point d kept n is.slot in
    slot_is d.index (near_end d.index kept.keys) q n (omega (arith, to, high))
    (record { slot = is.slot; above = to; least = λ k a b. is.least k (omega (arith, from, a)) b })

pub unwrap-requires : goal.unwrap-requires
unwrap-requires c =
    c.new.ensures.in_range.1 (slot_is_point c.durable-durable.result.now c.epoch-kept.ensures.kept c.find_by-slot.result.point c.find_by-slot.ensures.least.slot)

-- the point has this slot, which the answer is about
shown_at : (s : Server) (d : Durable) (c q n slot : ℕ) (o : Option ℕ) (b : Bool) → d ≡ s.durable → slot_of d.index q ≡ n → IfSome o (λ p. p ≡ n) → o ≡ Some slot → b ≡ may_read s c slot → may_read s c (slot_of s.durable.index q) ≡ b
shown_at s d c q n slot o b is at point new shows =
    let slot_is_n : slot ≡ n = subst (λ (x : Option ℕ). IfSome x (λ p. p ≡ n)) new point in
    ap (λ (x : Durable). may_read s c (slot_of x.index q)) (sym is) ∙ ap (may_read s c) (at ∙ sym slot_is_n) ∙ sym shows

pub returns-then-not-may_read : goal.returns-then-not-may_read
returns-then-not-may_read c = (
  c.loop-point.point,
  c.loop-point.invariant.0,
  c.loop-point-test.true,
  shown_at (meaning c.args.server.now) c.durable-durable.result.now c.args.client c.loop-point.point c.find_by-slot.result.point c.unwrap.result c.new.result c.may_read.result c.durable-durable.ensures (sym c.find_by-slot.ensures.slot) c.new.ensures.point c.unwrap.ensures c.may_read.ensures
      ∙ c.if-not-may_read.true,
)

pub loop-point-preserved : goal.loop-point-preserved
loop-point-preserved c = (
  omega (arith, c.loop-point.invariant.0, c.find_by-slot.ensures.least.above),
  λ p a b. ⊎_elim (λ (before : p < c.loop-point.point). c.loop-point.invariant.1 p a before)
      (λ (from : c.loop-point.point ≤ p).
      let d = c.durable-durable.result.now in let n = c.find_by-slot.result.point in
      shown_at (meaning c.args.server.now) d c.args.client p n c.unwrap.result c.new.result c.may_read.result c.durable-durable.ensures
      (same_slot d c.epoch-kept.ensures.kept c.loop-point.point p n c.find_by-slot.ensures.least from (omega (arith, b))) c.new.ensures.point c.unwrap.ensures c.may_read.ensures
      ∙ c.if-not-may_read.false)
      (cases_lt p c.loop-point.point),
)
