-- Points, slots and lowering.
use Rattle.krl_machine.proofs.Names.{◌≡◌, ℕ, zero, suc, ◌+◌, ◌≤◌, ◌<◌, Option, Some, None, refl, sym, ap, ◌∙◌, ⊎_elim, arith, cases_lt, none-some, RangePart, KeyPart, Value, RangeAtMost, KeyAtMost}
use Rattle.krl_machine.proofs.Names.{Shared, Lowered, untouched, lowered, IsSlot, InSpan, IsRow, reads-range_meet, inserts-range_meet, rank-key_meet}

-- what a lowering leaves is at most what was there
pub lowered_below : (lo last : ℕ) (kr : RangePart) (kk : KeyPart) (r0 : RangePart) (k0 : KeyPart) (r : RangePart) (k : KeyPart) (q : ℕ) → Lowered lo last kr kk r0 k0 r k q → RangeAtMost r r0 × KeyAtMost k k0
lowered_below lo last kr kk r0 k0 r k q (untouched far er ek) = rw er (rw ek ((omega arith, omega arith), omega arith))
lowered_below lo last kr kk r0 k0 r k q (lowered low up er ek) =
    rw er (rw ek ((omega (arith, reads-range_meet r0 kr), omega (arith, inserts-range_meet r0 kr)), omega (arith, rank-key_meet k0 kk)))

-- and within the span at most keep
pub lowered_within : (lo last : ℕ) (kr : RangePart) (kk : KeyPart) (r0 : RangePart) (k0 : KeyPart) (r : RangePart) (k : KeyPart) (q : ℕ) → Lowered lo last kr kk r0 k0 r k q → lo ≤ q → q ≤ last → RangeAtMost r kr × KeyAtMost k kk
lowered_within lo last kr kk r0 k0 r k q (untouched far er ek) a b = absurd (⊎_elim (λ (x : q < lo). omega arith) (λ (x : last < q). omega arith) far)
lowered_within lo last kr kk r0 k0 r k q (lowered low up er ek) a b =
    rw er (rw ek ((omega (arith, reads-range_meet r0 kr), omega (arith, inserts-range_meet r0 kr)), omega (arith, rank-key_meet k0 kk)))

-- each point up to END lies in the span of a slot
pub slot_of_point : (s : Shared) (d q : ℕ) → q + d ≡ s.end → (n : ℕ) × IsSlot s n × InSpan s n q
slot_of_point s zero q e = (q, (λ far none. far (omega (arith, e))), (omega arith, λ k a b. absurd (omega arith)))
slot_of_point s (suc d) q e = by_entry (s.index q) refl (slot_of_point s d (suc q) (omega (arith, e)))
  where
    by_entry : (o : Option Value) → s.index q ≡ o → (n : ℕ) × IsSlot s n × InSpan s n (suc q) → (n : ℕ) × IsSlot s n × InSpan s n q
    by_entry (Some v) f rest = (q, (λ far none. none-some v (sym none ∙ f)), (omega arith, λ k a b. absurd (omega arith)))
    by_entry None f rest = (rest.0, rest.1, (omega (arith, rest.2.0), λ k a b. ⊎_elim (λ (c : q < k). rest.2.1 k c b) (λ (c : k ≤ q). let eq : k ≡ q = omega arith in (ap s.index eq ∙ f, λ g. absurd (omega (arith, e, eq, g)))) (cases_lt q k)))

-- the range part is the same all over a slot's span
pub row_span : (s : Shared) (range : ℕ → RangePart) (key : ℕ → KeyPart) → IsRow s range key → (d n q : ℕ) → q + d ≡ n → InSpan s n q → range q ≡ range n
row_span s range key row zero n q e span = ap range (omega (arith, e))
row_span s range key row (suc d) n q e span =
    let here = span.1 q (omega arith) (omega (arith, e)) in
    row.same q here.1 here.0 ∙ row_span s range key row d n (suc q) (omega (arith, e)) (omega (arith, e), λ k a b. span.1 k (omega arith) b)

-- an epoch is 0 or more
pub epoch_cases : {A : Type 0} (n : ℕ) → (n ≡ 0 → A) → (1 ≤ n → A) → A
epoch_cases zero f g = f refl
epoch_cases (suc n) f g = g (omega arith)
