-- The slots of an index: the least at or above a point, and the first point of a slot's span.
use Rattle.krl_table.proofs.Names.{◌≡◌, ◌≢◌, ℕ, suc, ◌≤◌, ◌<◌, Bool, true, false, Option, Some, None, refl, sym, ◌∙◌, ⊎_elim, arith, ◌||◌, nat_eq, cases_lt, eqb-false, nat_cmp, END, Value, Index}
use Rattle.krl_table.proofs.Names.{slot_of, low_of, is_slot, IsSlotOf}
use Rattle.std.specs.Prelude.{is_some, IsSome}
use Rattle.std.specs.FinMap as map
use Rattle.std.specs.FinMap.Entries.{find}
use Rattle.krl_durable.proofs.SlotLaws.{from_zero, first_is, low_is, keys_of_map_rise, end_test}
use Rattle.krl_modes.proofs.Basics.{not_both}

pub some_true : {X : Type 0} (o : Option X) → IsSome o → is_some o ≡ true
some_true None h = absurd (cc)
some_true (Some x) h = refl

pub none_false : {X : Type 0} (o : Option X) → o ≡ None → is_some o ≡ false
none_false None e = refl
none_false (Some x) e = absurd (cc)

-- or END, or a key
taken : (b : Bool) (o : Option Value) → (b || is_some o) ≡ true → b ≡ false → o ≡ None → ⊥
taken true o e f g = absurd (cc)
taken false None e f g = absurd (cc)
taken false (Some v) e f g = absurd (cc)

module _ (m : Index) where
  a_key : (k : ℕ) → is_slot m k ≡ true → k ≢ END → map.get m k ≡ None → ⊥
  a_key k h ne e = taken (nat_eq k END) (map.get m k) h (end_test k ne) e

  pub no_slot : (k : ℕ) → k ≢ END → map.get m k ≡ None → is_slot m k ≡ false
  no_slot k ne e = (λ i. end_test k ne i || is_some (e i))

  -- a point has one slot
  pub slot_same : (p i j : ℕ) → IsSlotOf m p i → IsSlotOf m p j → i ≡ j
  slot_same p i j a b = ⊎_elim
      (λ (x : i < j). absurd (not_both (is_slot m i) a.slot (b.least i a.above x)))
      (λ (x : j ≤ i). ⊎_elim (λ (y : j < i). absurd (not_both (is_slot m j) b.slot (a.least j b.above y))) (λ (y : i ≤ j). omega (arith, x, y)) (cases_lt j i))
      (cases_lt i j)

  -- the first point of a span lies in it
  pub low_under : (n : ℕ) → low_of m n ≤ n
  low_under n = (low_is (map.entries m) n 0 n (keys_of_map_rise m) (from_zero (map.entries m))).1 (omega arith, λ k a b. absurd (omega (arith, a, b)))

  module _ (near : (k : ℕ) → END ≤ k → map.get m k ≡ None) where
    far : (k : ℕ) → END ≤ k → find nat_cmp k (map.entries m) ≡ None
    far k a = sym (map.get-entries m k) ∙ near k a

    -- no slot lies above END
    pub slot_end : (n : ℕ) → is_slot m n ≡ true → n ≤ END
    slot_end n h = ⊎_elim (λ (a : END < n). absurd (a_key n h (λ e. omega (arith, e, a)) (near n (omega (arith, a))))) (λ (a : n ≤ END). a) (cases_lt END n)

    -- the slot of a point is the least slot at or above it
    pub next_of : (p : ℕ) → p ≤ END → IsSlotOf m p (slot_of m p)
    next_of p le =
        let x = first_is (map.entries m) p (keys_of_map_rise m) far le in
        record {
          slot = by_end (nat_eq (slot_of m p) END) (map.get m (slot_of m p)) refl
              (λ ne none. x.at (eqb-false (slot_of m p) END ne) (sym (map.get-entries m (slot_of m p)) ∙ none));
          above = x.low;
          least = λ k a b. no_slot k (λ e. omega (arith, e, b, x.high)) (map.get-entries m k ∙ x.gap k a b);
        }
      where
        by_end : (b : Bool) (o : Option Value) → nat_eq (slot_of m p) END ≡ b → (nat_eq (slot_of m p) END ≡ false → o ≡ None → ⊥) → (b || is_some o) ≡ true
        by_end true o e f = refl
        by_end false None e f = absurd (f e refl)
        by_end false (Some v) e f = refl

    pub slot_is : (p n : ℕ) → p ≤ END → IsSlotOf m p n → slot_of m p ≡ n
    slot_is p n le next = slot_same p (slot_of m p) n (next_of p le) next

    -- a slot is its own slot
    pub slot_self : (n : ℕ) → is_slot m n ≡ true → slot_of m n ≡ n
    slot_self n h = slot_is n n (slot_end n h) (record { slot = h; above = omega arith; least = λ k a b. absurd (omega (arith, a, b)) })

    -- a span begins after each slot before it
    pub low_past : (s n : ℕ) → is_slot m s ≡ true → s < n → n ≤ END → suc s ≤ low_of m n
    low_past s n h lt le = ⊎_elim (λ (a : s < low_of m n). a)
        (λ (a : low_of m n ≤ s). absurd (a_key s h (λ e. omega (arith, e, lt, le))
        (map.get-entries m s ∙ ((low_is (map.entries m) n 0 s (keys_of_map_rise m) (from_zero (map.entries m))).0 a).1 s (omega arith) lt))) (cases_lt s (low_of m n))
