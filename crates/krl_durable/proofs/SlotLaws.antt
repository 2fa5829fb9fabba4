-- The slot of a point is the least at or above it; the span of a slot begins after the slot before it.
use Rattle.krl_durable.proofs.Names.{◌≡◌, ◌≢◌, ℕ, suc, ◌≤◌, ◌<◌, Bool, true, false, List, [], ◌∷◌, Option, Some, None, ◌↔◌, refl, sym, ap, subst, ◌∙◌, ⊎_elim, arith, ◌||◌, nat_eq, ltb-true}
use Rattle.krl_durable.proofs.Names.{ltb-false, ne_eqb, nat_tests, filter, nat_cmp, eq_by_cmp, find, is_sorted, END, Value, Index, first_or_end, after_keys, slot_of, low_of, is_slot, IsSlotOf}
use Rattle.krl_durable.proofs.Names.{IsSpanOf, AreBelowEnd}
use Rattle.std.proofs.lemmas.Bool.{cases_lt}
use Rattle.std.proofs.lemmas.Option.{none-some}
use Rattle.std.specs.Prelude.{nat_lt, nat_le, is_some, if◌then◌else◌}
use Rattle.std.specs.FinMap as map
use Rattle.krl_durable.proofs.Slots.{Above, Rises, is_true, rises, find_here}

-- each key of the list is at or above k
abbrev pub From : ℕ → List (ℕ × Value) → Type 0
From k [] = Unit {0}
From k (e ∷ es) = (k ≤ e.0) × From k es

pub from_above : (k : ℕ) (es : List (ℕ × Value)) → Above k es → From (suc k) es
from_above k [] h = tt
from_above k (e ∷ es) h = (omega (arith, h.0), from_above k es h.1)

from_less : (j k : ℕ) (es : List (ℕ × Value)) → j ≤ k → From k es → From j es
from_less j k [] le h = tt
from_less j k (e ∷ es) le h = (omega (arith, le, h.0), from_less j k es le h.1)

pub from_zero : (es : List (ℕ × Value)) → From 0 es
from_zero [] = tt
from_zero (e ∷ es) = (omega arith, from_zero es)

apart : (q k : ℕ) → q ≢ k → eq_by_cmp nat_cmp q k ≡ false
apart q k ne = grind (arith, nat_tests)

pub find_past : (q : ℕ) (e : ℕ × Value) (es : List (ℕ × Value)) → q ≢ e.0 → find nat_cmp q (e ∷ es) ≡ find nat_cmp q es
find_past q e es ne = rw (apart q e.0 ne) refl

find_below : (q k : ℕ) (es : List (ℕ × Value)) → From k es → q < k → find nat_cmp q es ≡ None
find_below q k [] h lt = refl
find_below q k (e ∷ es) h lt = find_past q e es (λ f. omega (arith, f, h.0, lt)) ∙ find_below q k es h.1 lt

-- no key from END on
pub find_far : (k : ℕ) (es : List (ℕ × Value)) → AreBelowEnd es → END ≤ k → find nat_cmp k es ≡ None
find_far k [] h far = refl
find_far k (e ∷ es) h far = find_past k e es (λ f. omega (arith, f, far, ltb-true e.0 END h.0)) ∙ find_far k es h.1 far

-- the first key at or above p, or END
pub record IsFirst (es : List (ℕ × Value)) (p n : ℕ) : Type 0 where
  pub at : n ≢ END → find nat_cmp n es ≢ None
  pub low : p ≤ n
  pub high : n ≤ END
  pub gap : (k : ℕ) → p ≤ k → k < n → find nat_cmp k es ≡ None

pub first_is : (es : List (ℕ × Value)) (p : ℕ) → Rises es → ((k : ℕ) → END ≤ k → find nat_cmp k es ≡ None) → p ≤ END → IsFirst es p (first_or_end (filter (λ e. nat_le p e.0) es))
first_is [] p h near le = record { at = λ ne. absurd (ne refl); low = le; high = omega arith; gap = λ k a b. refl }
first_is (e ∷ es) p h near le = by_test (nat_le p e.0) refl (first_is es p h.1 (λ k a. sym (find_past k e es (λ f. omega (arith, f, a, under))) ∙ near k a) le)
  where
    under : e.0 < END
    under = ⊎_elim (λ (a : e.0 < END). a) (λ (a : END ≤ e.0). absurd (none-some e.1 (sym (near e.0 a) ∙ find_here e es))) (cases_lt e.0 END)

    by_test : (b : Bool) → nat_le p e.0 ≡ b → IsFirst es p (first_or_end (filter (λ e. nat_le p e.0) es)) → IsFirst (e ∷ es) p (first_or_end (if b then e ∷ filter (λ e. nat_le p e.0) es else filter (λ e. nat_le p e.0) es))
    by_test true t ih = record {
      at = λ ne none. none-some e.1 (sym none ∙ find_here e es);
      low = grind (arith, nat_tests);
      high = omega (arith, under);
      gap = λ k a b. find_past k e es (λ f. omega (arith, f, b)) ∙ find_below k (suc e.0) es (from_above e.0 es h.0) (omega (arith, b));
    }
    by_test false t ih = let past : e.0 < p = grind (arith, nat_tests) in record {
      at = λ ne none. ih.at ne (sym (find_past _ e es (λ f. omega (arith, f, ih.low, past))) ∙ none);
      low = ih.low;
      high = ih.high;
      gap = λ k a b. find_past k e es (λ f. omega (arith, f, a, past)) ∙ ih.gap k a b;
    }

-- if low is below all keys: q lies from the span's first point on where no key from q on is below n
pub low_is : (es : List (ℕ × Value)) (n low q : ℕ) → Rises es → From low es → (after_keys low (filter (λ e. nat_lt e.0 n) es) ≤ q) ↔ ((low ≤ q) × ((k : ℕ) → q ≤ k → k < n → find nat_cmp k es ≡ None))
low_is [] n low q h from = (λ le. (le, λ k a b. refl), λ x. x.0)
low_is (e ∷ es) n low q h from = by_test (nat_lt e.0 n) refl (low_is es n (suc e.0) q h.1 (from_above e.0 es h.0)) (low_is es n low q h.1 (from_less low (suc e.0) es (omega (arith, from.0)) (from_above e.0 es h.0)))
  where
    by_test : (b : Bool) → nat_lt e.0 n ≡ b → ((after_keys (suc e.0) (filter (λ e. nat_lt e.0 n) es) ≤ q) ↔ ((suc e.0 ≤ q) × ((k : ℕ) → q ≤ k → k < n → find nat_cmp k es ≡ None))) → ((after_keys low (filter (λ e. nat_lt e.0 n) es) ≤ q) ↔ ((low ≤ q) × ((k : ℕ) → q ≤ k → k < n → find nat_cmp k es ≡ None))) → (after_keys low (if b then e ∷ filter (λ e. nat_lt e.0 n) es else filter (λ e. nat_lt e.0 n) es) ≤ q) ↔ ((low ≤ q) × ((k : ℕ) → q ≤ k → k < n → find nat_cmp k (e ∷ es) ≡ None))
    by_test true t ih other = (
      λ le. let x = ih.0 le in (omega (arith, x.0, from.0), λ k a b. find_past k e es (λ f. omega (arith, f, a, x.0)) ∙ x.1 k a b),
      λ x. ⊎_elim
          (λ (a : e.0 < q). ih.1 (a, λ k b c. sym (find_past k e es (λ f. omega (arith, f, a, b))) ∙ x.1 k b c))
          (λ (a : q ≤ e.0). absurd (none-some e.1 (sym (x.1 e.0 a (ltb-true e.0 n t)) ∙ find_here e es))) (cases_lt e.0 q),
    )
    by_test false t other ih = let far = ltb-false e.0 n t in (
      λ le. let x = ih.0 le in (x.0, λ k a b. find_past k e es (λ f. omega (arith, f, b, far)) ∙ x.1 k a b),
      λ x. ih.1 (x.0, λ k b c. sym (find_past k e es (λ f. omega (arith, f, c, far))) ∙ x.1 k b c),
    )

pub keys_of_map_rise : (m : Index) → Rises (map.entries m)
keys_of_map_rise m = rises (map.entries m) (is_true (is_sorted nat_cmp (map.entries m)) (map.entries_sorted m))

pub near_end : (m : Index) → AreBelowEnd (map.entries m) → (n : ℕ) → END ≤ n → map.get m n ≡ None
near_end m h n le = map.get-entries m n ∙ find_far n (map.entries m) h le

pub end_test : (n : ℕ) → n ≢ END → nat_eq n END ≡ false
end_test n ne = ne_eqb n END ne

-- neither END nor a key
no_slot : (m : Index) (k : ℕ) → k < END → find nat_cmp k (map.entries m) ≡ None → is_slot m k ≡ false
no_slot m k l none =
    (λ i. end_test k (λ e. omega (arith, e, l)) i || is_some ((map.get-entries m k ∙ none) i))

slot_there : (m : Index) (n : ℕ) → (n ≢ END → find nat_cmp n (map.entries m) ≢ None) → is_slot m n ≡ true
slot_there m n h = one (nat_eq n END) (map.get m n) refl refl
  where
    one : (b : Bool) (o : Option Value) → nat_eq n END ≡ b → map.get m n ≡ o → (b || is_some o) ≡ true
    one true o e f = refl
    one false (Some v) e f = refl
    one false None e f = absurd (h (Rattle.std.proofs.lemmas.Bool.eqb-false n END e) (sym (map.get-entries m n) ∙ f))

-- a number below n that is no slot is no key
no_key : (m : Index) (k : ℕ) → is_slot m k ≡ false → find nat_cmp k (map.entries m) ≡ None
no_key m k e = sym (map.get-entries m k) ∙ one (nat_eq k END) (map.get m k) e
  where
    one : (b : Bool) (o : Option Value) → (b || is_some o) ≡ false → o ≡ None
    one true o e = absurd (cc)
    one false None e = refl
    one false (Some v) e = absurd (cc)

slot_laws : (m : Index) (p : ℕ) → AreBelowEnd (map.entries m) → is_sorted nat_cmp (map.entries m) ≡ true → p ≤ END → IsSlotOf m p (slot_of m p)
slot_laws m p below sorted le =
    let x = first_is (map.entries m) p (rises (map.entries m) sorted) (λ k far. find_far k (map.entries m) below far) le in
    record {
      slot = slot_there m (slot_of m p) x.at;
      above = x.low;
      least = λ k a b. no_slot m k (omega (arith, b, x.high)) (x.gap k a b);
    }

span_laws : (m : Index) (n : ℕ) → is_sorted nat_cmp (map.entries m) ≡ true → n ≤ END → IsSpanOf m n (low_of m n)
span_laws m n sorted le =
    let rising = rises (map.entries m) sorted in
    let low = λ (q : ℕ). low_is (map.entries m) n 0 q rising (from_zero (map.entries m)) in
    let none = ((low (low_of m n)).0 (omega arith)).1 in
    record {
      up_to = (low n).1 (omega arith, λ k a b. absurd (omega (arith, a, b)));
      alone = λ k a b. no_slot m k (omega (arith, b, le)) (none k a b);
      behind = λ k e. one k e (is_slot m k) refl;
    }
  where
    one : (k : ℕ) → low_of m n ≡ suc k → (b : Bool) → is_slot m k ≡ b → b ≡ true
    one k e true f = refl
    one k e false f =
        let rising = rises (map.entries m) sorted in
        let low = λ (q : ℕ). low_is (map.entries m) n 0 q rising (from_zero (map.entries m)) in
        let none = ((low (low_of m n)).0 (omega arith)).1 in
        let from : (j : ℕ) → k ≤ j → j < n → find nat_cmp j (map.entries m) ≡ None =
        λ j a b. ⊎_elim
        (λ (c : k < j). none j (omega (arith, c, e)) b)
        (λ (c : j ≤ k). let same : j ≡ k = omega (arith, a, c) in ap (λ (i : ℕ). find nat_cmp i (map.entries m)) same ∙ no_key m k f)
        (cases_lt k j)
        in
        absurd (omega (arith, e, (low k).1 (omega arith, from)))

-- the slot that a call answers, by the list that it keeps
pub slot_answered : (m : Index) (es : List (ℕ × Value)) (p n : ℕ) → map.entries m ≡ es → is_sorted nat_cmp es ≡ true → AreBelowEnd es → n ≡ slot_of m p → p ≤ END → IsSlotOf m p n
slot_answered m es p n e sorted below is le =
    subst (λ (k : ℕ). IsSlotOf m p k) (sym is)
    (slot_laws m p (subst AreBelowEnd (sym e) below) (ap (is_sorted nat_cmp) e ∙ sorted) le)

-- so the first point of the span
pub span_answered : (m : Index) (es : List (ℕ × Value)) (n low : ℕ) → map.entries m ≡ es → is_sorted nat_cmp es ≡ true → low ≡ low_of m n → n ≤ END → IsSpanOf m n low
span_answered m es n low e sorted is le =
    subst (λ (k : ℕ). IsSpanOf m n k) (sym is) (span_laws m n (ap (is_sorted nat_cmp) e ∙ sorted) le)
