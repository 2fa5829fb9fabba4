-- A walk back over the starts of a map, step by step.
use Rattle.krl_cache.proofs.Names.{◌≡◌, ℕ, suc, ◌+◌, ◌-◌, ◌≤◌, ◌<◌, inl, inr, Bool, true, false, cond, not, ◌&&◌, length, List, [], ◌∷◌, ◌++◌, Option, None, Some, refl, sym, ap, subst, ◌∙◌, arith}
use Rattle.krl_cache.proofs.Names.{nat_cmp, is_lt, filter, IsStrictlySortedBy, keys_of, is_at, entries_between, Included, Unbounded, length_push, nat_tests, leb_tells, eqb_tells, RangePart, list_to}
use Rattle.krl_cache.proofs.Names.{part_last, IsBelow, AreBefore, lies_in, at, IsFree, AreNext, HoldsBefore, Rise}
use Rattle.std.proofs.lemmas.List.Elements.{filter_agree}
use Rattle.krl_cache.proofs.Rests.{rise_of, at_before, apart, apart_after, alike, chosen_are_next}
use Rattle.krl_cache.proofs.Starts.{part_none, part_holds, part_begins}

-- Lists whose keys rise, and their last pair

rise_front : {V : Type 0} (lo : ℕ) (ys : List (ℕ × V)) (e : ℕ × V) → Rise lo (ys ++ e ∷ []) → Rise lo ys
rise_front lo [] e h = tt
rise_front lo (y ∷ ys) e h = (h.0, rise_front (suc y.0) ys e h.1)

last_above : {V : Type 0} (lo : ℕ) (ys : List (ℕ × V)) (e : ℕ × V) → Rise lo (ys ++ e ∷ []) → lo ≤ e.0
last_above lo [] e h = h.0
last_above lo (y ∷ ys) e h = let rest = last_above (suc y.0) ys e h.1 in let first = h.0 in omega (arith, rest, first)

at_last : {V : Type 0} (lo : ℕ) (ys : List (ℕ × V)) (e : ℕ × V) → Rise lo (ys ++ e ∷ []) → at (ys ++ e ∷ []) e.0 ≡ Some e.1
at_last lo [] e h = rw (alike e.0) refl
at_last lo (y ∷ ys) e h = let up = last_above (suc y.0) ys e h.1 in rw (apart_after e.0 y.0 (omega (arith, up))) (at_last (suc y.0) ys e h.1)

at_front : {V : Type 0} (lo : ℕ) (ys : List (ℕ × V)) (e : ℕ × V) (q : ℕ) → Rise lo (ys ++ e ∷ []) → q < e.0 → at (ys ++ e ∷ []) q ≡ at ys q
at_front lo [] e q h l = rw (apart q e.0 l) refl
at_front {V} lo (y ∷ ys) e q h l = ap (λ (o : Option V). cond (is_at (nat_cmp q) y.0) (Some y.1) o) (at_front (suc y.0) ys e q h.1 l)

-- nothing stands at the last key or after it, in the list before it
at_past : {V : Type 0} (lo : ℕ) (ys : List (ℕ × V)) (e : ℕ × V) (q : ℕ) → Rise lo (ys ++ e ∷ []) → e.0 ≤ q → at ys q ≡ None
at_past lo [] e q h l = refl
at_past lo (y ∷ ys) e q h l = let up = last_above (suc y.0) ys e h.1 in rw (apart_after q y.0 (omega (arith, up, l))) (at_past (suc y.0) ys e q h.1 l)

-- nothing stands after the last key
at_over : {V : Type 0} (lo : ℕ) (ys : List (ℕ × V)) (e : ℕ × V) (q : ℕ) → Rise lo (ys ++ e ∷ []) → e.0 < q → at (ys ++ e ∷ []) q ≡ None
at_over lo [] e q h l = rw (apart_after q e.0 l) refl
at_over lo (y ∷ ys) e q h l = let up = last_above (suc y.0) ys e h.1 in rw (apart_after q y.0 (omega (arith, up, l))) (at_over (suc y.0) ys e q h.1 l)

-- The walk begins

next_rise : {V : Type 0} (f : ℕ → Option V) (lo hi : ℕ) (xs : List (ℕ × V)) → AreNext f lo hi xs → Rise lo xs
next_rise f lo hi [] h = tt
next_rise f lo hi (e ∷ xs) h = (h.0.from, next_rise f (suc e.0) hi xs h.1)

next_past : {V : Type 0} (f : ℕ → Option V) (lo hi : ℕ) (xs : List (ℕ × V)) (q : ℕ) → AreNext f lo hi xs → hi ≤ q → at xs q ≡ None
next_past f lo hi [] q h l = refl
next_past f lo hi (e ∷ xs) q h l = let below = h.0.below in rw (apart_after q e.0 (omega (arith, below, l))) (next_past f (suc e.0) hi xs q h.1 l)

next_at : {V : Type 0} (f : ℕ → Option V) (lo hi : ℕ) (xs : List (ℕ × V)) (q : ℕ) → AreNext f lo hi xs → lo ≤ q → q < hi → at xs q ≡ f q
next_at f lo hi [] q h a b = sym (h q a b)
next_at {V} f lo hi (e ∷ xs) q h a b =
    elim (leb_tells e.0 q) [
      | inl x ↦
          elim (eqb_tells q e.0) [
            | inl y ↦ subst (λ (n : ℕ). at (e ∷ xs) n ≡ f n) (sym y.1) (let here : at (e ∷ xs) e.0 ≡ Some e.1 = rw (alike e.0) refl in here ∙ sym h.0.here)
            | inr y ↦ rw (apart_after q e.0 (omega (arith, x.1, y.1))) (next_at f (suc e.0) hi xs q h.1 (omega (arith, x.1, y.1)) b)
          ]
      | inr x ↦ rw (apart q e.0 x.1) (at_before (suc e.0) xs q (next_rise f (suc e.0) hi xs h.1) (omega (arith, x.1)) ∙ sym (h.0.free q a x.1))
    ]

same_test : (p q : ℕ) → (true && not (is_lt (nat_cmp p q))) ≡ lies_in 0 (p + 1) q
same_test p q = grind (arith, nat_tests)

-- what a range up to the point gives
pub range_is_before : (p : ℕ) (es r : List (ℕ × RangePart)) → IsStrictlySortedBy nat_cmp (keys_of es) → r ≡ entries_between nat_cmp Unbounded (Included p) es → AreBefore (at es) (p + 1) r
range_is_before p es r sorted e =
    let is : r ≡ filter (λ (x : ℕ × RangePart). lies_in 0 (p + 1) x.0) es = e ∙ filter_agree _ (λ x. lies_in 0 (p + 1) x.0) (λ x. same_test p x.0) es in
    let next = chosen_are_next 0 (p + 1) 0 es (rise_of es sorted) in
    subst (λ (xs : List (ℕ × RangePart)). AreBefore (at es) (p + 1) xs) (sym is) (record {
      rise = next_rise (at es) 0 (p + 1) _ next;
      each = λ q l. next_at (at es) 0 (p + 1) _ q next (omega arith) l;
      past = λ q l. next_past (at es) 0 (p + 1) _ q next l;
    })

-- It continues

pub record IsTaken (f : ℕ → Option RangePart) (end : ℕ) (ys : List (ℕ × RangePart)) (e : ℕ × RangePart) : Type 0 where
  pub below : e.0 < end
  pub here : f e.0 ≡ Some e.1
  pub free : IsFree f (suc e.0) end
  pub rest : AreBefore f e.0 ys

pub taken : (f : ℕ → Option RangePart) (end : ℕ) (xs ys : List (ℕ × RangePart)) (e : ℕ × RangePart) → xs ≡ ys ++ e ∷ [] → AreBefore f end xs → IsTaken f end ys e
taken f end xs ys e is given =
    let h = subst (λ (zs : List (ℕ × RangePart)). AreBefore f end zs) is given in
    let here = at_last 0 ys e h.rise in
    let below : e.0 < end = elim (leb_tells end e.0) [
      | inl a ↦ absurd (let bad : ◌≡◌ {A = Option RangePart} None (Some e.1) = sym (h.past e.0 a.1) ∙ here in cc)
      | inr a ↦ a.1
    ] in
    record {
      below = below;
      here = sym (h.each e.0 below) ∙ here;
      free = λ q a b. sym (h.each q b) ∙ at_over 0 ys e q h.rise (omega (arith, a));
      rest = record {
        rise = rise_front 0 ys e h.rise;
        each = λ q l. sym (at_front 0 ys e q h.rise l) ∙ h.each q (omega (arith, l, below));
        past = λ q l. at_past 0 ys e q h.rise l;
      };
    }

-- the last stands below p: so nothing stands from p on
pub record IsOut (f : ℕ → Option RangePart) (p end : ℕ) (xs : List (ℕ × RangePart)) : Type 0 where
  pub free : IsFree f p end
  pub before : AreBefore f p xs

pub out : (f : ℕ → Option RangePart) (p end : ℕ) (rest : List (ℕ × RangePart)) (last : Option (ℕ × RangePart)) → p ≤ end → IsBelow p last → AreBefore f end (list_to rest last) → IsOut f p end (list_to rest last)
out f p end rest None l below h = record {
  free = λ q a b. sym (h.each q b);
  before = record { rise = tt; each = λ q x. h.each q (omega (arith, x, l)); past = λ q x. refl };
}
out f p end rest (Some e) l below h = record {
  free = λ q a b. sym (h.each q b) ∙ at_over 0 rest e q h.rise (omega (arith, below, a));
  before = record { rise = h.rise; each = λ q x. h.each q (omega (arith, x, l)); past = λ q x. at_over 0 rest e q h.rise (omega (arith, below, x)) };
}

-- the part of the last start holds before p
pub last_holds : (f : ℕ → Option RangePart) (p : ℕ) (rest : List (ℕ × RangePart)) (last : Option (ℕ × RangePart)) → AreBefore f p (list_to rest last) → HoldsBefore f p (part_last last)
last_holds f p rest None h = record {
  first = λ e. refl;
  later = λ up. part_none f (p - 1) (λ q a b. sym (h.each q (omega (arith, b, up))));
}
last_holds f p rest (Some e) h =
    let t = taken f p (rest ++ e ∷ []) rest e refl h in
    let below : e.0 < p = t.below in
    record {
      first = λ z. absurd (omega (arith, below, z));
      later = λ up. part_holds f e.0 (p - 1) (omega (arith, below)) (λ q a b. t.free q a (omega (arith, b, up))) ∙ part_begins f e.0 e.1 t.here;
    }

-- how far a walk back has come
pub record Comes (p : ℕ) (old now : List (ℕ × RangePart)) (any : Bool) : Type 0 where
  pub walked : (f : ℕ → Option RangePart) (end : ℕ) → p ≤ end → AreBefore f end old → (here : ℕ) × (p ≤ here) × (here ≤ end) × AreBefore f here now × (any ≡ false → here ≡ end)

pub comes_first : (p : ℕ) (old : List (ℕ × RangePart)) → Comes p old old false
comes_first p old = record { walked = λ f end l h. (end, l, omega arith, h, λ z. refl) }

pub comes_on : (p : ℕ) (old now next : List (ℕ × RangePart)) (any : Bool) (e : ℕ × RangePart) → p ≤ e.0 → now ≡ next ++ e ∷ [] → Comes p old now any → Comes p old next true
comes_on p old now next any e l is c = record {
  walked = λ f end up h.
      let w = c.walked f end up h in
      let t = taken f w.0 now next e is w.3 in
      let below : e.0 < w.0 = t.below in
      let high = w.2 in
      (e.0, l, omega (arith, below, high), t.rest, λ z. absurd (let bad : true ≡ false = z in cc));
}

pub comes_out : (p : ℕ) (old : List (ℕ × RangePart)) (rest : List (ℕ × RangePart)) (last : Option (ℕ × RangePart)) (any : Bool) → IsBelow p last → Comes p old (list_to rest last) any → (f : ℕ → Option RangePart) (end : ℕ) → p ≤ end → AreBefore f end old → AreBefore f p (list_to rest last) × (any ≡ false → IsFree f p end)
comes_out p old rest last any below c f end up h =
    let w = c.walked f end up h in
    let o = out f p w.0 rest last w.1 below w.3 in
    (o.before, λ none. subst (λ (n : ℕ). IsFree f p n) (w.4 none) o.free)

pub shorter : (old new : List (ℕ × RangePart)) (e : ℕ × RangePart) → old ≡ new ++ e ∷ [] → length new < length old
shorter old new e is = omega (arith, length_push new e, ap length is)
