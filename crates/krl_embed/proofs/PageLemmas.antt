-- The entries of a range of an index, one after another.
use Rattle.std.proofs.Common.{◌≡◌, ℕ, suc, ◌≤◌, ◌<◌, ◌∙◌, Bool, true, false, cond, List, [], ◌∷◌, ◌++◌, length, drop, None, Some, refl, sym, ap, subst, append_assoc, arith}
use Rattle.std.specs.Prelude.{◌&&◌, nat_le, nat_lt, slice_get}
use Rattle.std.specs.List.{filter, AllByRecursion}
use Rattle.std.proofs.lemmas.Bool.Decides.{nat_tests}
use Rattle.std.proofs.lemmas.List.Elements.{filter-append}
use Rattle.std.specs.FinMap as map
use Rattle.krl_messages.specs.Values.{Value}
use Rattle.krl_blocks.specs.Entries.{IsRun, AreFrom}
use Rattle.krl_durable.specs.Index.{Index, range}
use Rattle.krl_durable.proofs.Slots.{Above, Rises, rises, none_pass, weaker, head_some}
use Rattle.krl_durable.proofs.Kept.{sorted_entries}

-- the range begins by this entry, and the rest of it follows
pub record BeginsBy (m : Index) (lo hi : ℕ) (e : ℕ × Value) : Type 0 where
  pub from : lo ≤ e.0
  pub below : e.0 < hi
  pub rest : range m lo hi ≡ e ∷ range m (suc e.0) hi

abbrev within : ℕ → ℕ → ℕ → Bool
within lo hi k = nat_le lo k && nat_lt k hi

abbrev kept : ℕ → ℕ → List (ℕ × Value) → List (ℕ × Value)
kept lo hi es = filter (λ e. within lo hi e.0) es

and_false : (b : Bool) → (b && false) ≡ false
and_false true = refl
and_false false = refl

out_below : (p lo hi k : ℕ) → p ≤ lo → nat_lt k p ≡ true → within lo hi k ≡ false
out_below p lo hi k le h =
    let test : nat_le lo k ≡ false = grind (arith, nat_tests) in
    ap (λ (b : Bool). b && nat_lt k hi) test

out_above : (lo hi k : ℕ) → hi ≤ k → within lo hi k ≡ false
out_above lo hi k le =
    let test : nat_lt k hi ≡ false = grind (arith, nat_tests) in
    ap (λ (b : Bool). nat_le lo k && b) test ∙ and_false (nat_le lo k)

in_range : (lo hi k : ℕ) → nat_lt k lo ≡ false → k < hi → within lo hi k ≡ true
in_range lo hi k from lt =
    let low : nat_le lo k ≡ true = grind (arith, nat_tests) in
    let high : nat_lt k hi ≡ true = grind (arith, nat_tests) in
    ap (λ (b : Bool). b && nat_lt k hi) low ∙ high

out_here : (hi k : ℕ) → within (suc k) hi k ≡ false
out_here hi k =
    let test : nat_le (suc k) k ≡ false = grind (arith, nat_tests) in
    ap (λ (b : Bool). b && nat_lt k hi) test

same_test : (lo hi k j : ℕ) → nat_lt k lo ≡ false → k < j → within lo hi j ≡ within (suc k) hi j
same_test lo hi k j from lt =
    let a : nat_le lo j ≡ true = grind (arith, nat_tests) in
    let b : nat_le (suc k) j ≡ true = grind (arith, nat_tests) in
    ap (λ (t : Bool). t && nat_lt j hi) (a ∙ sym b)

-- the entries above k are in both ranges or in none
same_above : (lo hi k : ℕ) (es : List (ℕ × Value)) → nat_lt k lo ≡ false → Above k es → kept lo hi es ≡ kept (suc k) hi es
same_above lo hi k [] from h = refl
same_above lo hi k (e ∷ es) from h =
    ap (λ (t : Bool). cond t (e ∷ kept lo hi es) (kept lo hi es)) (same_test lo hi k e.0 from h.0)
    ∙ ap (λ (l : List (ℕ × Value)). cond (within (suc k) hi e.0) (e ∷ l) l) (same_above lo hi k es from h.1)

-- and none is in one that ends at or below k
none_above : (lo hi k : ℕ) (es : List (ℕ × Value)) → hi ≤ k → Above k es → AllByRecursion (λ e. within lo hi e.0 ≡ false) es
none_above lo hi k [] le h = tt
none_above lo hi k (e ∷ es) le h = (out_above lo hi e.0 (let lt = h.0 in omega (arith, le, lt)), none_above lo hi k es le h.1)

rises_after : (front back : List (ℕ × Value)) → Rises (front ++ back) → Rises back
rises_after [] back h = h
rises_after (e ∷ front) back h = rises_after front back h.1

first_of : (run rest : List (ℕ × Value)) (e : ℕ × Value) → Some e ≡ slice_get run 0 → Some e ≡ slice_get (run ++ rest) 0
first_of [] rest e h = absurd (let bad : Some e ≡ None = h in cc)
first_of (x ∷ run) rest e h = h

none_of : (run rest : List (ℕ × Value)) → (run ≡ [] → rest ≡ []) → None ≡ slice_get run 0 → run ++ rest ≡ []
none_of [] rest some h = some refl
none_of (x ∷ run) rest some h = absurd (let bad : None ≡ Some x = h in cc)

-- what a search shows of the range from its point on
module _ (m : Index) (p hi : ℕ) (run : List (ℕ × Value)) (r : IsRun (map.entries m) p run) where
  seen : (lo : ℕ) → p ≤ lo → range m lo hi ≡ kept lo hi (run ++ r.rest)
  seen lo le =
      ap (kept lo hi) r.whole ∙ filter-append (λ e. within lo hi e.0) r.front (run ++ r.rest)
      ∙ ap (λ (xs : List (ℕ × Value)). xs ++ kept lo hi (run ++ r.rest)) (none_pass (within lo hi) r.front (weaker _ _ (λ e h. out_below p lo hi e.0 le h) r.front r.below))

  pub none_found : None ≡ slice_get run 0 → range m p hi ≡ []
  none_found h = seen p (omega arith) ∙ ap (kept p hi) (none_of run r.rest r.some h)

  module _ (e : ℕ × Value) (h : Some e ≡ slice_get run 0) where
    whole : run ++ r.rest ≡ e ∷ drop 1 (run ++ r.rest)
    whole = head_some (run ++ r.rest) e (first_of run r.rest e h)

    from : nat_lt e.0 p ≡ false
    from = (subst (AreFrom p) whole r.from).0

    above : Above e.0 (drop 1 (run ++ r.rest))
    above = (rises_after r.front (e ∷ drop 1 (run ++ r.rest)) (subst (λ (xs : List (ℕ × Value)). Rises xs) (r.whole ∙ ap (λ (xs : List (ℕ × Value)). r.front ++ xs) whole) (rises (map.entries m) (sorted_entries m (map.entries m) refl)))).0

    pub at_or_above : p ≤ e.0
    at_or_above = let f = from in grind (arith, nat_tests, f)

    pub first_found : e.0 < hi → range m p hi ≡ e ∷ range m (suc e.0) hi
    first_found lt =
        let rest = drop 1 (run ++ r.rest) in
        let after : range m (suc e.0) hi ≡ kept (suc e.0) hi rest =
        seen (suc e.0) (let le = at_or_above in omega (arith, le)) ∙ ap (kept (suc e.0) hi) whole
        ∙ ap (λ (t : Bool). cond t (e ∷ kept (suc e.0) hi rest) (kept (suc e.0) hi rest)) (out_here hi e.0) in
        seen p (omega arith) ∙ ap (kept p hi) whole
        ∙ ap (λ (t : Bool). cond t (e ∷ kept p hi rest) (kept p hi rest)) (in_range p hi e.0 from lt)
        ∙ ap (λ (l : List (ℕ × Value)). e ∷ l) (same_above p hi e.0 rest from above ∙ sym after)

    pub beyond : hi ≤ e.0 → range m p hi ≡ []
    beyond le =
        let rest = drop 1 (run ++ r.rest) in
        seen p (omega arith) ∙ ap (kept p hi) whole
        ∙ none_pass (within p hi) (e ∷ rest) (out_above p hi e.0 le, none_above p hi e.0 rest le above)

    -- what a look at the first entry answers
    pub begins : e.0 < hi → BeginsBy m p hi e
    begins lt = record { from = at_or_above; below = lt; rest = first_found lt }

pub first_is : (run rest : List (ℕ × Value)) (e : ℕ × Value) → run ≡ e ∷ rest → Some e ≡ slice_get run 0
first_is run rest e is = ap (λ (xs : List (ℕ × Value)). slice_get xs 0) (sym is)

pub none_is : (run : List (ℕ × Value)) → length run ≡ 0 → None ≡ slice_get run 0
none_is [] h = refl
none_is (e ∷ run) h = absurd (cc)

below_pushed : (p : ℕ) (front : List (ℕ × Value)) (e : ℕ × Value) → p ≤ e.0 → AllByRecursion (λ x. nat_lt x.0 p ≡ true) front
    → AllByRecursion (λ x. nat_lt x.0 (suc e.0) ≡ true) (front ++ e ∷ [])
below_pushed p [] e le h = (let here : nat_lt e.0 (suc e.0) ≡ true = grind (arith, nat_tests) in here, tt)
below_pushed p (x ∷ front) e le h =
    let before : nat_lt x.0 p ≡ true = h.0 in
    let here : nat_lt x.0 (suc e.0) ≡ true = grind (arith, nat_tests, before, le) in
    (here, below_pushed p front e le h.1)

from_above : (k : ℕ) (es : List (ℕ × Value)) → Above k es → AreFrom (suc k) es
from_above k [] h = tt
from_above k (e ∷ es) h =
    let above = h.0 in
    let here : nat_lt e.0 (suc k) ≡ false = grind (arith, nat_tests, above) in
    (here, from_above k es h.1)

-- what a search has found, after its first entry
pub run_on : (m : Index) (p : ℕ) (run rest : List (ℕ × Value)) (e : ℕ × Value) → IsRun (map.entries m) p run → run ≡ e ∷ rest
    → (rest ≡ [] → ⊥) → IsRun (map.entries m) (suc e.0) rest
run_on m p run rest e r is more =
    let first = first_is run rest e is in
    let after : drop 1 (run ++ r.rest) ≡ rest ++ r.rest = ap (λ (xs : List (ℕ × Value)). drop 1 (xs ++ r.rest)) is in
    record {
      front = r.front ++ e ∷ [];
      rest = r.rest;
      whole = r.whole ∙ ap (λ (xs : List (ℕ × Value)). r.front ++ (xs ++ r.rest)) is ∙ sym (append_assoc r.front (e ∷ []) (rest ++ r.rest));
      below = below_pushed p r.front e (at_or_above m p 0 run r e first) r.below;
      from = from_above e.0 (rest ++ r.rest) (subst (Above e.0) after (above m p 0 run r e first));
      some = λ none. absurd (more none);
    }
