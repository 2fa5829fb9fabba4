-- What is found under a key in a list of entries.
use Rattle.std.proofs.Common.{◌≡◌, ◌≢◌, ℕ, suc, ◌+◌, ◌≤◌, ◌<◌, Bool, true, false, cond, List, [], ◌∷◌, ◌++◌, length, Option, None, Some, MatchOption, refl, sym, ap, subst, ◌∙◌, arith}
use Rattle.std.proofs.Common.{nat_eq, eq-eqb}
use Rattle.std.proofs.lemmas.Bool.Decides.{nat_tests}
use Rattle.std.specs.Ordering.{nat_cmp, eq_by_cmp}
use Rattle.std.specs.FinMap.Entries.{find}
use Rattle.krl_blocks.specs.Entries.{KeysAbove, KeysRise, AreBelow, AreFrom, NoKey, HasEntry, IsInserted, IsRemoved}
use Rattle.krl_blocks.proofs.Edits.{below_none}
use Rattle.krl_blocks.proofs.Readings.{back_rises}

-- Keys

itself : (k : ℕ) → eq_by_cmp nat_cmp k k ≡ true
itself k = grind (arith, nat_tests)

pub test_is : (k j : ℕ) → eq_by_cmp nat_cmp k j ≡ nat_eq k j
test_is k j = grind (arith, nat_tests)

pub eq_cases : {A : Type 0} (a b : ℕ) → (a ≡ b → A) → (a ≢ b → A) → A
eq_cases {A = A} a b f g = by_eq (nat_eq a b) refl
  where
    by_eq : (t : Bool) → nat_eq a b ≡ t → A
    by_eq true e = f (grind (arith, nat_tests))
    by_eq false e = g (λ h. let same = eq-eqb a b h in let clash : true ≡ false = sym same ∙ e in absurd (cc))

-- Finding in a list

pub find_here : {V : Type 0} (k : ℕ) (v : V) (es : List (ℕ × V)) → find nat_cmp k ((k, v) ∷ es) ≡ Some v
find_here k v es = rw (itself k) refl

pub find_past : {V : Type 0} (q k : ℕ) (v : V) (es : List (ℕ × V)) → q ≢ k → find nat_cmp q ((k, v) ∷ es) ≡ find nat_cmp q es
find_past q k v es ne =
    let apart : eq_by_cmp nat_cmp q k ≡ false = grind (arith, nat_tests) in
    rw apart refl

pub find_none : {V : Type 0} (k : ℕ) (es : List (ℕ × V)) → NoKey k es → find nat_cmp k es ≡ None
find_none k [] h = refl
find_none k (e ∷ es) h = find_past k e.0 e.1 es (λ f. h.0 (sym f)) ∙ find_none k es h.1

none_no : {V : Type 0} (k : ℕ) (es : List (ℕ × V)) → find nat_cmp k es ≡ None → NoKey k es
none_no k [] h = tt
none_no k (e ∷ es) h = eq_cases e.0 k
    (λ f. absurd (let bad : Some e.1 ≡ None = sym (find_here e.0 e.1 es) ∙ ap (λ n. find nat_cmp n (e ∷ es)) f ∙ h in cc))
    (λ ne. (ne, none_no k es (sym (find_past k e.0 e.1 es (λ f. ne (sym f))) ∙ h)))

pub above_no : {V : Type 0} (k : ℕ) (es : List (ℕ × V)) → KeysAbove k es → NoKey k es
above_no k [] h = tt
above_no k (e ∷ es) h = ((λ f. omega (arith, f, h.0)), above_no k es h.1)

-- after keys that do not have it
pub find_behind : {V : Type 0} (q : ℕ) (front back : List (ℕ × V)) → NoKey q front → find nat_cmp q (front ++ back) ≡ find nat_cmp q back
find_behind q [] back h = refl
find_behind q (e ∷ front) back h = find_past q e.0 e.1 (front ++ back) (λ f. h.0 (sym f)) ∙ find_behind q front back h.1

-- an entry of another key, between others, is passed
find_around : {V : Type 0} (q k : ℕ) (v : V) (front back : List (ℕ × V)) → q ≢ k → find nat_cmp q (front ++ (k, v) ∷ back) ≡ find nat_cmp q (front ++ back)
find_around q k v [] back ne = find_past q k v back ne
find_around q k v (e ∷ front) back ne = ap (λ o. cond (eq_by_cmp nat_cmp q e.0) (Some e.1) o) (find_around q k v front back ne)

above_less : {V : Type 0} (j k : ℕ) (es : List (ℕ × V)) → j < k → KeysAbove k es → KeysAbove j es
above_less j k [] lt h = tt
above_less j k (e ∷ es) lt h = (omega (arith, lt, h.0), above_less j k es lt h.1)

above_front : {V : Type 0} (n : ℕ) (front : List (ℕ × V)) (k : ℕ) (v : V) (back : List (ℕ × V)) → KeysAbove n (front ++ (k, v) ∷ back) → n < k
above_front n [] k v back h = h.0
above_front n (e ∷ front) k v back h = above_front n front k v back h.1

-- the front before a key does not have it
pub rise_front : {V : Type 0} (front : List (ℕ × V)) (k : ℕ) (v : V) (back : List (ℕ × V)) → KeysRise (front ++ (k, v) ∷ back) → NoKey k front
rise_front [] k v back h = tt
rise_front (e ∷ front) k v back h = ((λ f. let lt = above_front e.0 front k v back h.0 in omega (arith, f, lt)), rise_front front k v back h.1)

above_without : {V : Type 0} (n : ℕ) (front : List (ℕ × V)) (k : ℕ) (v : V) (back : List (ℕ × V)) → KeysAbove n (front ++ (k, v) ∷ back) → KeysAbove n (front ++ back)
above_without n [] k v back h = h.1
above_without n (e ∷ front) k v back h = (h.0, above_without n front k v back h.1)

rise_without : {V : Type 0} (front : List (ℕ × V)) (k : ℕ) (v : V) (back : List (ℕ × V)) → KeysRise (front ++ (k, v) ∷ back) → KeysRise (front ++ back)
rise_without [] k v back h = h.1
rise_without (e ∷ front) k v back h = (above_without e.0 front k v back h.0, rise_without front k v back h.1)

above_with : {V : Type 0} (n : ℕ) (front : List (ℕ × V)) (k : ℕ) (v : V) (back : List (ℕ × V)) → n < k → KeysAbove n (front ++ back) → KeysAbove n (front ++ (k, v) ∷ back)
above_with n [] k v back lt h = (lt, h)
above_with n (e ∷ front) k v back lt h = (h.0, above_with n front k v back lt h.1)

from_above : {V : Type 0} (k : ℕ) (es : List (ℕ × V)) → AreFrom k es → NoKey k es → KeysAbove k es
from_above k [] h apart = tt
from_above k (e ∷ es) h apart = (let le : k ≤ e.0 = grind (arith, nat_tests, h.0) in grind (arith, le, apart.0), from_above k es h.1 apart.1)

rise_with : {V : Type 0} (front : List (ℕ × V)) (k : ℕ) (v : V) (back : List (ℕ × V)) → AreBelow k front → KeysAbove k back → KeysRise (front ++ back) → KeysRise (front ++ (k, v) ∷ back)
rise_with [] k v back b a h = (a, h)
rise_with (e ∷ front) k v back b a h = (above_with e.0 front k v back (let lt : e.0 < k = grind (arith, nat_tests, b.0) in lt) h.0, rise_with front k v back b.1 a h.1)

no_back : {V : Type 0} (k : ℕ) (front back : List (ℕ × V)) → NoKey k (front ++ back) → NoKey k back
no_back k [] back h = h
no_back k (e ∷ front) back h = no_back k front back h.1

-- One key more, or less

module _ {V : Type 0} (es fs : List (ℕ × V)) (k : ℕ) (v : V) where
  module _ (none : find nat_cmp k es ≡ None) (h : IsInserted es fs k v) where
    pub inserted_rises : KeysRise es → KeysRise fs
    inserted_rises r = subst KeysRise (sym h.new) (rise_with h.front k v h.back h.below
        (from_above k h.back h.from (no_back k h.front h.back (subst (NoKey k) h.old (none_no k es none)))) (subst KeysRise h.old r))

    pub inserted_here : find nat_cmp k fs ≡ Some v
    inserted_here = ap (find nat_cmp k) h.new ∙ find_behind k h.front ((k, v) ∷ h.back) (below_none k h.front h.below) ∙ find_here k v h.back

    pub inserted_other : (q : ℕ) → q ≢ k → find nat_cmp q fs ≡ find nat_cmp q es
    inserted_other q ne = ap (find nat_cmp q) h.new ∙ find_around q k v h.front h.back ne ∙ ap (find nat_cmp q) (sym h.old)

    pub inserted_length : length fs ≡ suc (length es)
    inserted_length = ap length h.new ∙ more h.front h.back ∙ ap (λ (xs : List (ℕ × V)). suc (length xs)) (sym h.old)
      where
        more : (front back : List (ℕ × V)) → length (front ++ (k, v) ∷ back) ≡ suc (length (front ++ back))
        more [] back = refl
        more (e ∷ front) back = ap suc (more front back)

  module _ (r : KeysRise es) (h : IsRemoved es fs k v) where
    pub removed_rises : KeysRise fs
    removed_rises = subst KeysRise (sym h.new) (rise_without h.front k v h.back (subst KeysRise h.old r))

    pub removed_was : find nat_cmp k es ≡ Some v
    removed_was = ap (find nat_cmp k) h.old ∙ find_behind k h.front ((k, v) ∷ h.back) (below_none k h.front h.below) ∙ find_here k v h.back

    pub removed_here : find nat_cmp k fs ≡ None
    removed_here = ap (find nat_cmp k) h.new ∙ find_behind k h.front h.back (below_none k h.front h.below)
        ∙ find_none k h.back (above_no k h.back (back_rises h.front ((k, v) ∷ h.back) (subst KeysRise h.old r)).0)

    pub removed_other : (q : ℕ) → q ≢ k → find nat_cmp q fs ≡ find nat_cmp q es
    removed_other q ne = ap (find nat_cmp q) h.new ∙ sym (find_around q k v h.front h.back ne) ∙ ap (find nat_cmp q) (sym h.old)

    pub removed_length : length es ≡ suc (length fs)
    removed_length = ap length h.old ∙ more h.front h.back ∙ ap (λ (xs : List (ℕ × V)). suc (length xs)) (sym h.new)
      where
        more : (front back : List (ℕ × V)) → length (front ++ (k, v) ∷ back) ≡ suc (length (front ++ back))
        more [] back = refl
        more (e ∷ front) back = ap suc (more front back)

pub has_find : {V : Type 0} (es : List (ℕ × V)) (k : ℕ) (v : V) → KeysRise es → HasEntry es k v → find nat_cmp k es ≡ Some v
has_find es k v r h = ap (find nat_cmp k) h.whole ∙ find_behind k h.front ((k, v) ∷ h.back) (rise_front h.front k v h.back (subst KeysRise h.whole r)) ∙ find_here k v h.back

-- what a look-up in the blocks answers
pub found : (es : List (ℕ × ℕ)) (k : ℕ) (o : Option ℕ) → KeysRise es → MatchOption o (NoKey k es) (λ v. HasEntry es k v) → find nat_cmp k es ≡ o
found es k None r h = find_none k es h
found es k (Some v) r h = has_find es k v r h
