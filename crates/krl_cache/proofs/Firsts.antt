-- The first pair of a map in a span.
use Rattle.krl_cache.proofs.Names.{◌≡◌, ℕ, suc, ◌≤◌, ◌<◌, false, List, ◌∷◌, Option, Some, IsSome, IfSome, subst, arith, slice_get, Less, nat_cmp, is_gt, nat_tests, IsFirst}
use Rattle.krl_cache.proofs.Starts.{none_unless}
use Rattle.std.proofs.lemmas.Map.Keys.{le_from_not_gt}

abbrev pub InRange : ℕ → ℕ → ℕ → Type 0
InRange lo hi q = (is_gt (nat_cmp lo q) ≡ false) × (nat_cmp q hi ≡ Less)

high : (q hi : ℕ) → nat_cmp q hi ≡ Less → q < hi
high q hi h = grind (arith, nat_tests)

in_range : (lo hi q : ℕ) → lo ≤ q → q < hi → InRange lo hi q
in_range lo hi q a b = (grind (arith, nat_tests), grind (arith, nat_tests))

pub first_by : {V : Type 0} (f : ℕ → Option V) (r t : List (ℕ × V)) (e : ℕ × V) (lo hi : ℕ) → r ≡ e ∷ t → IfSome (slice_get r 0) (λ x. InRange lo hi x.0 × (f x.0 ≡ Some x.1)) → ((q : ℕ) → InRange lo hi q → IsSome (f q) → IfSome (slice_get r 0) (λ x. is_gt (nat_cmp x.0 q) ≡ false)) → IsFirst f lo hi e
first_by {V} f r t e lo hi steps here least =
    let at = subst (λ (xs : List (ℕ × V)). IfSome (slice_get xs 0) (λ x. InRange lo hi x.0 × (f x.0 ≡ Some x.1))) steps here in
    record {
      from = le_from_not_gt lo e.0 at.0.0;
      below = high e.0 hi at.0.1;
      here = at.1;
      free = λ q a b. none_unless (f q) (λ some.
          let below : e.0 < hi = high e.0 hi at.0.1 in
          let le = subst (λ (xs : List (ℕ × V)). IfSome (slice_get xs 0) (λ x. is_gt (nat_cmp x.0 q) ≡ false)) steps (least q (in_range lo hi q a (omega arith)) some) in
          let no : e.0 ≤ q = le_from_not_gt e.0 q le in
          omega arith);
    }

-- if a range has no end
pub first_after : {V : Type 0} (f : ℕ → Option V) (r t : List (ℕ × V)) (e : ℕ × V) (lo : ℕ) (E : ℕ → Type 0) → ((q : ℕ) → E q) → r ≡ e ∷ t → IfSome (slice_get r 0) (λ x. ((is_gt (nat_cmp lo x.0) ≡ false) × E x.0) × (f x.0 ≡ Some x.1)) → ((q : ℕ) → (is_gt (nat_cmp lo q) ≡ false) × E q → IsSome (f q) → IfSome (slice_get r 0) (λ x. is_gt (nat_cmp x.0 q) ≡ false)) → IsFirst f lo (suc e.0) e
first_after {V} f r t e lo E all steps here least =
    let at = subst (λ (xs : List (ℕ × V)). IfSome (slice_get xs 0) (λ x. ((is_gt (nat_cmp lo x.0) ≡ false) × E x.0) × (f x.0 ≡ Some x.1))) steps here in
    record {
      from = le_from_not_gt lo e.0 at.0.0;
      below = omega arith;
      here = at.1;
      free = λ q a b. none_unless (f q) (λ some.
          let up : is_gt (nat_cmp lo q) ≡ false = grind (arith, nat_tests) in
          let le = subst (λ (xs : List (ℕ × V)). IfSome (slice_get xs 0) (λ x. is_gt (nat_cmp x.0 q) ≡ false)) steps (least q (up, all q) some) in
          let no : e.0 ≤ q = le_from_not_gt e.0 q le in
          omega arith);
    }
