-- The pairs of an ordered map in a span, one after another.
use Rattle.krl_cache.proofs.Names.{◌≡◌, ◌≢◌, ℕ, suc, ◌≤◌, ◌<◌, inl, inr, Bool, true, false, cond, List, [], ◌∷◌, Option, None, Some, refl, sym, subst, ◌∙◌, arith, ◌&&◌, not, Less, filter}
use Rattle.krl_cache.proofs.Names.{AllByRecursion, IsStrictlySortedBy, nat_cmp, is_le, keys_of, is_at, entries_between, Included, Excluded, nat_tests, leb_tells, lies_in, at, IsFree, AreNext, Rise}
use Rattle.std.proofs.lemmas.List.Elements.{filter_agree}
use Rattle.krl_cache.proofs.Windows.{inside_window}

above : {V : Type 0} (k : ℕ) (es : List (ℕ × V)) → AllByRecursion (λ y. nat_cmp k y ≡ Less) (keys_of es) → IsStrictlySortedBy nat_cmp (keys_of es) → Rise (suc k) es
unfolding IsStrictlySortedBy
above k [] h s = tt
above k (e ∷ es) h s =
    let up : k < e.0 = grind (arith, nat_tests, h.0) in
    (omega arith, above e.0 es s.0 s.1)

pub rise_of : {V : Type 0} (es : List (ℕ × V)) → IsStrictlySortedBy nat_cmp (keys_of es) → Rise 0 es
unfolding IsStrictlySortedBy
rise_of [] s = tt
rise_of (e ∷ es) s = (omega arith, above e.0 es s.0 s.1)

pub apart : (q k : ℕ) → q < k → is_at (nat_cmp q) k ≡ false
apart q k l = grind (arith, nat_tests)

pub apart_after : (q k : ℕ) → k < q → is_at (nat_cmp q) k ≡ false
apart_after q k l = grind (arith, nat_tests)

pub alike : (k : ℕ) → is_at (nat_cmp k) k ≡ true
alike k = grind (arith, nat_tests)

pub at_before : {V : Type 0} (lo : ℕ) (es : List (ℕ × V)) (q : ℕ) → Rise lo es → q < lo → at es q ≡ None
at_before lo [] q h l = refl
at_before lo (e ∷ es) q h l = rw (apart q e.0 (omega (arith, h.0, l))) (at_before (suc e.0) es q h.1 (omega (arith, h.0, l)))

-- the pairs of f and of g are the same from lo on
next_same : {V : Type 0} (f g : ℕ → Option V) (lo hi : ℕ) (es : List (ℕ × V)) → ((q : ℕ) → lo ≤ q → q < hi → f q ≡ g q) → AreNext f lo hi es → AreNext g lo hi es
next_same f g lo hi [] same h = λ q a b. sym (same q a b) ∙ h q a b
next_same f g lo hi (e ∷ es) same h = (
  record {
    from = h.0.from;
    below = h.0.below;
    here = sym (same e.0 h.0.from h.0.below) ∙ h.0.here;
    free = λ q a b. sym (same q a (omega (arith, b, h.0.below))) ∙ h.0.free q a b;
  },
  next_same f g (suc e.0) hi es (λ q a b. same q (omega (arith, a, h.0.from)) b) h.1,
)

-- nothing stands from lo on below a later point, so one may begin there
pub next_later : {V : Type 0} (f : ℕ → Option V) (lo later hi : ℕ) (es : List (ℕ × V)) → lo ≤ later → IsFree f lo later → AreNext f lo hi es → AreNext f later hi es
next_later f lo later hi [] l free h = λ q a b. h q (omega (arith, l, a)) b
next_later {V} f lo later hi (e ∷ es) l free h =
    elim (leb_tells later e.0) [
      | inl a ↦ (record { from = a.1; below = h.0.below; here = h.0.here; free = λ q x y. h.0.free q (omega (arith, l, x)) y }, h.1)
      | inr a ↦ absurd (let none : f e.0 ≡ None = free e.0 h.0.from a.1 in let bad : ◌≡◌ {A = Option V} None (Some e.1) = sym none ∙ h.0.here in cc)
    ]

same_test : (lo hi q : ℕ) → (is_le (nat_cmp lo q) && not (is_le (nat_cmp hi q))) ≡ lies_in lo hi q
same_test lo hi q = grind (arith, nat_tests)

outside : (lo hi q : ℕ) → lies_in lo hi q ≡ false → lo ≤ q → q < hi → ⊥
outside lo hi q h a b = let is : lies_in lo hi q ≡ true = grind (arith, nat_tests) in let bad : true ≡ false = sym is ∙ h in cc

pub chosen_are_next : {V : Type 0} (lo hi from : ℕ) (es : List (ℕ × V)) → Rise from es → AreNext (at es) lo hi (filter (λ (x : ℕ × V). lies_in lo hi x.0) es)
chosen_are_next lo hi from [] h = λ q a b. refl
chosen_are_next {V} lo hi from (e ∷ es) h =
    let rest = chosen_are_next lo hi (suc e.0) es h.1 in
    let others = filter (λ (x : ℕ × V). lies_in lo hi x.0) es in
    let same : (q : ℕ) → q ≢ e.0 → at es q ≡ at (e ∷ es) q = λ q ne. elim (leb_tells q e.0) [
      | inl a ↦ let out : is_at (nat_cmp q) e.0 ≡ false = apart q e.0 (omega (arith, a.1, ne)) in rw out refl
      | inr a ↦ let out : is_at (nat_cmp q) e.0 ≡ false = apart_after q e.0 a.1 in rw out refl
    ] in
    elim (lies_in lo hi e.0) as (λ (t : Bool). lies_in lo hi e.0 ≡ t → AreNext (at (e ∷ es)) lo hi (cond t (e ∷ others) others)) [
      | true ↦ λ t.
          let i = inside_window lo hi e.0 t in (
            record {
              from = i.0;
              below = i.1;
              here = rw alike refl;
              free = λ q a b. rw (apart q e.0 b) (at_before (suc e.0) es q h.1 (omega (arith, b)));
            },
            next_same (at es) (at (e ∷ es)) (suc e.0) hi others (λ q a b. same q (λ z. omega (arith, z, a))) (next_later (at es) lo (suc e.0) hi others (omega (arith, i.0)) (λ q a b. at_before (suc e.0) es q h.1 b) rest),
          )
      | false ↦ λ t. next_same (at es) (at (e ∷ es)) lo hi others (λ q a b. same q (λ z. outside lo hi e.0 t (omega (arith, z, a)) (omega (arith, z, b)))) rest
    ] refl

pub between : {V : Type 0} (lo hi : ℕ) (es : List (ℕ × V)) → entries_between nat_cmp (Included lo) (Excluded hi) es ≡ filter (λ (x : ℕ × V). lies_in lo hi x.0) es
between lo hi es = filter_agree _ (λ x. lies_in lo hi x.0) (λ x. same_test lo hi x.0) es

-- what a range of the map gives
pub range_is_next : {V : Type 0} (lo hi : ℕ) (es r : List (ℕ × V)) → IsStrictlySortedBy nat_cmp (keys_of es) → r ≡ entries_between nat_cmp (Included lo) (Excluded hi) es → AreNext (at es) lo hi r
range_is_next {V} lo hi es r sorted e =
    subst (λ (xs : List (ℕ × V)). AreNext (at es) lo hi xs) (sym (e ∙ between lo hi es)) (chosen_are_next lo hi 0 es (rise_of es sorted))
