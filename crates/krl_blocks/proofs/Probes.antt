-- A search by halves.
use Rattle.std.proofs.Common.{◌≡◌, ℕ, zero, suc, ◌+◌, ◌-◌, ◌*◌, ◌^◌, ◌%◌, ◌≤◌, ◌<◌, Bool, true, false, cond, List, [], ◌∷◌, Some, length, refl, sym, ap, subst, ◌∙◌, arith}
use Rattle.std.proofs.Math.Nat.{pow-suc, mod-eq_of_lt}
use Rattle.std.proofs.lemmas.Nat.{pow_pos}
use Rattle.std.proofs.lemmas.Bool.{lt-ltb, le-ltb}
use Rattle.std.specs.Prelude.{nat_lt, slice_index_or}
use Rattle.std.specs.List.{AllWithin, slice_get}
use Rattle.std.specs.List.Sorted.{IsPartitionedBy}
use Rattle.krl_blocks.specs.Near.{AreNear}
use Rattle.krl_blocks.specs.Laid.{Rises}

pub near_at : (ns : List ℕ) (i d : ℕ) → AreNear ns → i < length ns → slice_index_or ns i d < 9223372036854775808
near_at [] i d h l = absurd (omega (arith, l))
near_at (n ∷ ns) zero d h l = h.0
near_at (n ∷ ns) (suc i) d h l = near_at ns i d h.1 (omega (arith, l))

same_read : (ns : List ℕ) (i d e : ℕ) → i < length ns → slice_index_or ns i d ≡ slice_index_or ns i e
same_read [] i d e l = absurd (omega (arith, l))
same_read (n ∷ ns) zero d e l = refl
same_read (n ∷ ns) (suc i) d e l = same_read ns i d e (omega (arith, l))

module _ (p : ℕ) (ns : List ℕ) (part : IsPartitionedBy (λ t. nat_lt t p) ns) where
  abbrev Low : ℕ → Type 0
  Low i = AllWithin (λ t. nat_lt t p ≡ true) ns 0 i

  abbrev High : ℕ → Type 0
  High i = AllWithin (λ t. nat_lt t p ≡ false) ns i (length ns)

  -- if the number at j is below the point, so are those before it
  low_to : (j : ℕ) → j < length ns → nat_lt (slice_index_or ns j 0) p ≡ true → Low (j + 1)
  low_to j l up k d a b = part k j d (omega (arith, b)) l (ap (λ x. nat_lt x p) (same_read ns j d 0 l) ∙ up)

  -- and otherwise those after it are not either
  high_from : (j : ℕ) → j < length ns → nat_lt (slice_index_or ns j 0) p ≡ false → High j
  high_from j l down k d a b = by_test (nat_lt (slice_index_or ns k d) p) refl
    where
      by_test : (t : Bool) → nat_lt (slice_index_or ns k d) p ≡ t → t ≡ false
      by_test false e = refl
      by_test true e = absurd (let up = part j k d a b e in let down_d = ap (λ x. nat_lt x p) (same_read ns j d 0 l) ∙ down in let bad : true ≡ false = sym up ∙ down_d in cc)

  low_less : (i j : ℕ) → i ≤ j → Low j → Low i
  low_less i j le h k d a b = h k d a (omega (arith, b, le))

  high_more : (i j : ℕ) → i ≤ j → High i → High j
  high_more i j le h k d a b = h k d (omega (arith, a, le)) b

  pub step : (base half r : ℕ) (t : Bool) → 0 < half → base + half + half ≤ length ns → Low base → High (base + half + half) → nat_lt (slice_index_or ns (base + half - 1) 0) p ≡ t → r ≡ cond t 1 0 → (base + r * half + half ≤ length ns) × Low (base + r * half) × High (base + r * half + half)
  step base half r true some fits low high e is =
      let here : base + r * half ≡ base + half = ap (λ n. base + n * half) is ∙ (omega arith) in
      let j : base + half - 1 + 1 ≡ base + half = omega (arith, some) in (
        omega (arith, here, fits),
        subst Low (j ∙ sym here) (low_to (base + half - 1) (omega (arith, some, fits)) e),
        subst (λ n. High (n + half)) (sym here) high,
      )
  step base half r false some fits low high e is =
      let here : base + r * half ≡ base = ap (λ n. base + n * half) is ∙ (omega arith) in (
        omega (arith, here, fits),
        subst Low (sym here) low,
        subst (λ n. High (n + half)) (sym here) (high_more (base + half - 1) (base + half) (omega (arith, some)) (high_from (base + half - 1) (omega (arith, some, fits)) e)),
      )

  pub last : (base r : ℕ) (t : Bool) → base + 1 ≤ length ns → Low base → High (base + 1) → nat_lt (slice_index_or ns base 0) p ≡ t → r ≡ cond t 1 0 → (base + r ≤ length ns) × Low (base + r) × High (base + r)
  last base r true fits low high e is = (omega (arith, is, fits), subst (λ n. Low (base + n)) (sym is) (low_to base (omega (arith, fits)) e), subst (λ n. High (base + n)) (sym is) high)
  last base r false fits low high e is =
      let here : base + r ≡ base = omega (arith, is) in
      (omega (arith, here, fits), subst Low (sym here) low, subst High (sym here) (high_from base (omega (arith, fits)) e))

  pub first_up : (whole : ℕ) → 0 < whole → whole ≤ length ns → length ns < 2 * whole → nat_lt (slice_index_or ns (whole - 1) 0) p ≡ true → Low (length ns - whole) × High (length ns - whole + whole)
  first_up whole some le lt e = (low_less (length ns - whole) (whole - 1 + 1) (omega (arith, some, le, lt)) (low_to (whole - 1) (omega (arith, some, le)) e), λ k d a b. absurd (omega (arith, a, b, le)))

  pub first_down : (whole : ℕ) → 0 < whole → whole ≤ length ns → nat_lt (slice_index_or ns (whole - 1) 0) p ≡ false → Low 0 × High (0 + whole)
  first_down whole some le e = ((λ k d a b. absurd (omega (arith, b))), high_more (whole - 1) (0 + whole) (omega (arith, some)) (high_from (whole - 1) (omega (arith, some, le)) e))

  one_pow : (s : ℕ) → s ≤ 0 → 2 ^ s ≡ 1
  one_pow s le = ap (λ n. 2 ^ n) (let e : s ≡ 0 = omega (arith, le) in e)

  two_pows : (s : ℕ) → 0 < s → 2 ^ s ≡ 2 ^ (s - 1) + 2 ^ (s - 1)
  two_pows s some =
      let e : s ≡ suc (s - 1) = omega (arith, some) in
      let twice : 2 ^ suc (s - 1) ≡ 2 ^ (s - 1) * 2 = pow-suc 2 (s - 1) in
      ap (λ n. 2 ^ n) e ∙ twice ∙ (omega arith)

  small : (w : ℕ) → w < 18446744073709551616 → w % 18446744073709551616 ≡ w
  small w lt = mod-eq_of_lt lt

  pub last_pow : (base s r : ℕ) → s ≤ 0 → base + 2 ^ s ≤ length ns → Low base → High (base + 2 ^ s) → r ≡ cond (nat_lt (slice_index_or ns base 0) p) 1 0 → (base + r ≤ length ns) × Low (base + r) × High (base + r)
  last_pow base s r z fits low high is =
      let w = one_pow s z in
      last base r (nat_lt (slice_index_or ns base 0) p) (omega (arith, fits, w)) low (subst (λ n. High (base + n)) w high) refl is

  module _ (base s : ℕ) (some : 0 < s) (fits : base + 2 ^ s ≤ length ns) (few : length ns < 18446744073709551616) where
    half_small : 2 ^ (s - 1) < 18446744073709551616
    half_small = let w = two_pows s some in omega (arith, w, fits, few)

    half_some : 0 < 2 ^ (s - 1)
    half_some = pow_pos (s - 1)

    one_half : 1 * 2 ^ (s - 1) % 18446744073709551616 ≡ 2 ^ (s - 1)
    one_half = ap (λ n. n % 18446744073709551616) (let e : 1 * 2 ^ (s - 1) ≡ 2 ^ (s - 1) = omega arith in e) ∙ small (2 ^ (s - 1)) half_small

    pub probe_within : base + 1 * 2 ^ (s - 1) % 18446744073709551616 - 1 < length ns
    probe_within = let w = two_pows s some in omega (arith, one_half, w, fits, half_some)

    pub step_pow : (r : ℕ) → Low base → High (base + 2 ^ s) → r ≡ cond (nat_lt (slice_index_or ns (base + 1 * 2 ^ (s - 1) % 18446744073709551616 - 1) 0) p) 1 0 → (base + r * 2 ^ (s - 1) % 18446744073709551616 + 2 ^ (s - 1) ≤ length ns) × Low (base + r * 2 ^ (s - 1) % 18446744073709551616) × High (base + r * 2 ^ (s - 1) % 18446744073709551616 + 2 ^ (s - 1))
    step_pow r low high is =
        let w = two_pows s some in
        let at : r ≡ cond (nat_lt (slice_index_or ns (base + 2 ^ (s - 1) - 1) 0) p) 1 0 = is ∙ ap (λ n. cond (nat_lt (slice_index_or ns (base + n - 1) 0) p) 1 0) one_half in
        let whole : base + 2 ^ s ≡ base + 2 ^ (s - 1) + 2 ^ (s - 1) = omega (arith, w) in
        let z = step base (2 ^ (s - 1)) r (nat_lt (slice_index_or ns (base + 2 ^ (s - 1) - 1) 0) p) half_some (omega (arith, whole, fits)) low (subst High whole high) refl at in
        let same : r * 2 ^ (s - 1) % 18446744073709551616 ≡ r * 2 ^ (s - 1) = small (r * 2 ^ (s - 1)) (let le = z.0 in omega (arith, le, few)) in
        subst (λ n. (base + n + 2 ^ (s - 1) ≤ length ns) × Low (base + n) × High (base + n + 2 ^ (s - 1))) (sym same) z

  module _ (s base : ℕ) (le : 2 ^ s ≤ length ns) (few : length ns < 18446744073709551616) where
    one_whole : 1 * 2 ^ s % 18446744073709551616 ≡ 2 ^ s
    one_whole = ap (λ n. n % 18446744073709551616) (let e : 1 * 2 ^ s ≡ 2 ^ s = omega arith in e) ∙ small (2 ^ s) (omega (arith, le, few))

    pub up_pow : length ns < 2 * 2 ^ s → slice_index_or ns (1 * 2 ^ s % 18446744073709551616 - 1) 0 < p → base ≡ length ns - 1 * 2 ^ s % 18446744073709551616 → (base + 2 ^ s ≤ length ns) × Low base × High (base + 2 ^ s)
    up_pow lt h is =
        let at : base ≡ length ns - 2 ^ s = is ∙ ap (λ n. length ns - n) one_whole in
        let z = first_up (2 ^ s) (pow_pos s) le lt (lt-ltb _ p (subst (λ n. slice_index_or ns (n - 1) 0 < p) one_whole h)) in
        (omega (arith, at, le), subst Low (sym at) z.0, subst (λ n. High (n + 2 ^ s)) (sym at) z.1)

    pub down_pow : p ≤ slice_index_or ns (1 * 2 ^ s % 18446744073709551616 - 1) 0 → base ≡ 0 → (base + 2 ^ s ≤ length ns) × Low base × High (base + 2 ^ s)
    down_pow h is =
        let z = first_down (2 ^ s) (pow_pos s) le (le-ltb _ p (subst (λ n. p ≤ slice_index_or ns (n - 1) 0) one_whole h)) in
        (omega (arith, is, le), subst Low (sym is) z.0, subst (λ n. High (n + 2 ^ s)) (sym is) z.1)

  abbrev pub Start : ℕ → ℕ → Type 0
  Start base s = (base + 2 ^ s ≤ length ns) × Low base × High (base + 2 ^ s)

-- numbers that rise to a near one are near

near_above : (k : ℕ) (ns : List ℕ) (l : ℕ) → Rises (k ∷ ns) → Some l ≡ slice_get (k ∷ ns) (length ns) → l < 9223372036854775808 → AreNear (k ∷ ns) × (k ≤ l)
near_above k [] l h e lt = let same : l ≡ k = cc in ((omega (arith, same, lt), tt), omega (arith, same))
near_above k (n ∷ ns) l h e lt =
    let r = near_above n ns l h.1 e lt in let up = h.0.0 in let le = r.1 in
    ((omega (arith, up, le, lt), r.0), omega (arith, up, le))

pub near_all : (ns : List ℕ) (l : ℕ) → Rises ns → Some l ≡ slice_get ns (length ns - 1) → l < 9223372036854775808 → AreNear ns
near_all [] l h e lt = tt
near_all (n ∷ ns) l h e lt = (near_above n ns l h (e ∙ ap (slice_get (n ∷ ns)) (let less : length (n ∷ ns) - 1 ≡ length ns = omega arith in less)) lt).0
