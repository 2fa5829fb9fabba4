-- Lengths with the drift, and ends.
use Rattle.std.proofs.Common.{◌≡◌, ◌<◌, ◌≤◌, ℕ, ◌+◌, ◌*◌, ◌⊎◌, Bool, true, false, arith, eq-eqb, leb-true, ltb-true, ltb-false, inl, inr, refl}
use Rattle.std.specs.Prelude.{nat_lt, nat_le, max, if◌then◌else◌}
use Rattle.std.proofs.Math.Nat.{mul-le-mul_left, mul-le-mul_right}
use Rattle.std.proofs.lemmas.Bool.{and_parts}
use Rattle.krl_leases.specs.declared.length.TheConstants.{FOR_EVER}
use Rattle.krl_leases.specs.declared.until.Until.{Until}
use Rattle.krl_leases.specs.Lengths.{stretched}
use Rattle.krl_leases.specs.Servers.{is_never, has_come, at_least}
use Rattle.krl_leases.specs.Laws.{SteadyAgree}

pub longer : (d l m : ℕ) → l ≤ m → stretched d l ≤ stretched d m
unfolding stretched
longer d l m h = let p : l * (100 + d) ≤ m * (100 + d) = mul-le-mul_right (100 + d) h in omega arith

pub further : (d e l : ℕ) → d ≤ e → stretched d l ≤ stretched e l
unfolding stretched
further d e l h =
    let q : 100 + d ≤ 100 + e = omega arith in
    let p : l * (100 + d) ≤ l * (100 + e) = mul-le-mul_left l q in
    omega arith

pub no_shorter : (d l : ℕ) → l ≤ stretched d l
unfolding stretched
no_shorter d l =
    let q : 100 ≤ 100 + d = omega arith in
    let p : l * 100 ≤ l * (100 + d) = mul-le-mul_left l q in
    omega arith

-- the length with the drift, times a hundred
whole : (d l : ℕ) → l * (100 + d) ≤ 100 * stretched d l
unfolding stretched
whole d l = omega arith

pub come : (until : Until) (now : ℕ) → has_come until now ≡ true → (until.moment < FOR_EVER) × (until.moment ≤ now)
come until now h =
    let p = and_parts (nat_lt until.moment FOR_EVER) (nat_le until.moment now) h in
    (ltb-true until.moment FOR_EVER p.0, leb-true until.moment now p.1)

pub never : (until : Until) → FOR_EVER ≤ until.moment → until.moment ≤ FOR_EVER → is_never until ≡ true
never until h k = let e : until.moment ≡ FOR_EVER = omega arith in eq-eqb until.moment FOR_EVER e

-- the moment that a sign leaves is no earlier than the sign's own
pub no_lower : (until : Until) (m : ℕ) → m ≤ at_least until m
no_lower until m = by (is_never until)
  where
    by : (b : Bool) → m ≤ (if b then m else max until.moment m)
    by true = omega arith
    by false = omega arith

pub a_number : (until : Until) (m : ℕ) → m ≤ FOR_EVER → until.moment ≤ FOR_EVER → at_least until m ≤ FOR_EVER
a_number until m h k = by (is_never until)
  where
    by : (b : Bool) → (if b then m else max until.moment m) ≤ FOR_EVER
    by true = h
    by false = omega arith

-- if the client's clock went by less than the length, so many hundredths of it are less too
steps : (a b d l : ℕ) → a < b + l → (100 + d) * a + (100 + d) ≤ (100 + d) * b + l * (100 + d)
steps a b d l h =
    let q : a + 1 ≤ b + l = omega arith in
    let p : (100 + d) * (a + 1) ≤ (100 + d) * (b + l) = mul-le-mul_left (100 + d) q in
    omega arith

pub steady_agree : SteadyAgree
steady_agree limits clocks s = record {
  rises = s.rises;
  rates = λ m x y length h _ c. by (clocks.client x) (clocks.client y) (clocks.server m x) (clocks.server m y) limits.drift length (s.steady m x y h) c;
}
  where
    by : (cx cy sx sy d l : ℕ) → 100 * sy + (100 + d) * cx ≤ 100 * sx + (100 + d) * cy → cy < cx + l → sy < sx + stretched d l
    by cx cy sx sy d l h c =
        let p : (100 + d) * cy + (100 + d) ≤ (100 + d) * cx + l * (100 + d) = steps cy cx d l c in
        let q : l * (100 + d) ≤ 100 * stretched d l = whole d l in
        omega arith

pub lt_or_ge : (a b : ℕ) → (a < b) ⊎ (b ≤ a)
lt_or_ge a b = by (nat_lt a b) refl
  where
    by : (t : Bool) → nat_lt a b ≡ t → (a < b) ⊎ (b ≤ a)
    by true e = inl (ltb-true a b e)
    by false e = inr (ltb-false a b e)
