-- The points of a span; spans meet if they have a common point.
use Rattle.std.proofs.Common.{◌≡◌, ℕ, ◌≤◌, ◌<◌, ◌↔◌, true, nat_lt, nat_le, max, arith}
use Rattle.std.specs.Prelude.{IsTrue}
use Rattle.std.proofs.lemmas.Bool.{and_parts, and_from, ltb-true, lt-ltb, leb-true, le-leb}
use Rattle.krl_modes.specs.Spans.{Bounds, contains, meets}
use Rattle.krl_modes.specs.PointSets.{ShareAPoint}

pub inside_span : (s : Bounds) (p : ℕ) → contains s p ≡ true → (s.lo ≤ p) × (p < s.hi)
inside_span s p e = let h = and_parts (nat_le s.lo p) (nat_lt p s.hi) e in (leb-true s.lo p h.0, ltb-true p s.hi h.1)

pub in_span : (s : Bounds) (p : ℕ) → s.lo ≤ p → p < s.hi → contains s p ≡ true
in_span s p a b = and_from (nat_le s.lo p) (nat_lt p s.hi) (le-leb s.lo p a) (lt-ltb p s.hi b)

pub meets-points : (s t : Bounds) → s.lo < s.hi → t.lo < t.hi → IsTrue (meets s t) ↔ ShareAPoint s t
meets-points s t a b = (
  λ e. let both = and_parts (nat_lt s.lo t.hi) (nat_lt t.lo s.hi) e in
      let low : s.lo < t.hi = ltb-true s.lo t.hi both.0 in
      let high : t.lo < s.hi = ltb-true t.lo s.hi both.1 in
      (max s.lo t.lo, ((omega arith, omega arith), (omega arith, omega arith))),
  λ w. and_from (nat_lt s.lo t.hi) (nat_lt t.lo s.hi) (lt-ltb s.lo t.hi (omega arith)) (lt-ltb t.lo s.hi (omega arith)),
)
