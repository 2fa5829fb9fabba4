-- Spans, as the points in them.
use Rattle.std.specs.Prelude.{ℕ, Bool, ◌&&◌, ◌<◌, ◌≤◌, nat_lt, nat_le}

-- the ends of a span: its first point, and one past its last
pub record Bounds : Type 0 where
  pub lo : ℕ
  pub hi : ℕ

-- the point lies in the span
abbrev pub contains : Bounds → ℕ → Bool
contains s p = nat_le s.lo p && nat_lt p s.hi

-- every point of the one lies in the other
abbrev pub within : Bounds → Bounds → Bool
within s t = nat_le t.lo s.lo && nat_le s.hi t.hi

-- some point lies in both
abbrev pub meets : Bounds → Bounds → Bool
meets s t = nat_lt s.lo t.hi && nat_lt t.lo s.hi

-- the point is the span's first or comes after it, and comes before the span's end
abbrev pub IsPointOf : Bounds → ℕ → Type 0
IsPointOf s p = (s.lo ≤ p) × (p < s.hi)
