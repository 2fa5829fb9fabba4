-- Spans as sets of points, and where the points end.
use Rattle.std.specs.Prelude.{ℕ, ◌<◌}
use Rattle.krl_modes.specs.Spans.{Bounds, IsPointOf}

-- the last point, 2^63 - 1: it ends every index and is never a key
abbrev pub last_point : ℕ
last_point = 9223372036854775807

-- one past the last point, 2^63: where the longest span ends
abbrev pub past_points : ℕ
past_points = 9223372036854775808

-- some point lies in the span
abbrev pub IsWhole : Bounds → Type 0
IsWhole span = span.lo < span.hi

-- every point of the one is a point of the other
abbrev pub IsPartOf : Bounds → Bounds → Type 0
IsPartOf s t = (p : ℕ) → IsPointOf s p → IsPointOf t p

-- some point is a point of both
abbrev pub ShareAPoint : Bounds → Bounds → Type 0
ShareAPoint s t = (p : ℕ) × (IsPointOf s p × IsPointOf t p)
