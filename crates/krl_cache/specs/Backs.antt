-- A walk back over the starts of a map: which of them it has not come to.
use Rattle.std.specs.Prelude.{◌≡◌, ℕ, ◌≤◌, ◌<◌, Bool, false, List, [], ◌∷◌, ◌++◌, Option, Some, None}
use Rattle.krl_modes.specs.declared.part.RangePart.{RangePart}
use Rattle.krl_modes.specs.declared.part.RangePart.TheVariants as range
use Rattle.krl_cache.specs.declared.back.Back.{Back}
use Rattle.krl_cache.specs.Maps.{at}
use Rattle.krl_cache.specs.MapSteps.{IsFree}
use Rattle.krl_cache.specs.Sifts.{Rise}

-- those before the last of a list, and the last, if any
abbrev pub list_to : List (ℕ × RangePart) → Option (ℕ × RangePart) → List (ℕ × RangePart)
list_to rest None = []
list_to rest (Some e) = rest ++ e ∷ []

-- the starts that a walk back has not come to
abbrev pub back_of : Back → List (ℕ × RangePart)
back_of w = list_to w.rest w.last

-- the part of the last start, or N if there is none
abbrev pub part_last : Option (ℕ × RangePart) → RangePart
part_last None = range.N
part_last (Some e) = e.1

-- the last start, if any, is below p
abbrev pub IsBelow : ℕ → Option (ℕ × RangePart) → Type 0
IsBelow p None = Unit {0}
IsBelow p (Some e) = e.0 < p

-- the starts below p, in order
pub record AreBefore (f : ℕ → Option RangePart) (p : ℕ) (xs : List (ℕ × RangePart)) : Type 0 where
  pub rise : Rise 0 xs
  pub each : (q : ℕ) → q < p → at xs q ≡ f q
  pub past : (q : ℕ) → p ≤ q → at xs q ≡ None

-- the last start is taken, if it is at p or after it
abbrev pub TakesFrom : ℕ → Back → Option (ℕ × RangePart) → Back → Type 0
TakesFrom p old None new = IsBelow p old.last × (new ≡ old)
TakesFrom p old (Some e) new = (p ≤ e.0) × (back_of old ≡ back_of new ++ e ∷ [])

-- the starts from p on are taken, if there were any
abbrev pub Skips : ℕ → Back → Bool → Back → Type 0
Skips p old any new =
    (f : ℕ → Option RangePart) (end : ℕ) → p ≤ end → AreBefore f end (back_of old)
    → AreBefore f p (back_of new) × (any ≡ false → IsFree f p end)
