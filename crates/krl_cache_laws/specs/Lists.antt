-- A cache kept in plain lists: pieces in order, entries in the order of their points.
use Rattle.std.specs.Prelude.{◌≡◌, ℕ, ◌≤◌, ◌<◌, true, min, max, nat_lt, List, ◌∷◌, ◌++◌, Option, Some, None, if◌then◌else◌}
use Rattle.std.specs.Ordering.{nat_cmp}
use Rattle.std.specs.FinMap.{find}
use Rattle.krl_modes.specs.declared.point.TheConstants.{TOP}
use Rattle.krl_modes.specs.declared.part.RangePart.{RangePart}
use Rattle.krl_modes.specs.Parts.{range_meet}
use Rattle.krl_messages.specs.declared.range_pieces.RangePiece.{RangePiece}
use Rattle.krl_cache.specs.declared.entry.Entry.{Entry}
use Rattle.krl_cache.specs.Beliefs.{Belief, is_covered}
use Rattle.krl_cache.specs.Kept.{first_range_at, AreMerged}
use Rattle.krl_cache.specs.Lists.{belief_by}
use Rattle.krl_cache.specs.Entries.{StandWithin, RiseWithin, AreRead}

-- what of a piece lies from lo on below hi, lowered
abbrev pub clip : ℕ → ℕ → RangePart → RangePiece → Option RangePiece
clip lo hi keep x =
    if nat_lt (max x.span.lo lo) (min x.span.hi hi)
    then Some (record {
      span = record { lo = max x.span.lo lo; hi = min x.span.hi hi };
      part = range_meet x.part keep;
    })
    else None

pub record Lists : Type 0 where
  pub ranges : List RangePiece
  pub entries : List (ℕ × Entry)

abbrev pub lists_believe : Lists → Belief
lists_believe x = belief_by (first_range_at x.ranges) (λ p. find nat_cmp p x.entries)

-- entries in the order of their points, none past END, each read
pub record ArePlaced (es : List (ℕ × Entry)) : Type 0 where
  pub rise : RiseWithin 0 TOP es
  pub read : AreRead es

pub record AreKept (x : Lists) : Type 0 where
  pub ranges : StandWithin 0 TOP x.ranges
  pub merged : AreMerged x.ranges
  pub entries : ArePlaced x.entries

-- the piece continues where the other ends, and states the same
abbrev pub GoesOn : RangePiece → RangePiece → Type 0
GoesOn x y = (x.span.hi ≡ y.span.lo) × (x.part ≡ y.part)

-- the piece covers both, and states what they state
pub record IsBoth (x y both : RangePiece) : Type 0 where
  pub on : GoesOn x y
  pub lo : both.span.lo ≡ x.span.lo
  pub hi : both.span.hi ≡ y.span.hi
  pub part : both.part ≡ y.part

-- the new ones state the same as the old ones with the piece after them, whatever follows, and are merged
pub record AddsBehind (old : List RangePiece) (x : RangePiece) (new : List RangePiece) : Type 0 where
  pub stand : (rest : List RangePiece) → StandWithin 0 TOP (old ++ x ∷ rest) → StandWithin 0 TOP (new ++ rest)
  pub said :
      (rest : List RangePiece) → StandWithin 0 TOP (old ++ x ∷ rest) → (p : ℕ)
      → first_range_at (new ++ rest) p ≡ first_range_at (old ++ x ∷ rest) p
  pub merged : AreMerged old → AreMerged new

-- the part holds at each point from p on below the end
pub record Holds (f : ℕ → RangePart) (p : ℕ) (part : RangePart) (end : ℕ) : Type 0 where
  pub more : p < end
  pub holds : (q : ℕ) → p ≤ q → q < end → f q ≡ part

-- each point from p on below the end is known
pub record KnowsFrom (b : Belief) (p end : ℕ) : Type 0 where
  pub more : p < end
  pub knows : (q : ℕ) → p ≤ q → q < end → is_covered b q ≡ true
