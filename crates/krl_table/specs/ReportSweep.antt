-- Of which slots something is reported.
use Rattle.std.specs.Prelude.{◌≡◌, ◌⊎◌, ℕ, suc, ◌≤◌, ◌<◌, true, List, [], ◌∷◌}
use Rattle.krl_modes.specs.declared.mode.Mode.TheVariants as mode
use Rattle.krl_messages.specs.declared.range_pieces.RangePiece.{RangePiece}
use Rattle.krl_messages.specs.declared.key_pieces.KeyPiece.{KeyPiece}
use Rattle.krl_messages.specs.declared.pieces.Pieces.{Pieces}
use Rattle.krl_durable.specs.Index.{Index, is_slot}
use Rattle.krl_modes.specs.Spans.{Bounds}
use Rattle.krl_table.specs.Reports.{joined_range_over, greatest_key_at, rebuilt}

-- no span of these has a point from at on below p
abbrev pub RangesOff : List RangePiece → ℕ → ℕ → Type 0
RangesOff [] at p = Unit {0}
RangesOff (x ∷ xs) at p = ((x.span.hi ≤ at) ⊎ (p ≤ x.span.lo) ⊎ (p ≤ at)) × RangesOff xs at p

-- no point of these lies there
abbrev pub KeysOff : List KeyPiece → ℕ → ℕ → Type 0
KeysOff [] at p = Unit {0}
KeysOff (x ∷ xs) at p = ((x.point < at) ⊎ (p ≤ x.point)) × KeysOff xs at p

-- the point is 0, or comes after a slot
abbrev pub BeginsSpan : Index → ℕ → Type 0
BeginsSpan m at = (at ≡ 0) ⊎ ((n : ℕ) × (at ≡ suc n) × (is_slot m n ≡ true))

-- of no slot from the point on is anything reported
abbrev pub NothingFrom : Index → Pieces → ℕ → Type 0
NothingFrom m pieces at = (n : ℕ) → at ≤ n → is_slot m n ≡ true → rebuilt m pieces n ≡ mode.N

-- slot is one from the point on, and of none before it is anything reported
pub record IsNextReported (m : Index) (pieces : Pieces) (at slot : ℕ) : Type 0 where
  pub there : is_slot m slot ≡ true
  pub above : at ≤ slot
  pub between : (n : ℕ) → at ≤ n → n < slot → is_slot m n ≡ true → rebuilt m pieces n ≡ mode.N

-- each span begins at or after the beginning of the one before, and the first at or above this point
abbrev pub RangesRise : ℕ → List RangePiece → Type 0
RangesRise low [] = Unit {0}
RangesRise low (x ∷ xs) = (low ≤ x.span.lo) × RangesRise x.span.lo xs

-- each point lies at or after the one before, and the first at or above this one
abbrev pub KeysRise : ℕ → List KeyPiece → Type 0
KeysRise low [] = Unit {0}
KeysRise low (x ∷ xs) = (low ≤ x.point) × KeysRise x.point xs

-- both report the same of each span from the point on
abbrev pub SameRanges : ℕ → List RangePiece → List RangePiece → Type 0
SameRanges at xs ys = (span : Bounds) → at ≤ span.lo → joined_range_over xs span ≡ joined_range_over ys span

-- both report the same of each point from this one on
abbrev pub SameKeys : ℕ → List KeyPiece → List KeyPiece → Type 0
SameKeys at xs ys = (p : ℕ) → at ≤ p → greatest_key_at xs p ≡ greatest_key_at ys p

-- both report the same of each slot from the point on
abbrev pub ReportsSame : Index → ℕ → Pieces → Pieces → Type 0
ReportsSame m at left pieces = (n : ℕ) → at ≤ n → is_slot m n ≡ true → rebuilt m left n ≡ rebuilt m pieces n
