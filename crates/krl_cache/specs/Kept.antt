-- Lists that stand for a belief, as a Report states them. Any two lists that stand for one belief are
-- interchangeable.
use Rattle.std.specs.Prelude.{◌≡◌, ◌≢◌, ℕ, suc, ◌≤◌, ◌<◌, true, List, [], ◌∷◌, if◌then◌else◌, nat_eq}
use Rattle.krl_modes.specs.declared.point.TheConstants.{END, TOP}
use Rattle.krl_modes.specs.declared.part.RangePart.{RangePart}
use Rattle.krl_modes.specs.declared.part.RangePart.TheVariants as range
use Rattle.krl_modes.specs.declared.part.KeyPart.{KeyPart}
use Rattle.krl_modes.specs.declared.part.KeyPart.TheVariants as key
use Rattle.krl_modes.specs.Parts.{reads_key}
use Rattle.krl_modes.specs.Spans.{contains}
use Rattle.krl_messages.specs.declared.range_pieces.RangePiece.{RangePiece}
use Rattle.krl_messages.specs.declared.key_pieces.KeyPiece.{KeyPiece}
use Rattle.krl_messages.specs.declared.pieces.Pieces.{Pieces}
use Rattle.krl_cache.specs.Beliefs.{Belief}

-- What lists state of a point: the first that speaks of it, otherwise N

-- of its range part
abbrev pub first_range_at : List RangePiece → ℕ → RangePart
first_range_at [] p = range.N
first_range_at (x ∷ xs) p = if contains x.span p then x.part else first_range_at xs p

-- of its key part
abbrev pub first_key_at : List KeyPiece → ℕ → KeyPart
first_key_at [] p = key.N
first_key_at (k ∷ ks) p = if nat_eq p k.point then k.part else first_key_at ks p

-- spans from lo on, in order, none empty, none past END
abbrev pub AreInOrder : ℕ → List RangePiece → Type 0
AreInOrder lo [] = Unit {0}
AreInOrder lo (x ∷ xs) =
    (lo ≤ x.span.lo) × (x.span.lo < x.span.hi) × (x.span.hi ≤ TOP) × AreInOrder x.span.hi xs

-- the next piece, if it begins as this one ends, states another part
abbrev pub DiffersFromNext : RangePiece → List RangePiece → Type 0
DiffersFromNext x [] = Unit {0}
DiffersFromNext x (y ∷ ys) = y.span.lo ≡ x.span.hi → y.part ≢ x.part

-- neighbours that state the same are one piece, and no piece states N
abbrev pub AreMerged : List RangePiece → Type 0
AreMerged [] = Unit {0}
AreMerged (x ∷ xs) = (x.part ≢ range.N) × DiffersFromNext x xs × AreMerged xs

-- points from lo on, ascending, up to END, each read
abbrev pub AreAscending : ℕ → List KeyPiece → Type 0
AreAscending lo [] = Unit {0}
AreAscending lo (k ∷ ks) =
    (lo ≤ k.point) × (k.point ≤ END) × (reads_key k.part ≡ true) × AreAscending (suc k.point) ks

-- the two lists of a Report state exactly this belief's parts, in as few pieces as can be
pub record Describes (ps : Pieces) (b : Belief) : Type 0 where
  pub ranges_in_order : AreInOrder 0 ps.ranges
  pub merged : AreMerged ps.ranges
  pub keys_in_order : AreAscending 0 ps.keys
  pub ranges : (p : ℕ) → first_range_at ps.ranges p ≡ b.range_at p
  pub keys : (p : ℕ) → first_key_at ps.keys p ≡ b.key_at p
