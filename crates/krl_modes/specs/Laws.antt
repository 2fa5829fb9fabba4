-- What holds of the modes, in words; the clauses of the calls state that it does.
use Rattle.std.specs.Prelude.{◌≡◌, ℕ, List, IsTrue, ◌⊎◌}
use Rattle.krl_modes.specs.declared.part.RangePart.{RangePart}
use Rattle.krl_modes.specs.declared.part.RangePart.TheVariants as range
use Rattle.krl_modes.specs.declared.part.KeyPart.{KeyPart}
use Rattle.krl_modes.specs.declared.part.KeyPart.TheVariants as key
use Rattle.krl_modes.specs.declared.mode.Mode.{Mode}
use Rattle.krl_modes.specs.declared.mode.Mode.TheVariants as mode
use Rattle.krl_modes.specs.Parts.{range_at_most, key_at_most}
use Rattle.krl_modes.specs.Modes.{range_of, key_of, at_most, compatible}
use Rattle.krl_modes.specs.Names.{mode_name}

-- the mode has these parts
pub record HasParts (m : Mode) (r : RangePart) (k : KeyPart) : Type 0 where
  pub range : range_of m ≡ r
  pub key : key_of m ≡ k

-- the mode has these parts, or, if they are S and X, it is RangeX-X
abbrev pub HasPartsCorrected : Mode → RangePart → KeyPart → Type 0
HasPartsCorrected m r k = HasParts m r k ⊎ ((r ≡ range.S) × (k ≡ key.X) × (m ≡ mode.RangeXX))

-- the three pairs of parts that no mode has
abbrev pub IsNoMode : RangePart → KeyPart → Type 0
IsNoMode r k = ((r ≡ range.S) × (k ≡ key.N)) ⊎ (((r ≡ range.S) × (k ≡ key.X)) ⊎ ((r ≡ range.X) × (k ≡ key.N)))

-- the mode's parts are at least these, and it is at most each mode of which that holds
pub record IsLeastModeAbove (r : RangePart) (k : KeyPart) (bound : Mode) : Type 0 where
  pub above_range : IsTrue (range_at_most r (range_of bound))
  pub above_key : IsTrue (key_at_most k (key_of bound))
  pub least : (m : Mode) → IsTrue (range_at_most r (range_of m)) → IsTrue (key_at_most k (key_of m)) →
      IsTrue (at_most bound m)

-- the bound is compatible with q, and each mode that is compatible with q is at most the bound
pub record IsGreatestBeside (q bound : Mode) : Type 0 where
  pub beside : IsTrue (compatible bound q)
  pub greatest : (m : Mode) → IsTrue (compatible m q) → IsTrue (at_most m bound)

-- a mode that reads the gap reads the key
abbrev pub ReadsItsKey : Mode → Type 0
ReadsItsKey m = IsTrue (range_at_most range.S (range_of m)) → IsTrue (key_at_most key.S (key_of m))

-- no other mode has this name
abbrev pub IsOnlyNamed : Mode → List ℕ → Type 0
IsOnlyNamed m text = (other : Mode) → text ≡ mode_name other → other ≡ m
