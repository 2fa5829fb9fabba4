-- What holds of each belief.
use Rattle.std.specs.Prelude.{◌≡◌, ◌≢◌, ℕ, ◌<◌, true, Some, None, List}
use Rattle.krl_modes.specs.declared.point.TheConstants.{END}
use Rattle.krl_modes.specs.declared.part.RangePart.TheVariants as range
use Rattle.krl_modes.specs.declared.part.KeyPart.TheVariants as key
use Rattle.krl_modes.specs.declared.mode.Mode.{Mode}
use Rattle.krl_modes.specs.Parts.{reads_key}
use Rattle.krl_modes.specs.Spans.{Bounds}
use Rattle.krl_messages.specs.declared.holding.Holding.{Holding}
use Rattle.krl_messages.specs.Holdings.{has_its_value}
use Rattle.krl_messages.specs.Values.{Value}
use Rattle.krl_messages.specs.declared.pieces.Pieces.{Pieces}
use Rattle.krl_cache.specs.declared.scanned.Scanned.{Scanned}
use Rattle.krl_cache.specs.Beliefs.{Belief, is_span, no_belief, adopt, lower, AreRows, Scans}
use Rattle.krl_cache.specs.Kept.{Describes}

abbrev pub RowsAreDetermined : Type 0
RowsAreDetermined =
    (b : Belief) (s : Bounds) (rows others : List (ℕ × Value))
    → AreRows b s rows → AreRows b s others → rows ≡ others

-- a value stands exactly where the entry is read below END; nothing stands past END
pub record IsBelief (b : Belief) : Type 0 where
  pub valued :
      (p : ℕ) → p ≢ END → reads_key (b.key_at p) ≡ true → (v : Value) × (b.value_at p ≡ Some v)
  pub no_entry : (p : ℕ) → b.key_at p ≡ key.N → b.value_at p ≡ None
  pub at_end : b.value_at END ≡ None
  pub past : (p : ℕ) → END < p → (b.range_at p ≡ range.N) × (b.key_at p ≡ key.N)

-- each call leaves a belief
pub record CallsKeepBelief : Type 0 where
  pub new : IsBelief no_belief
  pub adopt :
      (h : Holding) (b : Belief)
      → is_span h.span ≡ true → has_its_value h ≡ true → IsBelief b → IsBelief (adopt h b)
  pub lower : (s : Bounds) (keep : Mode) (b : Belief) → IsBelief b → IsBelief (lower s keep b)

-- a scan finds one thing
abbrev pub ScansAreDetermined : Type 0
ScansAreDetermined =
    (b : Belief) (s : Bounds) (x y : Scanned) → Scans b s x → Scans b s y → x ≡ y

-- some pieces describe each belief
abbrev pub BeliefsAreDescribed : Type 0
BeliefsAreDescribed = (b : Belief) → IsBelief b → (ps : Pieces) × Describes ps b
