-- A walk over a span, from its first point on: which of its points are known.
use Rattle.std.specs.Prelude.{◌≡◌, ℕ, ◌≤◌, ◌<◌, ◌||◌, Bool, true, false, List, [], ◌∷◌, Option, Some, None, MatchOption}
use Rattle.krl_modes.specs.declared.part.RangePart.{RangePart}
use Rattle.krl_modes.specs.Parts.{reads_key, reads_gap}
use Rattle.krl_cache.specs.declared.entry.Entry.{Entry}
use Rattle.krl_cache.specs.declared.walk.Left.{Left}
use Rattle.krl_cache.specs.Lists.{part_of}
use Rattle.krl_cache.specs.MapSteps.{AreNext}

-- the first of a list, if any, and those after it
abbrev pub list_of : Option (ℕ × Entry) → List (ℕ × Entry) → List (ℕ × Entry)
list_of None rest = []
list_of (Some e) rest = e ∷ rest

-- the entries that a walk has not come to
abbrev pub left_of : Left → List (ℕ × Entry)
left_of w = list_of w.first w.rest

-- the first pair, if any, stands at hi or after it
abbrev pub StandsFrom : ℕ → List (ℕ × Entry) → Type 0
StandsFrom hi [] = Unit {0}
StandsFrom hi (e ∷ es) = hi ≤ e.0

-- the first entry is taken, if it stands below hi
abbrev pub TakesBelow : ℕ → List (ℕ × Entry) → Option (ℕ × Entry) → List (ℕ × Entry) → Type 0
TakesBelow hi old None new = StandsFrom hi old × (new ≡ old)
TakesBelow hi old (Some e) new = (e.0 < hi) × (old ≡ e ∷ new)

-- the point is known, if this part holds and this entry stands
abbrev pub is_known : RangePart → Option Entry → Bool
is_known part entry = reads_key (part_of entry) || reads_gap part

abbrev pub AreKnown : RangePart → (ℕ → Option Entry) → ℕ → ℕ → Type 0
AreKnown part f lo hi = (q : ℕ) → lo ≤ q → q < hi → is_known part (f q) ≡ true

-- the least point from lo on below hi that is not known
pub record IsGap (part : RangePart) (f : ℕ → Option Entry) (lo hi p : ℕ) : Type 0 where
  pub from : lo ≤ p
  pub below : p < hi
  pub unknown : is_known part (f p) ≡ false
  pub least : AreKnown part f lo p

-- from lo on below hi, if this part holds: each point is known, and the entries from hi on are
-- left; or the answer is the least that is not
abbrev pub Walks :
    RangePart → ℕ → ℕ → List (ℕ × Entry) → Option ℕ → List (ℕ × Entry) → Type 0
Walks part lo hi old gap new =
    (f : ℕ → Option Entry) (end : ℕ) → hi ≤ end → AreNext f lo end old
    → MatchOption gap (AreKnown part f lo hi × AreNext f hi end new) (IsGap part f lo hi)
