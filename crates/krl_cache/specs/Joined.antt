-- Holdings whose spans follow one another without a gap between them, and whose range parts agree.
use Rattle.std.specs.Prelude.{◌≡◌, ℕ, ◌-◌, ◌≤◌, ◌<◌, true, false, List, [], ◌∷◌, Option, IsSome}
use Rattle.krl_modes.specs.declared.point.TheConstants.{TOP}
use Rattle.krl_modes.specs.declared.part.RangePart.{RangePart}
use Rattle.krl_modes.specs.Parts.{reads_key}
use Rattle.krl_modes.specs.Modes.{range_of, key_of}
use Rattle.krl_messages.specs.declared.holding.Holding.{Holding}
use Rattle.krl_cache.specs.declared.entry.Entry.{Entry}
use Rattle.krl_cache.specs.Several.{is_slot_of}

-- they are this range part's, from lo on below hi
abbrev pub AreJoined : List Holding → ℕ → ℕ → RangePart → Type 0
AreJoined [] lo hi part = lo ≡ hi
AreJoined (h ∷ hs) lo hi part = (h.span.lo ≡ lo) × (h.span.lo < h.span.hi) × (h.span.hi ≤ TOP)
    × (range_of h.mode ≡ part) × AreJoined hs h.span.hi hi part

-- an entry stands at each slot where one will be read
abbrev pub AreHeld : List Holding → (ℕ → Option Entry) → Type 0
AreHeld [] e = Unit {0}
AreHeld (h ∷ hs) e =
    (reads_key (key_of h.mode) ≡ true → IsSome (e (h.span.hi - 1))) × AreHeld hs e

-- such entries were put in where none stood, and no answer changed
pub record HoldsAll (hs : List Holding) (d e : ℕ → Option Entry) : Type 0 where
  pub held : AreHeld hs e
  pub entries : (q : ℕ) → is_slot_of hs q ≡ false → e q ≡ d q
  pub stay : (q : ℕ) → IsSome (d q) → IsSome (e q)

-- they are not, wherever they end
abbrev pub NotJoined : List Holding → ℕ → RangePart → Type 0
NotJoined hs lo part = (hi : ℕ) → AreJoined hs lo hi part → ⊥
