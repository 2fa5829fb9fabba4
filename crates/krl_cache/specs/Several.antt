-- Several holdings that are taken over at once, in the maps of a cache.
use Rattle.std.specs.Prelude.{◌≡◌, ◌⊎◌, ℕ, ◌-◌, Bool, true, false, ◌||◌, List, [], ◌∷◌, Option, None, Some, IsSome, if◌then◌else◌, nat_eq}
use Rattle.std.specs.BTreeMap.{BTreeMap}
use Rattle.krl_modes.specs.declared.part.RangePart.{RangePart}
use Rattle.krl_modes.specs.Parts.{reads_key}
use Rattle.krl_modes.specs.Modes.{range_of, key_of}
use Rattle.krl_modes.specs.Spans.{contains}
use Rattle.krl_messages.specs.declared.holding.Holding.{Holding}
use Rattle.krl_cache.specs.declared.entry.Entry.{Entry}
use Rattle.krl_cache.specs.Beliefs.{is_last}
use Rattle.krl_cache.specs.Entries.{own_entry}
use Rattle.krl_cache.specs.Maps.{part_at}
use Rattle.krl_cache.specs.MapSteps.{IsPlaced, EndsAlike, BeginsAnew}

-- what the holdings make of the part at a point, and of the entry there
abbrev pub parts_after : List Holding → ℕ → RangePart → RangePart
parts_after [] p r = r
parts_after (h ∷ hs) p r = parts_after hs p (if contains h.span p then range_of h.mode else r)

abbrev pub entries_after : List Holding → ℕ → Option Entry → Option Entry
entries_after [] p o = o
entries_after (h ∷ hs) p o =
    entries_after hs p
    (if contains h.span p then (if is_last h.span p then own_entry h else None) else o)

-- the point is the last of one of their spans
abbrev pub is_slot_of : List Holding → ℕ → Bool
is_slot_of [] p = false
is_slot_of (h ∷ hs) p = is_last h.span p || is_slot_of hs p

-- the point is an end of one of their spans
abbrev pub is_end_of : List Holding → ℕ → Bool
is_end_of [] q = false
is_end_of (h ∷ hs) q = (nat_eq q h.span.lo || nat_eq q h.span.hi) || is_end_of hs q

-- except at the ends of the spans, neighbours with the same part are one
abbrev pub AreMergedBetween : List Holding → (ℕ → Option RangePart) → Type 0
AreMergedBetween hs f = (q : ℕ) → is_end_of hs q ≡ false → BeginsAnew f q

-- to take out both points, if they are fresh, leads back
abbrev pub CanUndoBoth :
    BTreeMap ℕ RangePart → BTreeMap ℕ RangePart → ℕ → ℕ → Bool → Bool → Type 0
CanUndoBoth old new lo hi low high =
    (mid : BTreeMap ℕ RangePart) × (a : RangePart) × (b : RangePart)
    × IsPlaced old mid hi a high × IsPlaced mid new lo b low

-- taking both points out of the map `given` leads back
abbrev pub UndoesBoth : BTreeMap ℕ RangePart → BTreeMap ℕ RangePart → ℕ → ℕ → Bool → Bool → Type 0
UndoesBoth given out lo hi low high =
    (first now : BTreeMap ℕ RangePart) → CanUndoBoth first now lo hi low high
    → given.entries ≡ now.entries → out.entries ≡ first.entries

-- a part begins at both ends of the span, and an entry stands where it is read
abbrev pub IsReady : Holding → (ℕ → Option RangePart) → (ℕ → Option Entry) → Type 0
IsReady h f e =
    IsSome (f h.span.lo) × IsSome (f h.span.hi)
    × (reads_key (key_of h.mode) ≡ true → IsSome (e (h.span.hi - 1)))

abbrev pub AreReady : List Holding → (ℕ → Option RangePart) → (ℕ → Option Entry) → Type 0
AreReady [] f e = Unit {0}
AreReady (h ∷ hs) f e = IsReady h f e × AreReady hs f e

-- room was made for the holdings, and no answer changed
pub record HasRoom
    (hs : List Holding) (f g : ℕ → Option RangePart) (d e : ℕ → Option Entry) : Type 0 where
  pub ready : AreReady hs g e
  pub starts : (q : ℕ) → (g q ≡ f q) ⊎ (g q ≡ Some (part_at f q))
  pub entries : (q : ℕ) → is_slot_of hs q ≡ false → e q ≡ d q
  pub stay : (q : ℕ) → IsSome (d q) → IsSome (e q)
  pub ends : EndsAlike f g
  pub others : (q : ℕ) → is_end_of hs q ≡ false → g q ≡ f q
