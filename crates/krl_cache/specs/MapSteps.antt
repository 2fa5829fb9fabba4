-- What calls make of the two ordered maps, and what holds of them.
use Rattle.std.specs.Prelude.{◌≡◌, ◌≢◌, ℕ, suc, ◌-◌, ◌≤◌, ◌<◌, true, false, List, [], ◌∷◌, Option, Some, None, IsSome, Bool, if◌then◌else◌, nat_eq}
use Rattle.std.specs.Option.{option_and_then}
use Rattle.std.specs.Bool.{MatchBool}
use Rattle.std.specs.Ordering.{nat_cmp}
use Rattle.std.specs.BTreeMap.{BTreeMap, IsOrdered}
use Rattle.krl_modes.specs.declared.point.TheConstants.{TOP}
use Rattle.krl_modes.specs.declared.part.RangePart.{RangePart}
use Rattle.krl_modes.specs.declared.part.RangePart.TheVariants as range
use Rattle.krl_modes.specs.Parts.{range_meet, reads_key}
use Rattle.krl_messages.specs.Values.{Value}
use Rattle.krl_messages.specs.declared.range_pieces.RangePiece.{RangePiece}
use Rattle.krl_cache.specs.declared.entry.Entry.{Entry}
use Rattle.krl_cache.specs.Entries.{tagged, lies_in}
use Rattle.krl_cache.specs.Maps.{at, part_at, Maps}

-- no part begins past TOP, and from there on it is N
pub record IsPast (f : ℕ → Option RangePart) : Type 0 where
  pub starts : (q : ℕ) → TOP < q → f q ≡ None
  pub part : part_at f TOP ≡ range.N

-- the part holds at the point before, or is N if there is none
pub record HoldsBefore (f : ℕ → Option RangePart) (p : ℕ) (part : RangePart) : Type 0 where
  pub first : p ≡ 0 → part ≡ range.N
  pub later : 0 < p → part_at f (p - 1) ≡ part

-- what begins at the point, if anything does, is another part than held before
abbrev pub BeginsAnew : (ℕ → Option RangePart) → ℕ → Type 0
BeginsAnew f q = (v : RangePart) → f q ≡ Some v → HoldsBefore f q v → ⊥

-- neighbours with the same part are one
abbrev pub AreStartsMerged : (ℕ → Option RangePart) → Type 0
AreStartsMerged f = (q : ℕ) → BeginsAnew f q

-- each entry is read, and none stands past END; neighbours with the same part are one
pub record AreMapsKept (x : Maps) : Type 0 where
  pub past : IsPast (at x.starts)
  pub merged : AreStartsMerged (at x.starts)
  pub entries : (q : ℕ) (e : Entry) → at x.entries q ≡ Some e → (q < TOP)
      × (reads_key e.part ≡ true)

-- nothing stands from lo on below hi
abbrev pub IsFree : {V : Type 0} → (ℕ → Option V) → ℕ → ℕ → Type 0
IsFree f lo hi = (q : ℕ) → lo ≤ q → q < hi → f q ≡ None

-- nothing stands from lo on
abbrev pub IsFreeFrom : {V : Type 0} → (ℕ → Option V) → ℕ → Type 0
IsFreeFrom f lo = (q : ℕ) → lo ≤ q → f q ≡ None

-- the first pair from lo on below hi
pub record IsFirst {V : Type 0} (f : ℕ → Option V) (lo hi : ℕ) (e : ℕ × V) : Type 0 where
  pub from : lo ≤ e.0
  pub below : e.0 < hi
  pub here : f e.0 ≡ Some e.1
  pub free : IsFree f lo e.0

-- the key was put into the map if it was fresh, and otherwise stood in it already
abbrev pub IsPlaced : {V : Type 0} → BTreeMap ℕ V → BTreeMap ℕ V → ℕ → V → Bool → Type 0
IsPlaced old new key value fresh =
    MatchBool fresh ((at old.entries key ≡ None) × IsOrdered nat_cmp old
    × ((q : ℕ) → at new.entries q ≡ (if nat_eq q key then Some value else at old.entries q)))
    (IsSome (at old.entries key) × (new.entries ≡ old.entries))

-- to take the key out if it is fresh leads back
abbrev pub CanUndo : {V : Type 0} → BTreeMap ℕ V → BTreeMap ℕ V → ℕ → Bool → Type 0
CanUndo old new key fresh =
    MatchBool fresh ((at old.entries key ≡ None) × IsOrdered nat_cmp old
    × ((q : ℕ) → q ≢ key → at new.entries q ≡ at old.entries q)) (new.entries ≡ old.entries)

-- the key is out of the map again if it was fresh
abbrev pub IsUndone : {V : Type 0} → BTreeMap ℕ V → BTreeMap ℕ V → ℕ → Bool → Type 0
IsUndone old new key fresh =
    MatchBool fresh (IsOrdered nat_cmp new
    × ((q : ℕ) → at new.entries q ≡ (if nat_eq q key then None else at old.entries q)))
    (new.entries ≡ old.entries)

-- both keys begin what held there before, and nothing else changed
pub record HasEnds (f g : ℕ → Option RangePart) (lo hi : ℕ) : Type 0 where
  pub low : g lo ≡ Some (part_at f lo)
  pub high : g hi ≡ Some (part_at f hi)
  pub others : (q : ℕ) → q ≢ lo → q ≢ hi → g q ≡ f q

-- the same part holds at each point, and only what began begins
pub record KeepsParts (f g : ℕ → Option RangePart) : Type 0 where
  pub parts : (q : ℕ) → part_at g q ≡ part_at f q
  pub starts : (q : ℕ) → f q ≡ None → g q ≡ None
  pub stay : (q : ℕ) (v : RangePart) → g q ≡ Some v → f q ≡ Some v

-- past TOP none begins where none began
abbrev pub EndsAlike : (ℕ → Option RangePart) → (ℕ → Option RangePart) → Type 0
EndsAlike f g = (q : ℕ) → TOP < q → f q ≡ None → g q ≡ None

-- from lo on below hi each value became what F makes of it, if anything, and nothing else changed
pub record IsChanged {V : Type 0} (F : V → Option V) (f g : ℕ → Option V) (lo hi : ℕ) : Type 0 where
  pub each : (q : ℕ) → g q ≡ (if lies_in lo hi q then option_and_then F (f q) else f q)

-- no value
abbrev pub gone : {V : Type 0} → V → Option V
gone v = None

abbrev pub lowered_part : RangePart → RangePart → Option RangePart
lowered_part keep r = Some (range_meet r keep)

-- the pairs from lo on below hi, in order
abbrev pub AreNext : {V : Type 0} → (ℕ → Option V) → ℕ → ℕ → List (ℕ × V) → Type 0
AreNext f lo hi [] = IsFree f lo hi
AreNext f lo hi (e ∷ es) = IsFirst f lo hi e × AreNext f (suc e.0) hi es

-- the row of an entry, if it has a value
abbrev pub row_of : ℕ × Entry → Option (ℕ × Value)
row_of e = tagged e.0 e.1.value

-- the part is more than N
abbrev pub is_held : RangePart → Bool
is_held range.N = false
is_held range.S = true
is_held range.I = true
is_held range.X = true

-- the piece of a part, if it is held
abbrev pub piece_of : ℕ → ℕ → RangePart → List RangePiece
piece_of lo hi part = if is_held part
    then record { span = record { lo = lo; hi = hi }; part = part } ∷ [] else []
