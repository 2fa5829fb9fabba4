-- Entries and pieces in order, and what becomes of them in a window.
use Rattle.std.specs.Prelude.{◌≡◌, ℕ, suc, ◌≤◌, ◌<◌, ◌&&◌, Bool, true, nat_le, nat_lt, List, [], ◌∷◌, Option, Some, None, if◌then◌else◌}
use Rattle.krl_modes.specs.declared.part.KeyPart.{KeyPart}
use Rattle.krl_modes.specs.Parts.{key_meet, reads_key}
use Rattle.krl_modes.specs.Modes.{key_of}
use Rattle.krl_messages.specs.Values.{Value}
use Rattle.krl_messages.specs.declared.holding.Holding.{Holding}
use Rattle.krl_messages.specs.declared.range_pieces.RangePiece.{RangePiece}
use Rattle.krl_messages.specs.declared.key_pieces.KeyPiece.{KeyPiece}
use Rattle.krl_cache.specs.declared.entry.Entry.{Entry}

-- an entry that is read; none otherwise
abbrev pub entry_of : KeyPart → Option Value → Option Entry
entry_of part value = if reads_key part then Some (record { part = part; value = value }) else None

-- what is left of an entry that is lowered
abbrev pub entry_lowered : KeyPart → Entry → Option Entry
entry_lowered keep e = entry_of (key_meet e.part keep) e.value

-- the entry that a holding brings
abbrev pub own_entry : Holding → Option Entry
own_entry h = entry_of (key_of h.mode) h.value

abbrev pub lies_in : ℕ → ℕ → ℕ → Bool
lies_in lo hi p = nat_le lo p && nat_lt p hi

abbrev pub tagged : {A : Type 0} → ℕ → Option A → Option (ℕ × A)
tagged k None = None
tagged k (Some a) = Some (k, a)

-- what becomes of a pair whose key lies from lo on below hi
abbrev pub pick : {A B : Type 0} → ℕ → ℕ → (A → Option B) → ℕ × A → Option (ℕ × B)
pick lo hi f e = if lies_in lo hi e.0 then tagged e.0 (f e.1) else None

-- the value of an entry
abbrev pub row_value : Entry → Option Value
row_value e = e.value

abbrev pub key_piece : ℕ × Entry → KeyPiece
key_piece e = record { point = e.0; part = e.1.part }

-- spans in order from lo on, none empty, none past hi
abbrev pub StandWithin : ℕ → ℕ → List RangePiece → Type 0
StandWithin lo hi [] = lo ≤ hi
StandWithin lo hi (x ∷ xs) = (lo ≤ x.span.lo) × (x.span.lo < x.span.hi)
    × StandWithin x.span.hi hi xs

-- keys that strictly rise, from lo on below hi
abbrev pub RiseWithin : {A : Type 0} → ℕ → ℕ → List (ℕ × A) → Type 0
RiseWithin lo hi [] = lo ≤ hi
RiseWithin lo hi (e ∷ es) = (lo ≤ e.0) × RiseWithin (suc e.0) hi es

abbrev pub AreRead : List (ℕ × Entry) → Type 0
AreRead [] = Unit {0}
AreRead (e ∷ es) = (reads_key e.1.part ≡ true) × AreRead es
