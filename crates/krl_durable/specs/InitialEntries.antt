-- The entries with which an index may begin, and why others are refused.
use Rattle.std.specs.Prelude.{◌≡◌, ℕ, ◌<◌, ◌≤◌, Bool, true, false, List, length, take, slice_index_or}
use Rattle.std.specs.Map.{keys_of}
use Rattle.krl_modes.specs.declared.point.TheConstants.{END}
use Rattle.krl_durable.specs.declared.refused.EntriesRefused.{EntriesRefused}
use Rattle.krl_durable.specs.declared.refused.EntriesRefused.TheVariants as entries_refused
use Rattle.krl_durable.specs.Index.{has_key}

-- the key of an entry, by its place
abbrev pub key_of_entry : {V : Type 0} → List (ℕ × V) → ℕ → ℕ
key_of_entry es i = slice_index_or (keys_of es) i 0

-- the entry's key stands in an earlier entry
abbrev pub stands_before : {V : Type 0} → List (ℕ × V) → ℕ → Bool
stands_before es i = has_key (take i es) (key_of_entry es i)

-- the entry's key is below END, and stands in no earlier entry
abbrev pub IsGood : {V : Type 0} → List (ℕ × V) → ℕ → Type 0
IsGood es i = (key_of_entry es i < END) × (stands_before es i ≡ false)

-- each entry before this place is good
abbrev pub AreGood : {V : Type 0} → List (ℕ × V) → ℕ → Type 0
AreGood es n = (i : ℕ) → i < n → IsGood es i

-- Why these entries may be refused in an index with room for so many: there are more; or the first entry that is not
-- good has a key of END or more, or one that stands before; or memory was not there, whatever the entries.
abbrev pub Refuses : {V : Type 0} → ℕ → List (ℕ × V) → EntriesRefused → Type 0
Refuses room es entries_refused.OutOfMemory = Unit {0}
Refuses room es entries_refused.Full = room < length es
Refuses room es entries_refused.BadKey =
    (length es ≤ room) × (i : ℕ) × (i < length es) × AreGood es i × (END ≤ key_of_entry es i)
Refuses room es entries_refused.Twice =
    (length es ≤ room) × (i : ℕ) × (i < length es) × AreGood es i × (key_of_entry es i < END)
    × (stands_before es i ≡ true)
