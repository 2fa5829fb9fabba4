-- What a writer has to hold.
use Rattle.std.specs.Prelude.{◌≡◌, ◌&&◌, true, ℕ}
use Rattle.krl_modes.specs.Modes.{range_of, key_of}
use Rattle.krl_modes.specs.Parts.{lets_insert, is_range_X, is_key_X}
use Rattle.krl_table.specs.Rows.{Rows, mode_at}

-- the writer may insert into the slot: it has range part I or X there
abbrev pub MayInsert : Rows → ℕ → ℕ → Type 0
MayInsert rows n c = lets_insert (range_of (mode_at rows n c)) ≡ true

-- the writer has RangeX-X on the slot k, and range part X on the next slot n
abbrev pub MayDelete : Rows → ℕ → ℕ → ℕ → Type 0
MayDelete rows k n c =
    (is_key_X (key_of (mode_at rows k c)) && is_range_X (range_of (mode_at rows k c))
    && is_range_X (range_of (mode_at rows n c))) ≡ true
