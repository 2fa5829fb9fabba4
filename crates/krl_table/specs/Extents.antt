-- Between which slots each client holds and waits.
use Rattle.std.specs.Prelude.{◌≡◌, ◌⊎◌, ◌≤◌, ◌<◌, ℕ, List, slice_index_or, ◌&&◌, nat_le, if◌then◌else◌}
use Rattle.krl_modes.specs.declared.mode.Mode.TheVariants as mode
use Rattle.krl_modes.specs.declared.limits.TheConstants.{MAX_CLIENTS}
use Rattle.krl_table.specs.declared.extent.Extent.{Extent}
use Rattle.krl_table.specs.Rows.{Row}
use Rattle.krl_table.specs.Kept.{Kept, rows_of}
use Rattle.krl_table.specs.KeptRows.{times, cleared_row}

-- no slots
abbrev pub nowhere : Extent
nowhere = record { first = 1; last = 0 }

-- the extent of a client
abbrev pub extent_in : List Extent → ℕ → Extent
extent_in extents c = slice_index_or extents c nowhere

-- the slot lies in the extent
abbrev pub Lies : Extent → ℕ → Type 0
Lies e n = (e.first ≤ n) × (n ≤ e.last)

-- what lay in a client's extent does still
abbrev pub AreWider : List Extent → List Extent → Type 0
AreWider old new = (c n : ℕ) → Lies (extent_in old c) n → Lies (extent_in new c) n

-- in this row the client holds nothing, and does not wait
abbrev pub IsFreeOf : Row → ℕ → Type 0
IsFreeOf row c = (row.modes c ≡ mode.N) × (times c row.queue ≡ 0)

-- each client holds and waits only in its extent
abbrev pub AreWithin : List Extent → Kept → Type 0
AreWithin extents t = (n c : ℕ) → c < MAX_CLIENTS → Lies (extent_in extents c) n ⊎ IsFreeOf (rows_of t n) c

-- the row of slot n, which is cleared of the client if the slot lies in the extent
abbrev pub cleared_within : Extent → ℕ → ℕ → Row → Row
cleared_within e c n row = if nat_le e.first n && nat_le n e.last then cleared_row c row else row
