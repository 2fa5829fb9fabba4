-- The rows as they are kept, and what they mean.
use Rattle.std.specs.Prelude.{ℕ, List, Option, Some, None, slice_index_or}
use Rattle.std.specs.Ordering.{nat_cmp}
use Rattle.std.specs.FinMap as map
use Rattle.krl_modes.specs.declared.mode.Mode.{Mode}
use Rattle.krl_modes.specs.declared.mode.Mode.TheVariants as mode
use Rattle.krl_messages.specs.Members.{map_or}
use Rattle.krl_table.specs.declared.row.SlotRow.{SlotRow}
use Rattle.krl_table.specs.Rows.{Row, Rows, blank_row}

-- the kept rows, by slot: a slot without one is blank
abbrev pub Kept : Type 0
Kept = map.FinMap nat_cmp SlotRow

-- the mode of a client, in a row of modes
abbrev pub mode_of : List Mode → ℕ → Mode
mode_of modes c = slice_index_or modes c mode.N

-- what a kept row means
abbrev pub row_of : SlotRow → Row
row_of r = record { modes = mode_of r.modes; queue = r.queue }

-- what the kept rows mean
abbrev pub rows_of : Kept → Rows
rows_of t n = map_or (map.get t n) blank_row row_of
