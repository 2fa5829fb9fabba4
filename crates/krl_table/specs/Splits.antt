-- Rows, by what is kept of a slot: as code and proofs take them apart.
use Rattle.std.specs.Prelude.{Option}
use Rattle.krl_messages.specs.Members.{map_or}
use Rattle.krl_table.specs.declared.row.SlotRow.{SlotRow}
use Rattle.krl_table.specs.Rows.{Row, blank_row}
use Rattle.krl_table.specs.Kept.{row_of}

-- what a kept row means, or that there is none
abbrev pub row_there : Option SlotRow → Row
row_there o = map_or o blank_row row_of
