-- All entries of a map, as runs that lie side by side.
use Rattle.std.specs.Prelude.{ℕ, List, []}
use Rattle.std.specs.Option.{option_map, unwrap_or}
use Rattle.krl_blocks.specs.declared.entries.Entries.{Entries}

-- the runs, in key order
abbrev pub runs_of : {V : Type 0} → Entries V → List (List (ℕ × V))
runs_of entries = unwrap_or (option_map (λ shelf. shelf.now.blocks) entries.shelf) []
