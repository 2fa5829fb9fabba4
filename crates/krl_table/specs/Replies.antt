-- Whether a waiter can be given what it wants.
use Rattle.std.specs.Prelude.{ℕ, Bool, not, ◌&&◌, is_some}
use Rattle.std.specs.FinMap as map
use Rattle.krl_modes.specs.Modes.{needs_entry}
use Rattle.krl_queue.specs.declared.waiter.Waiter.{Waiter}
use Rattle.krl_durable.specs.Index.{Index}
use Rattle.krl_table.specs.Rows.{Rows, is_compatible_there}
use Rattle.krl_table.specs.Calls.{wanted}

-- the waiter asks for an entry, and there is none
abbrev pub asks_absent : Index → Waiter → Bool
asks_absent m u = needs_entry u.mode && not (is_some (map.get m u.point))

-- what it wants is compatible with what all others hold on the slot
abbrev pub is_wanted_compatible : Rows → ℕ → Waiter → Bool
is_wanted_compatible rows n u = is_compatible_there rows n u.client (wanted (rows n) u)
