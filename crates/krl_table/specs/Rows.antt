-- The rows of the table: on each slot a mode for each client, and the waiters.
use Rattle.std.specs.Prelude.{ℕ, zero, suc, Bool, true, ◌&&◌, ◌||◌, nat_eq, List, [], is_some, if◌then◌else◌}
use Rattle.std.specs.List.{list_any}
use Rattle.krl_modes.specs.declared.mode.Mode.{Mode}
use Rattle.krl_modes.specs.declared.mode.Mode.TheVariants as mode
use Rattle.krl_modes.specs.Modes.{compatible}
use Rattle.krl_modes.specs.Constants.{max_clients}
use Rattle.krl_queue.specs.declared.waiter.Waiter.{Waiter}
use Rattle.krl_queue.specs.Waiting.{first_of}
use Rattle.krl_durable.specs.Index.{Index, slots}

-- what stands on a slot
pub record Row : Type 0 where
  pub modes : ℕ → Mode  -- by client
  pub queue : List Waiter  -- the first is answered first

-- by slot; a table has a blank row wherever there is no slot
abbrev pub Rows : Type 0
Rows = ℕ → Row

-- nobody holds anything, and nobody waits
abbrev pub blank_row : Row
blank_row = record { modes = λ c. mode.N; queue = [] }

-- the mode of a client on a slot
abbrev pub mode_at : Rows → ℕ → ℕ → Mode
mode_at rows n c = (rows n).modes c

-- the modes of one client, by slot
abbrev pub column : Rows → ℕ → ℕ → Mode
column rows c n = (rows n).modes c

-- the rows with another one on this slot
abbrev pub set_row : Rows → ℕ → Row → Rows
set_row rows n row k = if nat_eq k n then row else rows k

-- the modes with another one for this client
abbrev pub set_mode : (ℕ → Mode) → ℕ → Mode → ℕ → Mode
set_mode modes c g d = if nat_eq d c then g else modes d

-- before anyone holds anything
abbrev pub blank_rows : Rows
blank_rows n = blank_row

-- the client waits on one of the slots
abbrev pub waits : Index → Rows → ℕ → Bool
waits m rows c = list_any (λ n. is_some (first_of c (rows n).queue)) (slots m)

-- f is true of each number below n
abbrev pub all_below : ℕ → (ℕ → Bool) → Bool
all_below zero f = true
all_below (suc n) f = f n && all_below n f

-- the mode is compatible with what all others hold in this row
abbrev pub is_compatible_in_row : Row → ℕ → Mode → Bool
is_compatible_in_row row c g = all_below max_clients (λ d. nat_eq d c || compatible g (row.modes d))

-- the mode is compatible with what all others hold on the slot
abbrev pub is_compatible_there : Rows → ℕ → ℕ → Mode → Bool
is_compatible_there rows n c g = is_compatible_in_row (rows n) c g
