-- What calls make of the kept rows, and what holds of them.
use Rattle.std.specs.Prelude.{◌≡◌, ◌≢◌, ◌⊎◌, ◌+◌, Bool, true, ◌&&◌, nat_le, nat_lt, nat_eq, if◌then◌else◌, ℕ, suc, ◌≤◌, ◌<◌, List, Some, None, length, IsSome, count_by, not}
use Rattle.std.specs.FinMap as map
use Rattle.krl_modes.specs.declared.point.TheConstants.{END}
use Rattle.krl_modes.specs.declared.mode.Mode.{Mode}
use Rattle.krl_modes.specs.declared.mode.Mode.TheVariants as mode
use Rattle.krl_modes.specs.Modes.{compatible, meet, needs_entry}
use Rattle.krl_modes.specs.declared.limits.TheConstants.{MAX_CLIENTS}
use Rattle.krl_messages.specs.Members.{In}
use Rattle.krl_queue.specs.declared.waiter.Waiter.{Waiter}
use Rattle.krl_queue.specs.Turns.{without_first}
use Rattle.krl_blocks.specs.ReservedMaps.{MapWithRoom}
use Rattle.krl_durable.specs.Index.{Index, slot_of, is_slot}
use Rattle.krl_table.specs.declared.row.SlotRow.{SlotRow}
use Rattle.krl_table.specs.Rows.{Row, blank_row, mode_at, set_mode, is_compatible_in_row}
use Rattle.krl_table.specs.Calls.{with_mode, wanted}
use Rattle.krl_table.specs.Replies.{is_wanted_compatible}
use Rattle.krl_table.specs.Grants.{goes_on, nobody_waits}
use Rattle.krl_table.specs.Kept.{Kept, row_of, rows_of}

-- a table: the kept rows, and how many there may be
abbrev pub KeptTable : Type 0
KeptTable = MapWithRoom SlotRow

-- no key lies at END or above; each kept row stands at a slot of the index, and each waiter in the queue of the slot of
-- its point
pub record IsOver (m : Index) (t : Kept) : Type 0 where
  pub near : (n : ℕ) → END ≤ n → map.get m n ≡ None
  pub within : (n : ℕ) → IsSome (map.get t n) → is_slot m n ≡ true
  pub points : (n : ℕ) (u : Waiter) → In u (rows_of t n).queue → u.point ≤ END
  pub placed : (n : ℕ) (u : Waiter) → In u (rows_of t n).queue → slot_of m u.point ≡ n

-- the slot has a row now, and any other as before, and it has none kept if it is blank
pub record IsSet (t u : Kept) (k : ℕ) (row : Row) : Type 0 where
  pub here : rows_of u k ≡ row
  pub others : (n : ℕ) → n ≢ k → map.get u n ≡ map.get t n
  pub used : (r : SlotRow) → map.get u k ≡ Some r → row_of r ≢ blank_row

-- two slots have these rows now, and any other as before, and none is kept if it is blank
pub record AreSet (t u : Kept) (i : ℕ) (a : Row) (j : ℕ) (b : Row) : Type 0 where
  pub first : rows_of u i ≡ a
  pub second : rows_of u j ≡ b
  pub others : (n : ℕ) → n ≢ i → n ≢ j → map.get u n ≡ map.get t n
  pub used : (n : ℕ) (r : SlotRow) → (n ≡ i) ⊎ (n ≡ j) → map.get u n ≡ Some r → row_of r ≢ blank_row

-- each row is changed by its own change; rows are kept where they were, and none that is blank
pub record IsAll (f : ℕ → Row → Row) (t u : Kept) : Type 0 where
  pub rows : (n : ℕ) → rows_of u n ≡ f n (rows_of t n)
  pub kept : (n : ℕ) → IsSome (map.get u n) → IsSome (map.get t n)
  pub used : (n : ℕ) (r : SlotRow) → map.get u n ≡ Some r → row_of r ≢ blank_row

-- the row of slot n, with the client's mode lowered if the slot is from from on below hi
abbrev pub lowered_between : ℕ → ℕ → ℕ → Mode → ℕ → Row → Row
lowered_between from hi c keep n row =
    if nat_le from n && nat_lt n hi then with_mode row c (meet (row.modes c) keep) else row

-- the row with the client's mode N, and without its first waiter
abbrev pub cleared_row : ℕ → Row → Row
cleared_row c row = record { modes = set_mode row.modes c mode.N; queue = without_first c row.queue }

-- a row can be kept there with no more memory
abbrev pub HasRoom : MapWithRoom SlotRow → ℕ → Type 0
HasRoom s n = map.get s.map n ≡ None → length (map.entries s.map) < s.room

-- slot n is open to the waiter, by the row there
abbrev pub is_row_open : ℕ → Row → Waiter → Bool
is_row_open n row u =
    nobody_waits row.queue && (is_compatible_in_row row u.client (wanted row u) && not (needs_entry u.mode
    && nat_eq n END))

-- next is the slot after this one, and it is open to the waiter
pub record IsNextReached (m : Index) (t : Kept) (at : ℕ) (u : Waiter) (next : ℕ) : Type 0 where
  pub slot : slot_of m (suc at) ≡ next
  pub is_compatible_there : is_wanted_compatible (rows_of t) next u ≡ true
  pub on : goes_on m (rows_of t) at u ≡ true

-- how often the client waits there
abbrev pub times : ℕ → List Waiter → ℕ
times c us = count_by (λ u. nat_eq c u.client) us

-- no two modes of these are in each other's way
abbrev pub AreCompatible : (ℕ → Mode) → Type 0
AreCompatible modes = (c d : ℕ) → c ≢ d → compatible (modes c) (modes d) ≡ true

-- What holds of every table: no row is kept blank, and none above END; on each slot the modes of different clients are
-- compatible; nobody but a client holds anything or waits, and each client waits once at most.
pub record IsSound (t : Kept) : Type 0 where
  pub near : (n : ℕ) → END < n → map.get t n ≡ None
  pub used : (n : ℕ) (r : SlotRow) → map.get t n ≡ Some r → row_of r ≢ blank_row
  pub strangers : (n c : ℕ) → MAX_CLIENTS ≤ c → mode_at (rows_of t) n c ≡ mode.N
  pub beside : (n : ℕ) → AreCompatible (rows_of t n).modes
  pub clients : (n : ℕ) (u : Waiter) → In u (rows_of t n).queue → u.client < MAX_CLIENTS
  pub alone : (c i j : ℕ) → i ≢ j → times c (rows_of t i).queue + times c (rows_of t j).queue ≤ 1
