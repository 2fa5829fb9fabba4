-- What the types of the index, the register and a record keep.
use Rattle.std.specs.Prelude.{◌≡◌, ℕ, ◌≤◌, true, not, nat_eq, nat_lt, List, length, is_some, Option, Some, None, if◌then◌else◌}
use Rattle.std.specs.Ordering.{nat_cmp}
use Rattle.std.specs.FinMap.Entries.{is_sorted}
use Rattle.krl_modes.specs.declared.point.TheConstants.{END}
use Rattle.krl_modes.specs.declared.limits.TheConstants.{MAX_CLIENTS, STANDARD_ROOM}
use Rattle.krl_messages.specs.Values.{Value}
use Rattle.krl_durable.specs.declared.record.Record.{Record}
use Rattle.krl_durable.specs.Registers.{IsIncarnation}
use Rattle.krl_durable.specs.Index.{Index}
use Rattle.krl_durable.specs.Kept.{AreBelowEnd}

-- the entries, and for how many there is room
pub record Roomed : Type 0 where
  pub index : Index
  pub room : ℕ

-- entries in key order, no more than so many, with keys below END
pub record AreOrdered {V : Type 0} (room : ℕ) (es : List (ℕ × V)) : Type 0 where
  pub sorted : is_sorted nat_cmp es ≡ true
  pub below : AreBelowEnd es
  pub few : length es ≤ room

-- and with memory for as many as there may be
pub record IsEntries (es : List (ℕ × Value)) (room capacity : ℕ) : Type 0 where
  pub sorted : is_sorted nat_cmp es ≡ true
  pub below : AreBelowEnd es
  pub few : length es ≤ room
  pub fits : room ≤ capacity

-- there is an outcome if and only if a write was judged
abbrev pub HasOutcome : Record → Type 0
HasOutcome r = is_some r.outcome ≡ not (nat_eq r.last 0)

-- it has an outcome if it should, its last number is one, and so is its incarnation
abbrev pub IsRecord : Record → Type 0
IsRecord r = HasOutcome r × (r.last ≤ END) × IsIncarnation r.incarnation

-- a client's number, and its record
abbrev pub IsRow : ℕ × Record → Type 0
IsRow e = (nat_lt e.0 MAX_CLIENTS ≡ true) × IsRecord e.1

-- the client of a row, if it has not left
abbrev pub missing_of : ℕ × Record → Option ℕ
missing_of e = if e.1.left then None else Some e.0

-- what survived when values were numbers: such entries, and an epoch of at most END
pub record IsKeptV1 (es : List (ℕ × ℕ)) (epoch : ℕ) : Type 0 where
  pub ordered : AreOrdered STANDARD_ROOM es
  pub most : epoch ≤ END
