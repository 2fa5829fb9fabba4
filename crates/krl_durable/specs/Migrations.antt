-- What survived when values were numbers, and what becomes of it.
use Rattle.std.specs.Prelude.{◌≡◌, ℕ, List, slice_get, Some, map as each_of}
use Rattle.std.specs.Int.{w64, to_be_bytes}
use Rattle.std.specs.Ordering.{nat_cmp}
use Rattle.std.specs.FinMap as map
use Rattle.krl_modes.specs.declared.limits.TheConstants.{STANDARD_REACH, STANDARD_ROOM}
use Rattle.krl_messages.specs.Values.{Value}
use Rattle.krl_durable.specs.declared.not_migrated.NotMigrated.{NotMigrated}
use Rattle.krl_durable.specs.declared.not_migrated.NotMigrated.TheVariants as not_migrated
use Rattle.krl_durable.specs.Registers.{Register, Durable, not_left}

-- what survived: each value a number
pub record DurableV1 : Type 0 where
  pub index : map.FinMap nat_cmp ℕ
  pub epoch : ℕ
  pub register : Register

-- the same keys, each value its eight bytes
abbrev pub migrated_entries : List (ℕ × ℕ) → List (ℕ × Value)
migrated_entries es = each_of (λ e. (e.0, to_be_bytes w64 e.1)) es

-- the same keys, epoch, register and records, each value its eight bytes, and the limits if none are named
abbrev pub migrated : DurableV1 → Durable
migrated d = record {
  room = STANDARD_ROOM;
  reach = STANDARD_REACH;
  index = map.from_entries (migrated_entries (map.entries d.index));
  epoch = d.epoch;
  register = d.register;
}

-- why it stays as it is: a client is registered and has not left, and this is the first one; or memory was not there
abbrev pub CannotMigrate : DurableV1 → NotMigrated → Type 0
CannotMigrate d not_migrated.OutOfMemory = Unit {0}
CannotMigrate d (not_migrated.StillRegistered c) = slice_get (not_left d.register) 0 ≡ Some c
