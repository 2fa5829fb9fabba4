-- Values that are numbers.
use Rattle.std.specs.Prelude.{ℕ, length, nat_eq, Option, Some, None, if◌then◌else◌}
use Rattle.std.specs.Int.{w64, from_be_bytes}
use Rattle.krl_messages.specs.Values.{Value}

-- the number whose eight bytes these are, the highest first
abbrev pub number_of : Value → Option ℕ
number_of bytes = if nat_eq (length bytes) 8 then Some (from_be_bytes w64 bytes) else None
