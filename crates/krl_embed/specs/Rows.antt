-- Entries as C sees them.
use Rattle.std.specs.Prelude.{◌≡◌, ◌<◌, ℕ, ◌≤◌, List, ◌++◌, length, take, drop, map, Option, Some, slice_get}
use Rattle.std.specs.List.{AllByRecursion}
use Rattle.krl_modes.specs.declared.limits.TheConstants.{MAX_VALUE_BYTES}
use Rattle.krl_messages.specs.Values.{Value}
use Rattle.krl_messages.specs.Padded.{padded}
use Rattle.krl_embed.specs.declared.rows.Row.{Row}
use Rattle.krl_embed.specs.declared.reply.Reply.{Reply}
use Rattle.krl_embed.specs.declared.code.Code.{Code}
use Rattle.krl_embed.specs.declared.code.Code.TheVariants as code
use Rattle.krl_embed.specs.Replies.{code_of}

-- the row of an entry: zeros follow the value's bytes
abbrev pub row_of : ℕ × Value → Row
row_of e = record { key = e.0; length = length e.1; bytes = padded e.1 }

-- the entry of a row
abbrev pub entry_of : Row → ℕ × Value
entry_of r = (r.key, take r.length r.bytes)

-- the most bytes of a value
abbrev pub max_value_bytes : ℕ
max_value_bytes = MAX_VALUE_BYTES

abbrev pub HasValue : Row → Type 0
HasValue r = r.length ≤ max_value_bytes

-- the value of the row at this place is too long, and the one of each row before is not
pub record IsTooLong (rows : List Row) (i : ℕ) : Type 0 where
  pub before : AllByRecursion HasValue (take i rows)
  pub row : Row
  pub here : slice_get rows i ≡ Some row
  pub long : max_value_bytes < row.length

-- the first value that is too long, or want of memory
abbrev pub RefusesRowsAs : List Row → ℕ → Option Code → Type 0
RefusesRowsAs rows i (Some code.BadValue) = IsTooLong rows i
RefusesRowsAs rows i (Some code.OutOfMemory) = i ≡ 0
RefusesRowsAs rows i _ = ⊥

abbrev pub RefusesRows : List Row → Reply → Type 0
RefusesRows rows r = RefusesRowsAs rows r.detail (code_of r)

-- Done: the entries are in front of the room's old rows; TooShort: the room is too short, and nothing changes.
-- The detail is how many entries there are.
abbrev pub CopiesAs : List (ℕ × Value) → List Row → List Row → Option Code → Type 0
CopiesAs found was now (Some code.Done) = now ≡ map row_of found ++ drop (length found) was
CopiesAs found was now (Some code.TooShort) = (length was < length found) × (now ≡ was)
CopiesAs found was now _ = ⊥

abbrev pub Copies : List (ℕ × Value) → List Row → List Row → Reply → Type 0
Copies found was now r = (r.detail ≡ length found) × CopiesAs found was now (code_of r)
