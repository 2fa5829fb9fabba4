-- Records that a server may start with.
use Rattle.std.specs.Prelude.{◌≡◌, ℕ, List, Bool, true, ◌&&◌, ◌||◌, not, nat_eq, nat_le, nat_lt, take, map}
use Rattle.std.specs.Prelude.{slice_get, Option, Some, None, ◌==◌, if◌then◌else◌}
use Rattle.std.specs.List.{AllByRecursion, IsDistinct, list_any}
use Rattle.std.specs.Map.{keys_of}
use Rattle.krl_modes.specs.declared.point.TheConstants.{END}
use Rattle.krl_modes.specs.declared.limits.TheConstants.{MAX_CLIENTS}
use Rattle.krl_durable.specs.declared.record.Record.{Record}
use Rattle.krl_durable.specs.Invariants.{IsRow}
use Rattle.krl_messages.specs.declared.outcome.Outcome.{Outcome}
use Rattle.krl_messages.specs.declared.outcome.Outcome.TheVariants as outcome
use Rattle.krl_embed.specs.declared.code.Code.{Code}
use Rattle.krl_embed.specs.declared.code.Code.TheVariants as code
use Rattle.krl_embed.specs.declared.records.RecordRow.{RecordRow}

abbrev pub AreRows : List (ℕ × Record) → Type 0
AreRows rows = AllByRecursion IsRow rows × IsDistinct nat_eq (keys_of rows)

-- the outcome of a number, from 1 on
abbrev pub outcome_of : ℕ → Option Outcome
outcome_of n =
    if n == 1 then Some outcome.Applied
    else (if n == 2 then Some outcome.Exists
    else (if n == 3 then Some outcome.Absent
    else (if n == 4 then Some outcome.NotHeld
    else (if n == 5 then Some outcome.Full else None))))

-- the client of a row, and its record
abbrev pub record_of : RecordRow → ℕ × Record
record_of r = (
  r.client,
  record {
    incarnation = r.incarnation;
    left = r.left == 1;
    last = r.last;
    outcome = outcome_of r.outcome;
  },
)

-- there is an outcome exactly if a write was judged
abbrev pub has_outcome : RecordRow → Bool
has_outcome r = if r.last == 0 then r.outcome == 0 else (nat_le 1 r.outcome && nat_le r.outcome 5)

-- the row is one of a record that a client can have
abbrev pub is_record : RecordRow → Bool
is_record r =
    nat_lt r.client MAX_CLIENTS && (nat_le 1 r.incarnation && (nat_le r.incarnation END
    && (nat_le r.last END && (nat_le r.left 1 && has_outcome r))))

-- it is none, or its client has one among these
abbrev pub is_bad_behind : List (ℕ × Record) → RecordRow → Bool
is_bad_behind rows r = not (is_record r) || list_any (λ row. nat_eq r.client row.0) rows

-- why a row does not go after these
abbrev pub RefusesRow : List (ℕ × Record) → RecordRow → Code → Type 0
RefusesRow rows r code.BadRecord = is_bad_behind rows r ≡ true
RefusesRow rows r code.OutOfMemory = Unit {0}
RefusesRow rows r _ = ⊥

-- the row at this place is the first that is bad after those before it
pub record IsFirstBad (rows : List RecordRow) (i : ℕ) : Type 0 where
  pub before : AreRows (map record_of (take i rows))
  pub row : RecordRow
  pub here : slice_get rows i ≡ Some row
  pub bad : is_bad_behind (map record_of (take i rows)) row ≡ true
