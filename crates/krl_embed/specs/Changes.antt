-- A change of what survives, as C sees it.
use Rattle.std.specs.Prelude.{ℕ, Option, Some, None, []}
use Rattle.krl_messages.specs.declared.outcome.Outcome.{Outcome}
use Rattle.krl_messages.specs.declared.outcome.Outcome.TheVariants as outcome
use Rattle.krl_messages.specs.declared.write_op.WriteOp.{WriteOp}
use Rattle.krl_messages.specs.declared.write_op.WriteOp.TheVariants as write
use Rattle.krl_durable.specs.declared.change.Change.{Change}
use Rattle.krl_durable.specs.declared.change.Change.TheVariants as change
use Rattle.krl_embed.specs.declared.rows.Row.{Row}
use Rattle.krl_embed.specs.declared.changes.ChangeRow.{ChangeRow}
use Rattle.krl_embed.specs.Rows.{row_of}

abbrev pub outcome_number : Outcome → ℕ
outcome_number outcome.Applied = 1
outcome_number outcome.Exists = 2
outcome_number outcome.Absent = 3
outcome_number outcome.NotHeld = 4
outcome_number outcome.Full = 5

-- 0 if there is none
abbrev pub optional_outcome_number : Option Outcome → ℕ
optional_outcome_number None = 0
optional_outcome_number (Some o) = outcome_number o

abbrev pub write_number : WriteOp → ℕ
write_number (write.Insert k v) = 0
write_number (write.Put k v) = 1
write_number (write.Delete k) = 2

-- the key, and the value of an insert or a put
abbrev pub write_row : WriteOp → Row
write_row (write.Insert k v) = row_of (k, v)
write_row (write.Put k v) = row_of (k, v)
write_row (write.Delete k) = row_of (k, [])

abbrev pub unchanged : ChangeRow
unchanged = record { kind = 0; outcome = 0; client = 0; number = 0; write = 0; row = row_of (0, []) }

-- the row of a change
abbrev pub change_row : Option Change → ChangeRow
change_row None = unchanged
change_row (Some (change.Registered c incarnation)) =
    record unchanged { kind = 1; client = c; number = incarnation }
change_row (Some (change.Left c)) = record unchanged { kind = 2; client = c }
change_row (Some (change.Judged c number op o)) = record {
  kind = 3;
  outcome = outcome_number o;
  client = c;
  number = number;
  write = write_number op;
  row = write_row op;
}
