-- A table as numbers and flags, which C keeps. Any numbers make one.
use Rattle.std.specs.Prelude.{ℕ, Bool, not, ◌==◌, map, Option, Some, None, if◌then◌else◌}
use Rattle.krl_leases.specs.declared.until.Until.{Until}
use Rattle.krl_lease_table.specs.declared.sign.Older.{Older}
use Rattle.krl_lease_table.specs.declared.sign.Older.TheVariants.{Unknown, IsOver, Vouched}
use Rattle.krl_lease_table.specs.declared.sign.Signer.{Signer}
use Rattle.krl_lease_table.specs.declared.sign.Asked.{Asked}
use Rattle.krl_lease_table.specs.declared.standing.Standing.{Standing}
use Rattle.krl_lease_table.specs.declared.standing.Standing.TheVariants.{Absent, Present, Ended}
use Rattle.krl_lease_table.specs.declared.row.Row.{Row}
use Rattle.krl_lease_table.specs.declared.flat.FlatRow.{FlatRow}
use Rattle.krl_lease_table.specs.declared.table.LeaseTable.{LeaseTable}
use Rattle.krl_lease_table.specs.Tables.{Table}

-- each other number than 0 is a yes
abbrev pub is_yes : ℕ → Bool
is_yes n = not (n == 0)

abbrev pub at : ℕ → Until
at moment = record { moment = moment }

abbrev pub standing_at : ℕ → ℕ → Standing
standing_at kind end = if kind == 0 then Absent else (if kind == 1 then Present (at end) else Ended)

abbrev pub older_at : ℕ → ℕ → Older
older_at kind over = if kind == 1 then Unknown else (if kind == 2 then IsOver over else Vouched)

abbrev pub signer_at : ℕ → ℕ → ℕ → Option Signer
signer_at kind i over = if kind == 0 then None else Some (record { incarnation = i; older = older_at kind over })

abbrev pub asked_at : ℕ → ℕ → ℕ → ℕ → Option Asked
asked_at is_asked i stamp commits =
    if is_asked == 0 then None else Some (record { incarnation = i; stamp = stamp; commits = commits })

abbrev pub row_of : FlatRow → Row
row_of f = record {
  registered = f.registered;
  standing = standing_at f.standing f.end;
  signer = signer_at f.older f.signer f.over;
  asked = asked_at f.is_asked f.asked f.stamp f.commits;
  is_unleased = is_yes f.is_unleased;
}

abbrev pub table_of : LeaseTable → Table
table_of f = record {
  terms = record { length = f.length; drift = f.drift };
  longest = f.longest;
  old_end = at f.old_end;
  begun = f.begun;
  made = f.made;
  is_open = is_yes f.is_open;
  rows = map row_of f.rows;
}
