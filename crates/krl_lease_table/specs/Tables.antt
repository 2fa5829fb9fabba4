-- The rows of all clients, and what each call answers and leaves.
use Rattle.std.specs.Prelude.{ℕ, ◌+◌, Bool, true, false, max, nat_lt, nat_le, ◌==◌, List, map, replicate, slice_get, slice_set, Option, Some, None, Result, Ok, Err, ⊤, if◌then◌else◌}
use Rattle.krl_modes.specs.declared.limits.TheConstants.{MAX_CLIENTS}
use Rattle.krl_leases.specs.declared.length.Terms.{Terms}
use Rattle.krl_leases.specs.declared.until.Until.{Until}
use Rattle.krl_leases.specs.Servers as servers
use Rattle.krl_lease_table.specs.declared.refused.Refused.{Refused}
use Rattle.krl_lease_table.specs.declared.refused.Refused.TheVariants.{BadClient, NotOpen, Begun, NoCommit, Spent, NotGreater, StillAnswers}
use Rattle.krl_lease_table.specs.declared.sign.Sign.{Sign}
use Rattle.krl_lease_table.specs.declared.sign.Grant.{Grant}
use Rattle.krl_lease_table.specs.declared.sign.Heard.{Heard}
use Rattle.krl_lease_table.specs.declared.sign.Heard.TheVariants.{HasEnded, Waits}
use Rattle.krl_lease_table.specs.declared.row.Row.{Row}
use Rattle.krl_lease_table.specs.Standings as standings
use Rattle.krl_lease_table.specs.Rows as rows

pub record Table : Type 0 where
  pub terms : Terms  -- what the server grants
  pub longest : ℕ  -- no lease that ends and may still run is longer
  pub old_end : Until  -- from when on no lease of an older server runs, unless it does not end
  pub begun : ℕ  -- so many commits have begun
  pub made : ℕ  -- and so many of them have been made
  pub is_open : Bool  -- the server has begun
  pub rows : List Row

-- The row of a client, or why there is none

abbrev pub given : Option Row → Result Row Refused
given None = Err BadClient
given (Some row) = Ok row

abbrev pub row_of : Table → ℕ → Result Row Refused
row_of t c = given (slice_get t.rows c)

abbrev pub open_row : Table → ℕ → Result Row Refused
open_row t c = if t.is_open then row_of t c else Err NotOpen

-- before the first commit
abbrev pub first_row : Table → ℕ → Result Row Refused
first_row t c = if nat_lt 0 t.begun then Err Begun else row_of t c

-- a greater incarnation may be registered: the one before answers nothing any more
abbrev pub free_if : ℕ → Result Row Refused → Result Row Refused
free_if i (Err e) = Err e
free_if i (Ok row) =
    if nat_le i row.registered
    then Err NotGreater
    else (if standings.may_answer row.standing then Err StillAnswers else Ok row)

abbrev pub free_row : Table → ℕ → ℕ → Result Row Refused
free_row t c i = free_if i (open_row t c)

-- What a call answers, and what it leaves: nothing changes if it is refused

abbrev pub answer : {A : Type 0} → Result Row Refused → (Row → A) → Result A Refused
answer (Err e) f = Err e
answer (Ok row) f = Ok (f row)

abbrev pub nothing : Row → ⊤
nothing row = tt

abbrev pub with_row : Table → ℕ → Row → Table
with_row t c row = record t { rows = slice_set t.rows c row }

abbrev pub changed : Table → ℕ → Result Row Refused → (Row → Row) → Table
changed t c (Err e) f = t
changed t c (Ok row) f = with_row t c (f row)

-- The start of a server

abbrev pub started : Terms → ℕ → Table
started terms longest = record {
  terms = terms;
  longest = (servers.kept_from (rows.kept_of longest rows.blank) terms).longest;
  old_end = rows.never;
  begun = 0;
  made = 0;
  is_open = false;
  rows = replicate MAX_CLIENTS rows.blank;
}

-- what the store has, and with it what this server has to store before it sends anything
abbrev pub store_row : Terms → ℕ → Bool → Bool → Row
store_row terms i has_left is_unleased =
    let row = rows.stored i has_left is_unleased in
    rows.with_kept row (servers.kept_from (rows.kept_of 0 row) terms)

abbrev pub store_answer : Table → ℕ → Result ⊤ Refused
store_answer t c = answer (first_row t c) nothing

abbrev pub with_stored : Table → ℕ → ℕ → Bool → Bool → Table
with_stored t c i has_left is_unleased =
    changed t c (first_row t c) (λ (row : Row). store_row t.terms i has_left is_unleased)

-- all rows, by this server's clock
abbrev pub opened : Table → ℕ → Table
opened t now =
    if t.is_open
    then t
    else (if t.made == 0
    then t
    else record t {
      old_end = servers.old_end (rows.kept_of t.longest rows.blank) t.terms now;
      is_open = true;
      rows = map (rows.opened t.longest t.terms now) t.rows;
    })

abbrev pub open_answer : Table → Result ⊤ Refused
open_answer t = if t.is_open then Err Begun else (if t.made == 0 then Err NotOpen else Ok tt)

-- Commits

abbrev pub next_commit : Table → Result ℕ Refused
next_commit t = if t.begun == rows.last_incarnation then Err Spent else Ok (t.begun + 1)

abbrev pub committing : Table → Table
committing t = if t.begun == rows.last_incarnation then t else record t { begun = t.begun + 1 }

abbrev pub commit_answer : Table → ℕ → Result ⊤ Refused
commit_answer t n = if nat_lt t.begun n then Err NoCommit else Ok tt

abbrev pub committed : Table → ℕ → Table
committed t n = if nat_lt t.begun n then t else record t { made = max t.made n }

-- Signs

abbrev pub heard : Row → Sign → Heard
heard row sign = if rows.has_ended row sign.incarnation then HasEnded else Waits

abbrev pub sign_answer : Table → ℕ → Sign → Result Heard Refused
sign_answer t c sign = answer (open_row t c) (λ (row : Row). heard row sign)

abbrev pub signed : Table → ℕ → Sign → ℕ → Table
signed t c sign now = changed t c (open_row t c) (λ (row : Row). rows.signed t.terms row sign t.begun now)

abbrev pub terms_answer : Table → ℕ → Result (Option Grant) Refused
terms_answer t c = answer (open_row t c) (λ (row : Row). rows.grant t.terms row t.made)

abbrev pub granted : Table → ℕ → Table
granted t c = changed t c (open_row t c) (λ (row : Row). rows.granted row t.made)

-- A greater incarnation, and who has left

abbrev pub admit_answer : Table → ℕ → ℕ → ℕ → Result Bool Refused
admit_answer t c i now = answer (open_row t c) (λ (row : Row). rows.admits t.terms row i now)

abbrev pub admitted : Table → ℕ → ℕ → ℕ → Table
admitted t c i now = changed t c (open_row t c) (λ (row : Row). rows.admitted t.terms row i now)

-- it is the client's own, or one that the host made to evict it
abbrev pub register_answer : Table → ℕ → ℕ → Result ⊤ Refused
register_answer t c i = answer (free_row t c i) nothing

abbrev pub registered : Table → ℕ → ℕ → ℕ → Table
registered t c i now = changed t c (free_row t c i) (λ (row : Row). rows.registered t.terms row i now)

abbrev pub evicted : Table → ℕ → ℕ → Table
evicted t c i = changed t c (free_row t c i) (λ (row : Row). rows.evicted row i)

abbrev pub leave_answer : Table → ℕ → Result ⊤ Refused
leave_answer t c = answer (open_row t c) nothing

abbrev pub left : Table → ℕ → Table
left t c = changed t c (open_row t c) rows.left

abbrev pub evict_answer : Table → ℕ → ℕ → Result (Option ℕ) Refused
evict_answer t c now = answer (open_row t c) (λ (row : Row). rows.successor row now)

abbrev pub evicting : Table → ℕ → ℕ → Table
evicting t c now = changed t c (open_row t c) (λ (row : Row). rows.evicting row now)

-- What is kept later

abbrev pub revised_row : ℕ → Terms → Until → ℕ → Row → Row
revised_row longest terms old now row = rows.with_kept row (rows.revised longest terms old now row)

abbrev pub revise_answer : Table → Result ⊤ Refused
revise_answer t = if t.is_open then Ok tt else Err NotOpen

abbrev pub revised : Table → ℕ → Table
revised t now =
    if t.is_open
    then record t {
      longest = (rows.revised t.longest t.terms t.old_end now rows.blank).longest;
      rows = map (revised_row t.longest t.terms t.old_end now) t.rows;
    }
    else t
