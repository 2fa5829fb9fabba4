-- What is known of one client number, and what becomes of it.
use Rattle.std.specs.Prelude.{ℕ, ◌+◌, Bool, true, false, not, ◌&&◌, ◌||◌, ◌==◌, nat_lt, nat_le, is_some, Option, Some, None, if◌then◌else◌}
use Rattle.krl_leases.specs.declared.length.TheConstants.{FOR_EVER}
use Rattle.krl_leases.specs.declared.length.Terms.{Terms}
use Rattle.krl_leases.specs.declared.until.Until.{Until}
use Rattle.krl_leases.specs.declared.until.TakeOver.{TakeOver}
use Rattle.krl_leases.specs.declared.kept.Kept.{Kept}
use Rattle.krl_leases.specs.Servers as servers
use Rattle.krl_lease_table.specs.declared.sign.Older.{Older}
use Rattle.krl_lease_table.specs.declared.sign.Older.TheVariants as older
use Rattle.krl_lease_table.specs.declared.sign.Sign.{Sign}
use Rattle.krl_lease_table.specs.declared.sign.Signer.{Signer}
use Rattle.krl_lease_table.specs.declared.sign.Asked.{Asked}
use Rattle.krl_lease_table.specs.declared.sign.Grant.{Grant}
use Rattle.krl_lease_table.specs.declared.standing.Standing.{Standing}
use Rattle.krl_lease_table.specs.declared.standing.Standing.TheVariants.{Absent, Present, Ended}
use Rattle.krl_lease_table.specs.declared.row.Row.{Row}
use Rattle.krl_lease_table.specs.Standings as standings

-- the moment that never comes
abbrev pub never : Until
never = record { moment = FOR_EVER }

-- The start of a server

abbrev pub blank : Row
blank = record { registered = 0; standing = Absent; signer = None; asked = None; is_unleased = true }

abbrev pub stored : ℕ → Bool → Bool → Row
stored i has_left is_unleased = record {
  registered = i;
  standing = if has_left || i == 0 then Absent else Present never;
  signer = None;
  asked = None;
  is_unleased = is_unleased;
}

abbrev pub kept_of : ℕ → Row → Kept
kept_of longest row = record { longest = longest; is_unleased = row.is_unleased }

abbrev pub with_kept : Row → Kept → Row
with_kept row kept = record row { is_unleased = kept.is_unleased }

-- a client that is registered may have a lease of an older server, as long as the longest
abbrev pub opened_at : Kept → Terms → ℕ → Standing → Standing
opened_at kept terms now Absent = Absent
opened_at kept terms now (Present until) = Present (servers.restarted kept terms now)
opened_at kept terms now Ended = Ended

abbrev pub opened : ℕ → Terms → ℕ → Row → Row
opened longest terms now row = record row { standing = opened_at (kept_of longest row) terms now row.standing }

-- Signs

-- this incarnation answers nothing any more: it or a greater one was registered, and it is not the one that may answer
abbrev pub has_ended : Row → ℕ → Bool
has_ended row i = nat_le i row.registered && not (row.registered == i && standings.may_answer row.standing)

-- the greatest incarnation of which a sign came, with its host's last word on older ones
abbrev pub signer_after : Option Signer → Sign → Option Signer
signer_after None sign = Some (record { incarnation = sign.incarnation; older = sign.older })
signer_after (Some signer) sign =
    if nat_lt sign.incarnation signer.incarnation
    then Some signer
    else Some (record { incarnation = sign.incarnation; older = sign.older })

abbrev pub is_of : Option Asked → ℕ → Bool
is_of None i = false
is_of (Some asked) i = asked.incarnation == i

-- the sign that waits is one of the incarnation that may answer
abbrev pub serves_registered : Row → Bool
serves_registered row = is_of row.asked row.registered && standings.may_answer row.standing

-- the last sign is answered, and no stranger's takes the place of the one that the registered incarnation lives by
abbrev pub asked_after : Row → Sign → ℕ → Option Asked
asked_after row sign commits =
    if not (row.registered == sign.incarnation) && serves_registered row
    then row.asked
    else Some (record { incarnation = sign.incarnation; stamp = sign.stamp; commits = commits })

-- only a sign of the registered incarnation moves its end
abbrev pub standing_after : Terms → Row → Sign → ℕ → Standing
standing_after terms row sign now =
    if row.registered == sign.incarnation
    then standings.signed terms row.standing sign.said now
    else row.standing

abbrev pub signed : Terms → Row → Sign → ℕ → ℕ → Row
signed terms row sign commits now =
    if has_ended row sign.incarnation
    then row
    else record row {
      standing = standing_after terms row sign now;
      signer = signer_after row.signer sign;
      asked = asked_after row sign commits;
    }

-- Terms

-- a sign may be answered once a commit has been made that began after it came
abbrev pub due : Option Asked → ℕ → Option Asked
due None made = None
due (Some asked) made = if nat_lt asked.commits made then Some asked else None

abbrev pub grant_for : Terms → Row → Option Asked → Option Grant
grant_for terms row None = None
grant_for terms row (Some asked) =
    if has_ended row asked.incarnation
    then None
    else Some (record { incarnation = asked.incarnation; stamp = asked.stamp; length = terms.length })

abbrev pub grant : Terms → Row → ℕ → Option Grant
grant terms row made = grant_for terms row (due row.asked made)

-- it is answered once
abbrev pub granted : Row → ℕ → Row
granted row made = if is_some (due row.asked made) then record row { asked = None } else row

-- A greater incarnation

abbrev pub older_than : Option Signer → ℕ → Option Older
older_than None i = None
older_than (Some signer) i = if signer.incarnation == i then Some signer.older else None

-- the incarnation of which a host knows that no process is left, or 0
abbrev pub over_of : Option Older → ℕ
over_of None = 0
over_of (Some older.Unknown) = 0
over_of (Some (older.IsOver i)) = i
over_of (Some older.Vouched) = 0

-- whoever starts a client whose host sends no signs vouches that the one before is over
abbrev pub vouches : Option Older → Bool
vouches None = true
vouches (Some older.Unknown) = false
vouches (Some (older.IsOver i)) = false
vouches (Some older.Vouched) = true

abbrev pub asks : Terms → Row → ℕ → TakeOver
asks terms row i = record {
  registered = row.registered;
  incarnation = i;
  over = over_of (older_than row.signer i);
  is_vouched = vouches (older_than row.signer i) || servers.grants_for_ever terms;
}

abbrev pub makes_room : Standing → TakeOver → ℕ → Bool
makes_room Absent asks now = true
makes_room (Present until) asks now = servers.is_heard until asks now
makes_room Ended asks now = true

-- its Hello may be handed to the server
abbrev pub admits : Terms → Row → ℕ → ℕ → Bool
admits terms row i now = makes_room row.standing (asks terms row i) now

-- and then the older one answers nothing any more
abbrev pub admitted : Terms → Row → ℕ → ℕ → Row
admitted terms row i now =
    if nat_lt row.registered i && (standings.may_answer row.standing && admits terms row i now)
    then record row { standing = Ended }
    else row

-- what it is granted: a host that sends no signs knows nothing of leases
abbrev pub terms_of : Terms → Row → ℕ → Terms
terms_of terms row i =
    if is_some (older_than row.signer i) then terms else record { length = FOR_EVER; drift = terms.drift }

abbrev pub registered : Terms → Row → ℕ → ℕ → Row
registered terms row i now = record row {
  registered = i;
  standing = Present (servers.since (terms_of terms row i) now);
  is_unleased = (servers.kept_registered (kept_of 0 row) (terms_of terms row i)).is_unleased;
}

-- Evictions

abbrev pub last_incarnation : ℕ
last_incarnation = 18446744073709551615

-- the incarnation by whose Hello and Bye the client may be evicted. There is none after the last one
abbrev pub successor : Row → ℕ → Option ℕ
successor row now =
    if standings.may_be_evicted row.standing now && nat_lt row.registered last_incarnation
    then Some (row.registered + 1)
    else None

abbrev pub evicting : Row → ℕ → Row
evicting row now = if is_some (successor row now) then record row { standing = Ended } else row

abbrev pub evicted : Row → ℕ → Row
evicted row i = record row { registered = i; standing = Ended; is_unleased = false }

abbrev pub left : Row → Row
left row = record row { standing = Absent }

-- What is kept later

abbrev pub until_of : Standing → Until
until_of Absent = never
until_of (Present until) = until
until_of Ended = never

abbrev pub revised : ℕ → Terms → Until → ℕ → Row → Kept
revised longest terms old now row =
    servers.revised (kept_of longest row) terms old (until_of row.standing) now
