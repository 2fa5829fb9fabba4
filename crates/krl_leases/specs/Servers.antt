-- The server's rule, by the server's clock.
use Rattle.std.specs.Prelude.{ℕ, Bool, true, ◌&&◌, ◌||◌, ◌==◌, nat_lt, nat_le, max, if◌then◌else◌}
use Rattle.krl_leases.specs.declared.length.TheConstants.{FOR_EVER}
use Rattle.krl_leases.specs.declared.length.Terms.{Terms}
use Rattle.krl_leases.specs.declared.until.Until.{Until}
use Rattle.krl_leases.specs.declared.until.TakeOver.{TakeOver}
use Rattle.krl_leases.specs.declared.kept.Kept.{Kept}
use Rattle.krl_leases.specs.Lengths.{end_of}

-- Until

abbrev pub is_never : Until → Bool
is_never until = until.moment == FOR_EVER

-- the moment has come. From then on a client may be evicted
abbrev pub has_come : Until → ℕ → Bool
has_come until now = nat_lt until.moment FOR_EVER && nat_le until.moment now

-- a client registers
abbrev pub since : Terms → ℕ → Until
since terms now = record { moment = end_of terms.drift now terms.length }

-- no earlier than what was known. A client that might answer for ever states by what it lives now
abbrev pub at_least : Until → ℕ → ℕ
at_least until moment = if is_never until then moment else max until.moment moment

-- a client's sign states the length of the lease by which it lives: for so long, or for what it is granted, it may
-- answer
abbrev pub signed : Terms → Until → ℕ → ℕ → Until
signed terms until said now = record { moment = at_least until (end_of terms.drift now (max said terms.length)) }

-- What outlives the server

abbrev pub grants_for_ever : Terms → Bool
grants_for_ever terms = terms.length == FOR_EVER

-- what has to be stored before a server with these terms sends anything
abbrev pub kept_from : Kept → Terms → Kept
kept_from kept terms =
    if grants_for_ever terms
    then record { longest = kept.longest; is_unleased = true }
    else record { longest = max kept.longest terms.length; is_unleased = kept.is_unleased }

-- and before it answers a client that registers
abbrev pub kept_registered : Kept → Terms → Kept
kept_registered kept terms = record { longest = kept.longest; is_unleased = grants_for_ever terms }

-- no lease that an older server granted runs from then on, unless it is for ever
abbrev pub old_end : Kept → Terms → ℕ → Until
old_end kept terms now = record { moment = end_of terms.drift now kept.longest }

-- a server starts: each client that is registered may have a lease of an older server, as long as the longest
abbrev pub restarted : Kept → Terms → ℕ → Until
restarted kept terms now =
    if kept.is_unleased then record { moment = FOR_EVER } else old_end kept terms now

-- what may be stored later: once no older lease runs, the longest is what this server grants
abbrev pub revised : Kept → Terms → Until → Until → ℕ → Kept
revised kept terms old until now =
    if grants_for_ever terms
    then kept
    else record {
      longest = if has_come old now then terms.length else kept.longest;
      is_unleased = kept.is_unleased && is_never until;
    }

-- A greater incarnation

-- its Hello is heard: it has the older one's lock file, or the older one's lease has ended, or that one never ends and
-- an operator vouches that it is over
abbrev pub is_heard : Until → TakeOver → ℕ → Bool
is_heard until asks now =
    nat_le asks.incarnation asks.registered
    || (asks.over == asks.registered || (has_come until now || (is_never until && asks.is_vouched)))
