-- Leases, as C has them: what it hands to the table of a server's host, and what it is answered.
use Rattle.std.specs.Prelude.{◌≡◌, ℕ, Bool, true, false, ◌==◌, Option, Some, None, Result, Ok, Err, ⊤, if◌then◌else◌}
use Rattle.krl_leases.specs.declared.length.Terms.{Terms}
use Rattle.krl_leases.specs.declared.lease.Lease.{Lease}
use Rattle.krl_leases.specs.Clients.{holds}
use Rattle.krl_lease_table.specs.declared.refused.Refused.{Refused}
use Rattle.krl_lease_table.specs.declared.refused.Refused.TheVariants as refused
use Rattle.krl_lease_table.specs.declared.sign.Older.{Older}
use Rattle.krl_lease_table.specs.declared.sign.Older.TheVariants as older
use Rattle.krl_lease_table.specs.declared.sign.Sign.{Sign}
use Rattle.krl_lease_table.specs.declared.sign.Signer.{Signer}
use Rattle.krl_lease_table.specs.declared.sign.Heard.{Heard}
use Rattle.krl_lease_table.specs.declared.sign.Heard.TheVariants as heard
use Rattle.krl_lease_table.specs.declared.sign.Grant.{Grant}
use Rattle.krl_lease_table.specs.declared.standing.Standing.{Standing}
use Rattle.krl_lease_table.specs.declared.standing.Standing.TheVariants as standing
use Rattle.krl_lease_table.specs.declared.row.Row.{Row}
use Rattle.krl_lease_table.specs.Flat.{is_yes}
use Rattle.krl_lease_table.specs.Standings as standings
use Rattle.krl_embed.specs.declared.code.Code.{Code}
use Rattle.krl_embed.specs.declared.code.Code.TheVariants as code
use Rattle.krl_embed.specs.declared.lease_rows.TermsRow.{TermsRow}
use Rattle.krl_embed.specs.declared.lease_rows.SignRow.{SignRow}
use Rattle.krl_embed.specs.declared.lease_rows.GrantRow.{GrantRow}
use Rattle.krl_embed.specs.declared.lease_rows.LeaseShown.{LeaseShown}
use Rattle.krl_embed.specs.declared.leased_scan.LeasedScan.{LeasedScan}
use Rattle.krl_embed.specs.declared.reply.Reply.{Reply}
use Rattle.krl_embed.specs.Endpoints.{IsCode}
use Rattle.krl_embed.specs.Replies.{code_of}
use Rattle.krl_embed.specs.Shown.{flag}

abbrev pub terms_of : TermsRow → Terms
terms_of row = record { length = row.length; drift = row.drift }

-- What a client's host knows of older incarnations: somebody vouches for all, or one is over, or nothing
abbrev pub older_of : SignRow → Older
older_of row =
    if is_yes row.is_vouched then older.Vouched else (if row.over == 0 then older.Unknown else older.IsOver row.over)

abbrev pub sign_of : SignRow → Sign
sign_of row =
    record { incarnation = row.incarnation; stamp = row.stamp; said = row.length; older = older_of row }

-- Why a call was refused

abbrev pub refusal : Refused → Code
refusal refused.BadClient = code.BadClient
refusal refused.NotOpen = code.Closed
refusal refused.Begun = code.OpenAlready
refusal refused.NoCommit = code.NotTold
refusal refused.Spent = code.Spent
refusal refused.NotGreater = code.BadIncarnation
refusal refused.StillAnswers = code.StillAnswers

-- What is answered

abbrev pub done : Result ⊤ Refused → Code
done (Err e) = refusal e
done (Ok _) = code.Done

-- an incarnation that answers nothing any more is gone
abbrev pub heard_as : Result Heard Refused → Code
heard_as (Err e) = refusal e
heard_as (Ok heard.HasEnded) = code.Gone
heard_as (Ok heard.Waits) = code.Done

-- a Hello that has to wait is one whose older incarnation still answers
abbrev pub admitted_as : Result Bool Refused → Code
admitted_as (Err e) = refusal e
admitted_as (Ok true) = code.Done
admitted_as (Ok false) = code.StillAnswers

-- the number is the detail
abbrev pub Numbers : Result ℕ Refused → Reply → Type 0
Numbers (Err e) r = IsCode (refusal e) r
Numbers (Ok n) r = (code_of r ≡ Some code.Done) × (r.detail ≡ n)

-- the detail is the incarnation, or 0: no client has that
abbrev pub Succeeds : Result (Option ℕ) Refused → Reply → Type 0
Succeeds (Err e) r = IsCode (refusal e) r
Succeeds (Ok None) r = IsCode code.Done r
Succeeds (Ok (Some i)) r = (code_of r ≡ Some code.Done) × (r.detail ≡ i)

abbrev pub IsNoGrant : Code → GrantRow → Type 0
IsNoGrant c r =
    IsCode c r.reply × (r.incarnation ≡ 0) × (r.stamp ≡ 0) × (r.length ≡ 0) × (r.is_there ≡ 0)

abbrev pub Grants : Result (Option Grant) Refused → GrantRow → Type 0
Grants (Err e) r = IsNoGrant (refusal e) r
Grants (Ok None) r = IsNoGrant code.Done r
Grants (Ok (Some g)) r =
    IsCode code.Done r.reply × (r.incarnation ≡ g.incarnation) × (r.stamp ≡ g.stamp) × (r.length ≡ g.length)
    × (r.is_there ≡ 1)

-- What a table shows of a client

-- until when the incarnation that is registered may answer, or 0 if it may not
abbrev pub end_of : Standing → ℕ
end_of standing.Absent = 0
end_of (standing.Present until) = until.moment
end_of standing.Ended = 0

-- the greatest incarnation of which a sign came, or 0
abbrev pub signer_of : Option Signer → ℕ
signer_of None = 0
signer_of (Some signer) = signer.incarnation

abbrev pub IsShown : ℕ → Row → LeaseShown → Type 0
IsShown longest row r =
    IsCode code.Done r.reply × (r.registered ≡ row.registered) × (r.end ≡ end_of row.standing)
    × (r.signer ≡ signer_of row.signer) × (r.longest ≡ longest)
    × (r.is_present ≡ flag (standings.may_answer row.standing)) × (r.is_unleased ≡ flag row.is_unleased)

abbrev pub IsNotShown : Code → LeaseShown → Type 0
IsNotShown c r =
    IsCode c r.reply × (r.registered ≡ 0) × (r.end ≡ 0) × (r.signer ≡ 0) × (r.longest ≡ 0) × (r.is_present ≡ 0)
    × (r.is_unleased ≡ 0)

abbrev pub Shows : ℕ → Result Row Refused → LeaseShown → Type 0
Shows longest (Err e) r = IsNotShown (refusal e) r
Shows longest (Ok row) r = IsShown longest row r

-- Scans

-- an answer that waits is given by a lease that holds
abbrev pub AnswersIf : Bool → Bool → Reply → Reply → Type 0
AnswersIf false by_lease found r = IsCode code.Closed r
AnswersIf true false found r = IsCode code.LeaseEnded r
AnswersIf true true found r = r ≡ found

abbrev pub AnswersByLease : LeasedScan → Lease → ℕ → Reply → Type 0
AnswersByLease scan lease now r = AnswersIf (is_yes scan.waits) (holds lease now) scan.found r
