-- Whether an incarnation may answer, and until when.
use Rattle.std.specs.Prelude.{ℕ, Bool, true, false, Option, Some, None, if◌then◌else◌}
use Rattle.krl_leases.specs.declared.length.Terms.{Terms}
use Rattle.krl_leases.specs.Servers as servers
use Rattle.krl_lease_table.specs.declared.standing.End.{End}
use Rattle.krl_lease_table.specs.declared.standing.End.TheVariants.{At, Never}
use Rattle.krl_lease_table.specs.declared.standing.Standing.{Standing}
use Rattle.krl_lease_table.specs.declared.standing.Standing.TheVariants.{Absent, Present, Ended}

abbrev pub may_answer : Standing → Bool
may_answer Absent = false
may_answer (Present until) = true
may_answer Ended = false

-- a sign moves the end of a lease, and brings nobody back
abbrev pub signed : Terms → Standing → ℕ → ℕ → Standing
signed terms Absent said now = Absent
signed terms (Present until) said now = Present (servers.signed terms until said now)
signed terms Ended said now = Ended

-- its end has come; or it was evicted before and is still there
abbrev pub may_be_evicted : Standing → ℕ → Bool
may_be_evicted Absent now = false
may_be_evicted (Present until) now = servers.has_come until now
may_be_evicted Ended now = true

abbrev pub end_of : Standing → Option End
end_of Absent = None
end_of (Present until) = if servers.is_never until then Some Never else Some (At until.moment)
end_of Ended = None
