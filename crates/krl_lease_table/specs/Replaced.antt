-- A server that another one has replaced, and whose host goes on with its table, since it does not know. The store
-- makes none of its commits any more.
use Rattle.std.specs.Prelude.{◌≡◌, ◌⊎◌, ◌≤◌, ℕ, Bool, true, false, List, [], ◌∷◌, if◌then◌else◌}
use Rattle.krl_leases.specs.Clocks.{Clocks, Limits}
use Rattle.krl_leases.specs.Machine as machine
use Rattle.krl_leases.specs.Machine.{Server, State}
use Rattle.krl_lease_table.specs.declared.sign.Sign.{Sign}
use Rattle.krl_lease_table.specs.declared.row.Row.{Row}
use Rattle.krl_lease_table.specs.Rows as rows
use Rattle.krl_lease_table.specs.Systems.{Call, Signs, TakesTerms, Admits, Registers, Leaves, Evicts, Succeeds, Revises, AreSent, after}

-- the machine of leases goes on with the client, the network and the servers that follow; or the host calls the table
pub data Late : Type 0 where
  Elsewhere : machine.Event → Late
  There : Call → Late

abbrev pub is_connect : machine.Event → Bool
is_connect machine.Connect = true
is_connect e = false

-- the signs that came on the connection that the client has
abbrev pub came_after : machine.Event → List machine.Grant → List machine.Grant
came_after e came = if is_connect e then [] else came

-- A sign may come on that connection, with any stamp. Each commit that the store has made had begun before it came
abbrev pub IsHeardLate : ℕ → Server → ℕ → Row → Sign → ℕ → List machine.Grant → List machine.Grant → Type 0
IsHeardLate i s n row x commits came came' =
    (n ≤ commits)
    × (((x.incarnation ≡ i → rows.has_ended row i ≡ true) × (came' ≡ came))
    ⊎ ((moment : ℕ) × (x.incarnation ≡ i) × (rows.has_ended row i ≡ false)
    × (came' ≡ record { moment = moment; length = s.terms.length } ∷ came)))

-- What a call does: terms that the table gives may still be sent. Of the commits n have been made
abbrev pub HappensLate :
    ℕ → Clocks → Server → ℕ → Row → List machine.Grant → State → Call → List machine.Grant → State → Type 0
HappensLate i clocks s n row came v (Signs x commits) came' v' = IsHeardLate i s n row x commits came came' × (v' ≡ v)
HappensLate i clocks s n row came v (TakesTerms made) came' v' =
    (made ≤ n) × (came' ≡ came) × AreSent i clocks s row made came v v'
HappensLate i clocks s n row came v (Admits j) came' v' = (came' ≡ came) × (v' ≡ v)
HappensLate i clocks s n row came v (Registers j) came' v' = (came' ≡ came) × (v' ≡ v)
HappensLate i clocks s n row came v Leaves came' v' = (came' ≡ came) × (v' ≡ v)
HappensLate i clocks s n row came v Evicts came' v' = (came' ≡ came) × (v' ≡ v)
HappensLate i clocks s n row came v (Succeeds j) came' v' = (came' ≡ came) × (v' ≡ v)
HappensLate i clocks s n row came v (Revises longest old) came' v' = (came' ≡ came) × (v' ≡ v)

abbrev pub GoesLate :
    Limits → Clocks → ℕ → Server → ℕ → Row → List machine.Grant → State → Late → Row → List machine.Grant → State →
    Type 0
GoesLate limits clocks i s n row came v (Elsewhere e) row' came' v' =
    machine.Goes limits clocks v e v' × (row' ≡ row) × (came' ≡ came_after e came)
GoesLate limits clocks i s n row came v (There call) row' came' v' =
    (row' ≡ after s row (clocks.server s.machine v.now) call) × HappensLate i clocks s n row came v call came' v'

abbrev pub RunsLate :
    Limits → Clocks → ℕ → Server → ℕ → Row → List machine.Grant → State → List Late → State → Type 0
RunsLate limits clocks i s n row came v [] v' = v' ≡ v
RunsLate limits clocks i s n row came v (step ∷ steps) v' =
    (mid : Row) × (still : List machine.Grant) × (between : State)
    × GoesLate limits clocks i s n row came v step mid still between
    × RunsLate limits clocks i s n mid still between steps v'
