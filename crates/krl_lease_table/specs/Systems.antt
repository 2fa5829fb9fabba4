-- One incarnation of a client with its connection, as in the machine of leases, and the row that a server's lease table
-- has of the client's number. Only what the table answers happens at the server.
use Rattle.std.specs.Prelude.{◌≡◌, ◌⊎◌, ◌<◌, ℕ, Bool, true, false, not, ◌&&◌, ◌||◌, ◌==◌, List, [], ◌∷◌, Some, Result, Ok, Err, if◌then◌else◌}
use Rattle.krl_leases.specs.declared.until.Until.{Until}
use Rattle.krl_leases.specs.Clocks.{Clocks, Limits}
use Rattle.krl_leases.specs.Servers.{kept_registered}
use Rattle.krl_leases.specs.Machine as machine
use Rattle.krl_leases.specs.Machine.{Server, State, Registered, Evicted, Unknown, In}
use Rattle.krl_lease_table.specs.declared.refused.Refused.{Refused}
use Rattle.krl_lease_table.specs.declared.sign.Sign.{Sign}
use Rattle.krl_lease_table.specs.declared.sign.Grant.{Grant}
use Rattle.krl_lease_table.specs.declared.standing.Standing.TheVariants.{Present}
use Rattle.krl_lease_table.specs.declared.row.Row.{Row}
use Rattle.krl_lease_table.specs.Standings as standings
use Rattle.krl_lease_table.specs.Rows as rows
use Rattle.krl_lease_table.specs.Tables as tables

-- Calls of the table on this client's number, with what the table has besides the row. Calls on another number leave
-- the row as it is
pub data Call : Type 0 where
  Signs : Sign → ℕ → Call  -- so many commits have begun
  TakesTerms : ℕ → Call  -- so many have been made
  Admits : ℕ → Call
  Registers : ℕ → Call
  Leaves : Call
  Evicts : Call
  Succeeds : ℕ → Call
  Revises : ℕ → Until → Call  -- the longest lease, and the end of older ones

-- a call that is refused leaves the row as it is
abbrev pub unless_refused : Row → Result Row Refused → (Row → Row) → Row
unless_refused row (Err e) f = row
unless_refused row (Ok same) f = f row

-- what a call leaves of the row
abbrev pub after : Server → Row → ℕ → Call → Row
after s row now (Signs sign commits) = rows.signed s.terms row sign commits now
after s row now (TakesTerms made) = rows.granted row made
after s row now (Admits j) = rows.admitted s.terms row j now
after s row now (Registers j) =
    unless_refused row (tables.free_if j (Ok row)) (λ (r : Row). rows.registered s.terms r j now)
after s row now Leaves = rows.left row
after s row now Evicts = rows.evicting row now
after s row now (Succeeds j) = unless_refused row (tables.free_if j (Ok row)) (λ (r : Row). rows.evicted r j)
after s row now (Revises longest old) = tables.revised_row longest s.terms old now row

-- by the row, the incarnation may answer
abbrev pub may_answer : ℕ → Row → Bool
may_answer i row = row.registered == i && standings.may_answer row.standing

-- it may no longer, or may from now on
abbrev pub ends : ℕ → Row → Row → Bool
ends i row row' = may_answer i row && not (may_answer i row')

abbrev pub begins : ℕ → Row → Row → Bool
begins i row row' = not (may_answer i row) && may_answer i row'

-- for the incarnation j the registered one counts as over, whether or not its end has come: by the word of a lock file
-- or an operator, since no sign of j came, or since the server grants leases without end
abbrev pub counts_as_over : Server → Row → ℕ → Bool
counts_as_over s row j = let asks = rows.asks s.terms row j in asks.over == asks.registered || asks.is_vouched

abbrev pub with_standing : State → Bool → machine.Standing → State
with_standing v b standing = record v { standing = if b then standing else v.standing }

-- what has to be stored of leases is stored with a registration, or before it
abbrev pub with_registered : Server → State → Bool → State
with_registered s v b = record v {
  standing = if b then Registered else v.standing;
  kept = if b then kept_registered v.kept s.terms else v.kept;
}

-- Only a sign that was sent is heard, with the client's clock at that moment as its stamp. If it is one of the
-- incarnation, and that has not ended, it waits for the terms
abbrev pub IsHeard : ℕ → Clocks → Server → Row → Sign → State → State → Type 0
IsHeard i clocks s row x v v' =
    ((x.incarnation ≡ i → rows.has_ended row i ≡ true) × (v' ≡ v))
    ⊎ ((sign : machine.Sign) × In sign v.signs × (x.incarnation ≡ i) × (x.said ≡ sign.said)
    × (x.stamp ≡ clocks.client sign.moment) × (rows.has_ended row i ≡ false)
    × (v' ≡ record v { waiting = record { moment = sign.moment; length = s.terms.length } ∷ v.waiting }))

-- a sign of this moment is one of those that have come on the connection
abbrev pub Waits : ℕ → List machine.Grant → Type 0
Waits moment came = (length : ℕ) × In (record { moment = moment; length = length }) came

-- Terms that the table gives are sent as it gives them, on the connection on which a sign has come, or are lost. They
-- have a stamp: their moment is one with this stamp, at which a sign was sent that came, if there is such a moment
abbrev pub AreSent : ℕ → Clocks → Server → Row → ℕ → List machine.Grant → State → State → Type 0
AreSent i clocks s row made came v v' =
    (v' ≡ v)
    ⊎ ((g : Grant) × (moment : ℕ) × (rows.grant s.terms row made ≡ Some g) × (g.incarnation ≡ i)
    × (came ≡ [] → ⊥) × (g.stamp ≡ clocks.client moment)
    × ((asked : ℕ) → Waits asked came → g.stamp ≡ clocks.client asked → Waits moment came)
    × (v' ≡ machine.confirmed v (record { moment = moment; length = g.length })))

-- What a call does to the incarnation. It counts as evicted once the table has it evicted, once it makes room for
-- another one without anybody's word that it is over, and if another one is registered while it may answer
abbrev pub Happens : ℕ → Clocks → Server → Row → Row → State → Call → State → Type 0
Happens i clocks s row row' v (Signs x commits) v' = IsHeard i clocks s row x v v'
Happens i clocks s row row' v (TakesTerms made) v' = AreSent i clocks s row made v.waiting v v'
Happens i clocks s row row' v (Admits j) v' =
    v' ≡ with_standing v (ends i row row' && not (counts_as_over s row j)) Evicted
Happens i clocks s row row' v (Registers j) v' =
    (begins i row row' ≡ true → v.says_hello ≡ true)
    × (v' ≡ with_registered s (with_standing v (ends i row row') Evicted) (begins i row row'))
Happens i clocks s row row' v Leaves v' = v' ≡ v
Happens i clocks s row row' v Evicts v' = v' ≡ with_standing v (ends i row row') Evicted
Happens i clocks s row row' v (Succeeds j) v' = v' ≡ with_standing v (ends i row row') Evicted
Happens i clocks s row row' v (Revises longest old) v' = v' ≡ v

-- what the client's host and the network do, and time
abbrev pub IsClients : machine.Event → Type 0
IsClients (machine.Pass n) = Unit {0}
IsClients machine.Connect = Unit {0}
IsClients machine.Say = Unit {0}
IsClients (machine.Hear sign) = ⊥
IsClients (machine.Confirm g) = ⊥
IsClients (machine.Take g) = Unit {0}
IsClients machine.Hello = Unit {0}
IsClients machine.Register = ⊥
IsClients machine.Stop = ⊥
IsClients (machine.Start m terms) = ⊥
IsClients machine.Revise = ⊥
IsClients machine.Evict = ⊥

pub data Step : Type 0 where
  Client : machine.Event → Step
  Calls : Call → Step

-- of the server in the state only its terms and its machine count: what it knows is the row
abbrev pub Goes : Limits → Clocks → ℕ → Server → Row → State → Step → Row → State → Type 0
Goes limits clocks i s row v (Client e) row' v' =
    IsClients e × machine.Goes limits clocks v e v' × (row' ≡ row)
Goes limits clocks i s row v (Calls call) row' v' =
    (row' ≡ after s row (clocks.server s.machine v.now) call) × Happens i clocks s row row' v call v'

abbrev pub Runs : Limits → Clocks → ℕ → Server → Row → State → List Step → Row → State → Type 0
Runs limits clocks i s row v [] row' v' = (row' ≡ row) × (v' ≡ v)
Runs limits clocks i s row v (step ∷ steps) row' v' =
    (mid : Row) × (between : State) × Goes limits clocks i s row v step mid between
    × Runs limits clocks i s mid between steps row' v'

-- as the server starts, the row has of the incarnation what the store has
pub record Starts (i : ℕ) (s : Server) (w : State) (row : Row) : Type 0 where
  pub unknown : row.registered < i → w.standing ≡ Unknown
  pub present : row.registered ≡ i → (until : Until) → row.standing ≡ Present until →
      (w.standing ≡ Registered) × (until ≡ s.until)
