-- What holds of a server whose host does what its lease table answers.
use Rattle.std.specs.Prelude.{◌≡◌, ◌<◌, ℕ, Bool, false, List, None}
use Rattle.krl_leases.specs.declared.length.Terms.{Terms}
use Rattle.krl_leases.specs.Clocks.{Clocks, Limits, Agree, MayGrant}
use Rattle.krl_leases.specs.Laws.{Answers, one_second, at_most, one_clock}
use Rattle.krl_leases.specs.Machine as machine
use Rattle.krl_leases.specs.Machine.{Server, State, Event, Unknown, Registered, Evicted}
use Rattle.krl_leases.specs.Servers.{kept_from}
use Rattle.krl_lease_table.specs.declared.row.Row.{Row}
use Rattle.krl_lease_table.specs.Rows as rows
use Rattle.krl_lease_table.specs.Tables as tables
use Rattle.krl_lease_table.specs.Systems.{Step, Starts, Runs}
use Rattle.krl_lease_table.specs.Replaced.{Late, RunsLate}

-- the server that starts after this, on the machine of this number
abbrev pub server_of : Clocks → State → ℕ → Terms → Server
server_of clocks w number terms = machine.running clocks w (kept_from w.kept terms) number terms

-- A server starts after these events. It has this row of the client, and these steps lead to another row and state
pub record IsHistory
    (limits : Limits) (clocks : Clocks) (i number : ℕ) (terms : Terms) (es : List Event) (w : State) (row : Row)
    (steps : List Step) (row' : Row) (v : State) : Type 0 where
  pub before : machine.Runs limits clocks machine.begun es w
  pub alone : w.server ≡ None
  pub may : MayGrant limits terms
  pub starts : Starts i (server_of clocks w number terms) w row
  pub run :
      Runs limits clocks i (server_of clocks w number terms) row (machine.started clocks w number terms) steps row' v

abbrev pub AnswersIfEvicted : Clocks → State → Type 0
AnswersIfEvicted clocks v = (v.standing ≡ Evicted) × Answers clocks v

-- Whatever happened before this server started, whichever calls of its table its host makes, and whatever the network
-- does: an incarnation that the table has evicted answers nothing any more. Nor does one that is evicted after another
-- server has replaced this one, whatever the host still does with its table: the store has made n of its commits
abbrev pub EvictedAnswerNothing : Type 0
EvictedAnswerNothing =
    (limits : Limits) (clocks : Clocks) (i number : ℕ) (terms : Terms) (es : List Event) (w : State) (row row' : Row)
    (steps : List Step) (v : State) → Agree limits clocks →
    IsHistory limits clocks i number terms es w row steps row' v →
    (AnswersIfEvicted clocks v → ⊥)
    × ((n : ℕ) (late : List Late) (u : State) →
    RunsLate limits clocks i (server_of clocks w number terms) n row' v.waiting (machine.stopped v) late u →
    AnswersIfEvicted clocks u → ⊥)

-- A history of the law leads to where a client answers by terms that the table gave. More steps lead to where it is
-- evicted, and so do others after another server has replaced this one: so the law is not vacuous. All clocks are one
abbrev pub EvictsSomewhere : Type 0
EvictsSomewhere =
    (es : List Event) × (w : State) × (row mid row' : Row) × (steps more : List Step) × (v v' : State)
    × (late : List Late) × (u : State) × Agree at_most one_clock
    × IsHistory at_most one_clock 1 0 one_second es w row steps mid v × Answers one_clock v
    × Runs at_most one_clock 1 (server_of one_clock w 0 one_second) mid v more row' v' × (v'.standing ≡ Evicted)
    × RunsLate at_most one_clock 1 (server_of one_clock w 0 one_second) 2 mid v.waiting (machine.stopped v) late u
    × (u.standing ≡ Evicted)

-- As a server opens its table over what the store has of a client, the row starts as the law above asks for: the
-- incarnation j is the one that was registered last, and it has left or has not
abbrev pub StartsAsStored : Type 0
StartsAsStored =
    (clocks : Clocks) (w : State) (number : ℕ) (terms : Terms) (i j : ℕ) (has_left : Bool) →
    (j < i → w.standing ≡ Unknown) → (j ≡ i → has_left ≡ false → w.standing ≡ Registered) →
    Starts i (server_of clocks w number terms) w
    (rows.opened (kept_from w.kept terms).longest terms (clocks.server number w.now)
    (tables.store_row terms j has_left w.kept.is_unleased))
