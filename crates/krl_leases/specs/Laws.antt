-- What holds of leases.
use Rattle.std.specs.Prelude.{◌≡◌, true, List}
use Rattle.krl_leases.specs.declared.length.Terms.{Terms}
use Rattle.krl_leases.specs.Clients.{holds}
use Rattle.krl_leases.specs.Clocks.{Clocks, Limits, Agree, AreSteady}
use Rattle.krl_leases.specs.Machine.{State, Event, Evicted, begun, Runs}

-- the client reads its clock, and may hand over what it read from its cache before
abbrev pub Answers : Clocks → State → Type 0
Answers clocks w = holds w.lease (clocks.client w.now) ≡ true

-- an evicted incarnation answers nothing any more, whatever was lost, delayed or repeated, whoever stood still, and
-- whichever servers ran on whichever machines
abbrev pub EvictedAnswerNothing : Type 0
EvictedAnswerNothing =
    (limits : Limits) (clocks : Clocks) (es : List Event) (w : State) → Agree limits clocks →
    Runs limits clocks begun es w → w.standing ≡ Evicted → Answers clocks w → ⊥

-- clocks that go steadily agree
abbrev pub SteadyAgree : Type 0
SteadyAgree = (limits : Limits) (clocks : Clocks) → AreSteady limits clocks → Agree limits clocks

-- Somewhere a client answers, and later is evicted: so nothing of this is vacuous. Its clock is the server's

abbrev pub one_second : Terms
one_second = record { length = 1000000000; drift = 25 }

abbrev pub at_most : Limits
at_most = record { drift = 25; longest = 1000000000 }

abbrev pub one_clock : Clocks
one_clock = record { client = λ x. x; server = λ m x. x }

abbrev pub EvictsSomewhere : Type 0
EvictsSomewhere =
    (es fs : List Event) × (v w : State) × Agree at_most one_clock × Runs at_most one_clock begun es v
    × Answers one_clock v
    × Runs at_most one_clock v fs w × (w.standing ≡ Evicted)
