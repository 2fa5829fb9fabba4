-- A client sends a sign, takes the terms that the table gives, registers and answers. Its lease ends, and it is evicted:
-- by this server, or by another one that has replaced it.
use Rattle.std.proofs.Common.{◌≡◌, ◌<◌, ℕ, inl, inr, true, false, List, [], ◌∷◌, refl, arith}
use Rattle.krl_leases.specs.Lengths.{stretched}
use Rattle.krl_leases.specs.Clocks.{Agree, MayGrant}
use Rattle.krl_leases.specs.Machine as machine
use Rattle.krl_leases.specs.Machine.{Server, State, Event, Evicted}
use Rattle.krl_leases.specs.Servers.{kept_from, kept_registered}
use Rattle.krl_leases.specs.Laws.{one_second, at_most, one_clock}
use Rattle.krl_leases.proofs.Lengths.{steady_agree}
use Rattle.krl_lease_table.specs.declared.sign.Older.TheVariants as older
use Rattle.krl_lease_table.specs.declared.sign.Sign.{Sign}
use Rattle.krl_lease_table.specs.declared.sign.Grant.{Grant}
use Rattle.krl_lease_table.specs.declared.row.Row.{Row}
use Rattle.krl_lease_table.specs.Rows as rows
use Rattle.krl_lease_table.specs.Tables as tables
use Rattle.krl_lease_table.specs.Systems.{Step, Client, Calls, Signs, TakesTerms, Registers, Evicts}
use Rattle.krl_lease_table.specs.Replaced as replaced
use Rattle.krl_lease_table.specs.Laws.{EvictsSomewhere, server_of}
use Rattle.krl_lease_table.proofs.Starting.{starts_as_stored}

agree : Agree at_most one_clock
agree = steady_agree at_most one_clock (record { rises = λ m x y h. h; steady = λ m x y h. omega arith })

may : MayGrant at_most one_second
may = record { drift = omega arith; number = omega arith; length = inl (omega arith) }

-- before the server starts, only time has passed
abbrev before : State
before = record machine.begun { now = 1 }

abbrev server : Server
server = server_of one_clock before 0 one_second

-- the store knows nobody
abbrev opened : Row
opened = rows.opened (kept_from before.kept one_second).longest one_second 1 (tables.store_row one_second 0 false before.kept.is_unleased)

differ : {A : Type 0} (j i : ℕ) → j < i → j ≡ i → A
differ j i l e = absurd (omega arith)

-- one commit has begun as the sign comes
abbrev sign : Sign
sign = record { incarnation = 1; stamp = 1; said = 0; older = older.Unknown }

abbrev terms : machine.Grant
terms = record { moment = 1; length = 1000000000 }

abbrev given : Grant
given = record { incarnation = 1; stamp = 1; length = 1000000000 }

abbrev signed : Row
signed = rows.signed one_second opened sign 1 1

abbrev granted : Row
granted = rows.granted signed 2

abbrev registered : Row
registered = rows.registered one_second granted 1 1

abbrev evicted : Row
evicted = rows.evicting registered 1250000001

abbrev started : State
started = machine.started one_clock before 0 one_second

abbrev connected : State
connected = machine.connected started

abbrev said : State
said = machine.said connected

abbrev waits : State
waits = record said { waiting = terms ∷ [] }

abbrev sent : State
sent = machine.confirmed waits terms

abbrev taken : State
taken = machine.taken one_clock sent terms

abbrev greets : State
greets = record taken { says_hello = true }

abbrev answers : State
answers = record greets { standing = machine.Registered; kept = kept_registered greets.kept one_second }

abbrev later : State
later = record answers { now = 1250000001 }

abbrev ended : State
ended = record later { standing = Evicted }

-- or another server starts, while a sign still comes to the one before
abbrev stopped : State
stopped = machine.stopped answers

abbrev other : Server
other = server_of one_clock stopped 1 one_second

abbrev restarted : State
restarted = machine.started one_clock stopped 1 one_second

abbrev signed_late : Row
signed_late = rows.signed one_second registered sign 2 1

abbrev late : State
late = record restarted { now = 1250000001 }

abbrev to_answer : List Step
to_answer =
    Client machine.Connect ∷ Client machine.Say ∷ Calls (Signs sign 1) ∷ Calls (TakesTerms 2) ∷ Client (machine.Take terms)
    ∷ Client machine.Hello ∷ Calls (Registers 1) ∷ []

pub evicts_somewhere : EvictsSomewhere
unfolding stretched
evicts_somewhere = (
  machine.Pass 1 ∷ [],
  before,
  opened,
  registered,
  evicted,
  to_answer,
  Client (machine.Pass 1250000000) ∷ Calls Evicts ∷ [],
  answers,
  ended,
  replaced.Elsewhere (machine.Start 1 one_second) ∷ replaced.There (Signs sign 2) ∷ replaced.There (TakesTerms 2) ∷ replaced.Elsewhere (machine.Pass 1250000000) ∷ replaced.Elsewhere machine.Evict ∷ [],
  record late { standing = Evicted },
  agree,
  record {
    before = (before, refl, refl);
    alone = refl;
    may = may;
    starts = starts_as_stored one_clock before 0 one_second 1 0 false (λ l. refl) (λ e l. differ 0 1 (omega arith) e);
    run = (
      opened,
      connected,
      (tt, (server, refl, refl), refl),
      (
        opened,
        said,
        (tt, (refl, refl), refl),
        (
          signed,
          waits,
          (refl, inr (record { moment = 1; said = 0 }, inl refl, refl, refl, refl, refl, refl)),
          (
            granted,
            sent,
            (refl, inr (given, 1, refl, refl, (λ e. cc), refl, (λ asked w e. (1000000000, inl refl)), refl)),
            (
              granted,
              taken,
              (tt, (inl refl, refl, refl), refl),
              (granted, greets, (tt, (refl, refl, refl), refl), (registered, answers, (refl, ((λ e. refl), refl)), (refl, refl))),
            ),
          ),
        ),
      ),
    );
  },
  refl,
  (registered, later, (tt, refl, refl), (evicted, ended, (refl, refl), (refl, refl))),
  refl,
  (
    registered,
    terms ∷ [],
    restarted,
    ((refl, may, refl), refl, refl),
    (
      signed_late,
      terms ∷ terms ∷ [],
      restarted,
      (refl, ((omega arith, inr (1, refl, refl, refl)), refl)),
      (
        signed_late,
        terms ∷ terms ∷ [],
        restarted,
        (refl, (omega arith, refl, inl refl)),
        (
          signed_late,
          terms ∷ terms ∷ [],
          late,
          (refl, refl, refl),
          (signed_late, terms ∷ terms ∷ [], record late { standing = Evicted }, ((other, refl, refl, refl, refl), refl, refl), refl),
        ),
      ),
    ),
  ),
  refl,
)
