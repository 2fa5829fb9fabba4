-- A run in which a client answers, and is evicted.
use Rattle.std.proofs.Common.{inl, true, List, [], ◌∷◌, refl, arith}
use Rattle.krl_leases.specs.Lengths.{stretched}
use Rattle.krl_leases.specs.Clocks.{Agree, MayGrant}
use Rattle.krl_leases.specs.Machine.{Sign, Grant, Server, State, Event, Pass, Connect, Say, Hear, Confirm, Take, Hello, Register, Start, Evict, begun, connected, said, heard, confirmed, taken, registered, started, running, Evicted}
use Rattle.krl_leases.specs.Servers.{kept_from, signed, since}
use Rattle.krl_leases.specs.Laws.{EvictsSomewhere, one_second, at_most, one_clock}
use Rattle.krl_leases.proofs.Lengths.{steady_agree}

agree : Agree at_most one_clock
agree = steady_agree at_most one_clock (record { rises = λ m x y h. h; steady = λ m x y h. omega arith })

may : MayGrant at_most one_second
may = record { drift = omega arith; number = omega arith; length = inl (omega arith) }

abbrev sign : Sign
sign = record { moment = 1; said = 0 }

abbrev grant : Grant
grant = record { moment = 1; length = 1000000000 }

abbrev to_answer : List Event
to_answer = Pass 1 ∷ Start 0 one_second ∷ Connect ∷ Say ∷ Hear sign ∷ Confirm grant ∷ Take grant ∷ Hello ∷ Register ∷ []

abbrev s1 : State
s1 = record begun { now = 1 }

abbrev s2 : State
s2 = started one_clock s1 0 one_second

abbrev server1 : Server
server1 = running one_clock s1 (kept_from s1.kept one_second) 0 one_second

abbrev s3 : State
s3 = connected s2

abbrev s4 : State
s4 = said s3

abbrev s5 : State
s5 = heard one_clock s4 server1 sign

abbrev server2 : Server
server2 = record server1 { until = signed one_second server1.until 0 1 }

abbrev s6 : State
s6 = confirmed s5 grant

abbrev s7 : State
s7 = taken one_clock s6 grant

abbrev s8 : State
s8 = record s7 { says_hello = true }

abbrev s9 : State
s9 = registered one_clock s8 server2

abbrev server3 : Server
server3 = record server2 { until = since one_second 1 }

abbrev s10 : State
s10 = record s9 { now = 1250000001 }

pub evicts_somewhere : EvictsSomewhere
unfolding stretched
evicts_somewhere = (
  to_answer,
  Pass 1250000000 ∷ Evict ∷ [],
  s9,
  record s10 { standing = Evicted },
  agree,
  (
    s1,
    refl,
    (
      s2,
      (refl, may, refl),
      (
        s3,
        (server1, refl, refl),
        (
          s4,
          (refl, refl),
          (
            s5,
            (server1, refl, inl refl, (λ e. cc), refl),
            (
              s6,
              (server2, refl, inl refl, refl),
              (s7, (inl refl, refl, refl), (s8, (refl, refl, refl), (s9, (server2, refl, refl, refl, refl), refl))),
            ),
          ),
        ),
      ),
    ),
  ),
  refl,
  (s10, refl, (record s10 { standing = Evicted }, (server3, refl, refl, refl, refl), refl)),
  refl,
)
