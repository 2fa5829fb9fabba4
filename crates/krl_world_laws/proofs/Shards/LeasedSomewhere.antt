-- A process that has leases at two shards hands over what it read of both.
use Rattle.std.proofs.Common.{◌≡◌, ℕ, Bool, true, ◌&&◌, inl, Some, List, [], ◌∷◌, refl, sym, ap, subst, arith, nat_eq, if◌then◌else◌, ◌∙◌}
use Rattle.std.proofs.lemmas.Bool.{eq-eqb}
use Rattle.std.specs.FinMap as map
use Rattle.krl_client.specs.Clients.{Client}
use Rattle.krl_world.specs.States.{State, client_of, index_of}
use Rattle.krl_world.proofs.Examples.Running.{k3, w6, reached}
use Rattle.krl_leases.specs.Lengths.{stretched}
use Rattle.krl_leases.specs.Clocks.{Limits, Agree, MayGrant}
use Rattle.krl_leases.specs.Laws.{Answers, one_second, at_most, one_clock}
use Rattle.krl_leases.specs.Machine.{Sign, Grant, Server, State as Lease, Event as LeaseEvent, Pass, Connect, Say, Hear, Confirm, Take, Start, begun as no_lease, connected, said, heard, confirmed, taken, started, running, Runs as LeaseRuns}
use Rattle.krl_leases.specs.Servers.{kept_from, signed}
use Rattle.krl_leases.proofs.Lengths.{steady_agree}
use Rattle.krl_world_laws.specs.Systems.{System, worlds}
use Rattle.krl_world_laws.specs.Readers.{Rows, AnswersScan}
use Rattle.krl_world_laws.specs.Leases.Leased.{Machines, Leased, Event, Passes, Leases, set_lease, is_own, Runs, unleased}
use Rattle.krl_world_laws.specs.Shards.Leased.{Shard, HandsOver}
use Rattle.krl_world_laws.specs.Shards.Somewhere.{two, halves, HandsOverSomewhere}
use Rattle.krl_world_laws.proofs.Shards.Somewhere.{follow, answers}

-- A lease of a process

agree : Agree at_most one_clock
agree = steady_agree at_most one_clock (record { rises = λ m x y h. h; steady = λ m x y h. omega arith })

may_grant : MayGrant at_most one_second
may_grant = record { drift = omega arith; number = omega arith; length = inl (omega arith) }

abbrev sign : Sign
sign = record { moment = 1; said = 0 }

abbrev grant : Grant
grant = record { moment = 1; length = 1000000000 }

abbrev to_answer : List LeaseEvent
to_answer = Start 0 one_second ∷ Connect ∷ Say ∷ Hear sign ∷ Confirm grant ∷ Take grant ∷ []

abbrev l1 : Lease
l1 = record no_lease { now = 1 }

abbrev l2 : Lease
l2 = started one_clock l1 0 one_second

abbrev server : Server
server = running one_clock l1 (kept_from l1.kept one_second) 0 one_second

abbrev l3 : Lease
l3 = connected l2

abbrev l4 : Lease
l4 = said l3

abbrev l5 : Lease
l5 = heard one_clock l4 server sign

abbrev heard_server : Server
heard_server = record server { until = signed one_second server.until 0 1 }

abbrev l6 : Lease
l6 = confirmed l5 grant

abbrev l7 : Lease
l7 = taken one_clock l6 grant

takes_terms : LeaseRuns at_most one_clock l1 to_answer l7
unfolding stretched
takes_terms = (
  l2,
  (refl, may_grant, refl),
  (
    l3,
    (server, refl, refl),
    (
      l4,
      (refl, refl),
      (
        l5,
        (server, refl, inl refl, (λ e. cc), refl),
        (l6, (heard_server, refl, inl refl, refl), (l7, (inl refl, refl, refl), refl)),
      ),
    ),
  ),
)

answers_then : Answers one_clock l7
answers_then = refl

-- In a system

abbrev AllOwn : List LeaseEvent → Type 0
AllOwn [] = Unit {0}
AllOwn (e ∷ es) = (is_own e ≡ true) × AllOwn es

set_here : (leases : ℕ → ℕ → Lease) (c i : ℕ) (l : Lease) → set_lease leases c i l c i ≡ l
set_here leases c i l = ap (λ b. if b && nat_eq i i then l else leases c i) (eq-eqb c c refl) ∙ ap (λ b. if b then l else leases c i) (eq-eqb i i refl)

-- what one lease does by itself the system does, and its world stays
module _ (s : System) (limits : Limits) (m : Machines) (c i : ℕ) where
  leased_runs : (w : Leased s) (es : List LeaseEvent) (l : Lease) → AllOwn es → LeaseRuns limits (m c i) (w.leases c i) es l →
      (v : Leased s) × (gs : List Event) × Runs s limits m w gs v × (v.world ≡ w.world) × (v.leases c i ≡ l)
  leased_runs w [] l own r = (w, [], refl, refl, sym r)
  leased_runs w (e ∷ es) l own r =
      let mid : Leased s = record { world = w.world; leases = set_lease w.leases c i r.0 } in
      let rest = leased_runs mid es l own.1 (subst (λ x. LeaseRuns limits (m c i) x es l) (sym (set_here w.leases c i r.0)) r.2) in
      (rest.0, Leases c i e ∷ rest.1, (mid, (own.0, refl, (r.0, r.1, refl)), rest.2), rest.3, rest.4)

abbrev clocks : Machines
clocks c i = one_clock

abbrev later : Leased worlds
later = record { world = w6; leases = λ c i. l1 }

with_terms : (v : Leased worlds) × (gs : List Event) × Runs worlds at_most clocks later gs v × (v.world ≡ w6) × (v.leases 0 k3.incarnation ≡ l7)
with_terms = leased_runs worlds at_most clocks 0 k3.incarnation later to_answer l7 (refl, (refl, (refl, (refl, (refl, (refl, tt)))))) takes_terms

abbrev shard : Shard worlds
shard = record { limits = at_most; machines = clocks; world = with_terms.0; client = 0; incarnation = k3.incarnation }

hands : (lo hi : ℕ) (rows : Rows) → AnswersScan w6 0 lo hi rows → HandsOver worlds shard lo hi rows
hands lo hi rows a = record {
  reading = with_terms.0;
  before = [];
  since = refl;
  held = λ r. refl;
  reads = inl (subst (λ (w : State). (k : Client) × (client_of w 0 ≡ Some k) × (k.incarnation ≡ k3.incarnation)) (sym with_terms.3) (k3, refl, refl), subst (λ (w : State). AnswersScan w 0 lo hi rows) (sym with_terms.3) a);
  checking = with_terms.0;
  between = [];
  until = refl;
  may = subst (Answers one_clock) (sym with_terms.4) answers_then;
}

pub hands_over : HandsOverSomewhere
hands_over = (
  λ i. shard,
  index_of w6,
  record {
    reached = λ i le. (λ c n. agree, (w6, reached, Passes 1 ∷ with_terms.1, (later, (refl, λ c n. refl), with_terms.2)));
    together = λ i k le at. ap (λ w. map.get (index_of w) k) (sym with_terms.3);
    parts = follow;
    hands = (
      answers.0,
      answers.1,
      hands 0 5 answers.0 answers.2,
      (answers.3.0, answers.3.1, hands 5 11 answers.3.0 answers.3.2, answers.3.3, answers.3.4),
      answers.4,
    );
  },
)
