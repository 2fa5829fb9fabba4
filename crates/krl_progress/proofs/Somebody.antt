-- A client waits for a lock in undisturbed rounds, and is answered.
use Rattle.krl_progress.proofs.Names.{◌≡◌, ◌≢◌, ℕ, suc, ◌<◌, ◌∙◌, Bool, true, false, nat_eq, if◌then◌else◌, ne_eqb, eq_cases, Option, Some, None, List, [], ◌∷◌, length, refl, sym, ap, subst, arith, same_Some, END}
use Rattle.krl_progress.proofs.Names.{begun, ClientPlace, never_started, Client, Server, Record, record_of, Step, Up, State, unused, fresh, opened, client_of, with_client, Takes, IsReachable, locked}
use Rattle.krl_modes.specs.declared.mode.Mode.TheVariants as mode
use Rattle.krl_modes.specs.Spans.{Bounds}
use Rattle.krl_durable.specs.Registers.{new_record}
use Rattle.krl_client.specs.Clients.{is_waiting, meets_pin}
use Rattle.krl_steps.specs.declared.step.Step.TheVariants as step
use Rattle.krl_steps.specs.declared.step.Command.TheVariants as command
use Rattle.krl_steps.specs.declared.answer.Answer.TheVariants as answered
use Rattle.krl_world.specs.Steps as steps
use Rattle.krl_world.proofs.Reaching.{runs_reached}
use Rattle.krl_world.proofs.Examples.Worked.{two, lock, joined}
use Rattle.krl_world.proofs.Examples.Running.{m, k1, w1, w2, w3, starts, hears_hello, joins, opens}
use Rattle.krl_progress.specs.Standstills.{HasPart, holds, waits}
use Rattle.krl_progress.specs.Locks.{IsUndisturbed, IsManned, HasRoom, SomebodyIsAnswered}
use Rattle.krl_progress.proofs.Recovers.{same_up}
use Rattle.krl_progress.proofs.Standings.{standing}
use Rattle.krl_progress.proofs.CallsBack.{in_order}
use Rattle.krl_progress.specs.Blocks.{RoundsWhile}
use Rattle.krl_progress.proofs.Calming.{forget}
use Rattle.krl_progress.proofs.Growing.{rounds_grow}
use Rattle.krl_progress.proofs.Paying.{IsGood, rounds_low}
use Rattle.krl_progress.proofs.LocksAnswered.{locks_are_answered}
use Rattle.krl_progress.proofs.QuietRounds.{undisturbed_rounds_can_be_made}

-- The client has joined, and asks for a lock

abbrev k2 : Client
k2 = locked k1 5 6 mode.RangeSS

abbrev w4 : State
w4 = with_client w3 0 (Some k2) (lock ∷ [])

asks : Takes w3 (step.Command 0 (command.Lock 5 6 mode.RangeSS)) answered.Done w4
unfolding opened
asks = (refl, (k1, refl, (refl, refl)))

abbrev run : List Step
run = step.StartClient 0 ∷ step.Deliver 1 ∷ step.Deliver 2 ∷ step.Command 0 (command.Lock 5 6 mode.RangeSS) ∷ []

reached : IsReachable w4
unfolding opened
reached = runs_reached (fresh two) w4 run (steps.opens (unused two) opens) (answered.Done, w1, starts, (answered.Done, w2, hears_hello, (answered.Done, w3, joins, (answered.Done, w4, asks, refl))))

-- nobody else runs

abbrev begins : ClientPlace
begins = record { last_incarnation = 1; client = Some (begun 0 1) }

abbrev joins_at : ClientPlace
joins_at = record { last_incarnation = (w2.places 0).last_incarnation; client = Some k1 }

abbrev asks_at : ClientPlace
asks_at = record { last_incarnation = (w3.places 0).last_incarnation; client = Some k2 }

nobody_else : (c : ℕ) → c ≢ 0 → client_of w4 c ≡ None
unfolding opened
nobody_else c ne = ap (λ (t : Bool). (if t then asks_at else (if t then joins_at else (if t then begins else never_started (unused two) c))).client) (ne_eqb c 0 ne)

-- Only this client runs, and the server has registered it: nobody holds or waits for anything there

pub nobody : (c : ℕ) → HasPart (joined m) c → ⊥
nobody c (holds n ne) = ne (by_test (nat_eq c 0))
  where
    by_test : (t : Bool) → (if t then mode.N else mode.N) ≡ mode.N
    by_test true = refl
    by_test false = refl
nobody c (waits n u i e) = i

module _ (u : State) (k : Client) (up : u.server ≡ Up (joined m)) (first : k.incarnation ≡ 1) (is : client_of u 0 ≡ Some k) (others : (c : ℕ) → c ≢ 0 → client_of u c ≡ None) where
  alone : (c : ℕ) (l : Client) → client_of u c ≡ Some l → l ≡ k
  alone c l e = eq_cases c 0
      (λ z. sym (same_Some k l (sym is ∙ ap (λ d. client_of u d) (sym z) ∙ e)))
      (λ ne. absurd (let bad : None ≡ Some l = sym (others c ne) ∙ e in cc))

  registered : (c : ℕ) (r : Record) → record_of (joined m).durable.register c ≡ Some r → (l : Client) × (client_of u c ≡ Some l) × (l.incarnation ≡ r.incarnation)
  registered c r e = eq_cases c 0
      (λ z. (k, ap (λ d. client_of u d) z ∙ is, first ∙ ap (λ (x : Record). x.incarnation) (same_Some (new_record 1) r (ap (λ d. record_of (joined m).durable.register d) (sym z) ∙ e))))
      (λ ne. absurd (let bad : None ≡ Some r = sym (ap (λ (t : Bool). let x : Option Record = if t then Some (new_record 1) else None in x) (ne_eqb c 0 ne)) ∙ e in cc))

  pub manned : IsManned u
  manned = record {
    server = joined m;
    up = up;
    serves = refl;
    here = λ d p. absurd (nobody d p);
    registered = λ c r e here. registered c r e;
  }

  pub has_room : ((span : Bounds) → meets_pin k span ≡ false) → suc (suc k.seen) < END → HasRoom u
  has_room unpinned room s c l at e = subst (λ (x : Client). ((span : Bounds) → meets_pin x span ≡ false) × (x.epoch ≡ s.durable.epoch → suc (suc x.seen) < END)) (sym (alone c l e)) (unpinned, (λ now. room))

-- In such rounds

-- the client of this number runs on, and the request of k is answered
pub record IsAnswered (v : State) (c : ℕ) (k : Client) : Type 0 where
  pub client : Client
  pub runs : client_of v c ≡ Some client
  pub same : client.req ≡ k.req
  pub no_longer : is_waiting client.asked ≡ false

pub answered_in : (reqs writes : ℕ → ℕ) (w v : State) (c : ℕ) (k : Client) → IsReachable w → (u : IsUndisturbed reqs writes w) → client_of w c ≡ Some k → k.epoch ≡ u.server.durable.epoch → RoundsWhile (IsUndisturbed reqs writes) 1161 (length w.sent) w v → IsAnswered v c k
answered_in reqs writes w v c k reach u runs mine rounds =
    let on = rounds_grow 1161 (length w.sent) w v c k runs (forget (IsUndisturbed reqs writes) 1161 (length w.sent) w v rounds) in
    let e = u.server.durable.epoch in
    let some = (in_order w u.server reach u.up).0.begun in
    let first : IsGood e reqs writes some w = record { reached = reach; alone = u; now = refl } in
    let good = (rounds_low e reqs writes some 1161 (length w.sent) w v first rounds).0 in
    let server = good.alone.server in
    let low = on.grows.epoch in
    let high = (standing v server c on.client good.reached good.alone.up on.runs).epoch in
    let now = good.now in
    let joined : on.client.epoch ≡ server.durable.epoch = omega (arith, mine, low, high, now) in
    record {
      client = on.client;
      runs = on.runs;
      same = (good.alone.undisturbed c on.client on.runs joined).asked ∙ sym (u.undisturbed c k runs mine).asked;
      no_longer = locks_are_answered reqs writes w v server c on.client reach u rounds good.alone.up on.runs joined;
    }

pub somebody_is_answered : SomebodyIsAnswered
unfolding opened
somebody_is_answered =
    let made = undisturbed_rounds_can_be_made w4 1161 reached (manned w4 k2 refl refl refl nobody_else) (has_room w4 k2 refl refl refl nobody_else (λ span. refl) (omega arith)) in
    let u = made.3 in
    let mine = ap (λ (y : Server). y.durable.epoch) (same_up (joined m) u.server u.up) in
    let a = answered_in made.0 made.1 w4 made.2 0 k2 reached u refl mine made.4 in
    record {
      reqs = made.0;
      writes = made.1;
      before = w4;
      reached = reached;
      undisturbed = u;
      waiter = k2;
      runs = refl;
      waits = refl;
      after = made.2;
      rounds = made.4;
      answered = a.client;
      runs_on = a.runs;
      same_request = a.same;
      no_longer = a.no_longer;
    }
