-- Calm rounds leave no lock request untaken: a request that is untaken after two of them was so all the time.
use Rattle.krl_progress.proofs.Names.{◌≡◌, ◌≢◌, ℕ, zero, suc, ◌≤◌, ◌<◌, inl, inr, ◌∙◌, true, false, Some, None, List, [], ◌∷◌, length, refl, sym, ap, subst, arith, eq_cases, eq-eqb, ne_eqb, cond, nat_lt, END}
use Rattle.krl_progress.proofs.Names.{ToServer, ToClient, Client, Server, Step, Answer, Up, Down, State, ClientPlace, client_of, with_client, served, Runs, Takes, IsReachable, ServerStep, Done, effect, case_of, following, acknowledged, writes, pushes, Lowers, Judges, SeizesLock, AnswersAgain}
use Rattle.krl_modes.proofs.Basics.{not_both}
use Rattle.krl_client.specs.Clients.{is_waiting, begun}
use Rattle.krl_client.specs.Messages.{accepted}
use Rattle.krl_messages.specs.declared.outcome.Outcome.TheVariants as outcome
use Rattle.krl_messages.specs.declared.to_client.PushBody.{PushBody}
use Rattle.krl_steps.specs.declared.applied_write.AppliedWrite.{AppliedWrite}
use Rattle.krl_server.specs.declared.session.Session.{Session}
use Rattle.krl_server.specs.Servers.{incarnation_of, incarnation_or_0}
use Rattle.krl_server.specs.Effects as effects
use Rattle.krl_server.proofs.Tests.{if_both}
use Rattle.krl_server.proofs.Cased.{by_said}
use Rattle.krl_server.proofs.Updates.{session_here, record_here}
use Rattle.krl_world.proofs.Refinement.ServerMoves.{way}
use Rattle.krl_progress.specs.Rounds.{loses_a_node}
use Rattle.krl_progress.specs.Blocks.{Throughout, RoundsWhile}
use Rattle.krl_progress.specs.Standstills.{IsTaken, IsAtRest, IsQuiet}
use Rattle.krl_progress.specs.Calm.{HasAsked, IsCalm, SomebodyMovesOnIn}
use Rattle.krl_progress.proofs.Moves.{Moves, moves, client_goes_on, some_is}
use Rattle.krl_progress.proofs.Standings.{standing}
use Rattle.krl_progress.proofs.Recovers.{same_up, next_reachable, server_goes_on}
use Rattle.krl_progress.proofs.Doings.{Goes, same, locks, adopts, accepts, Does, rests, goes, starts, ends, reads, nudges, stops, begins, does}
use Rattle.krl_progress.proofs.Seated.{not_waiting_on}
use Rattle.krl_progress.proofs.Awaited.{accepted_seen}
use Rattle.krl_progress.proofs.Knowing as know
use Rattle.krl_progress.proofs.Knowing.{Asks, other_session}
use Rattle.krl_progress.proofs.Agreed.{agrees, by_place, new_place}
use Rattle.krl_progress.proofs.Sinking.{same_incarnation}
use Rattle.krl_progress.proofs.Calming.{IsSafe, run_quiet, three_behind, quiet_now, later_while, waiters_move_on}
use Rattle.krl_progress.proofs.Standstill.{ends_after}
use Rattle.krl_progress.proofs.Answering.{runs_longer}
use Rattle.krl_progress.proofs.Taking.{IsUntaken, taken_in_two}

-- Numbers of lock requests do not fall while the client's incarnation stays

abbrev Rises : Server → Server → ℕ → Type 0
Rises s t c = incarnation_of t c ≡ incarnation_of s c → (s.sessions c).last_request ≤ (t.sessions c).last_request

same_request : (s t : Server) (c : ℕ) → (t.sessions c).last_request ≡ (s.sessions c).last_request → Rises s t c
same_request s t c e inc = omega (arith, e)

acked_request : (s : Server) (c : ℕ) → ((acknowledged s c).sessions c).last_request ≡ (s.sessions c).last_request
acked_request s c = ap (λ (z : Session). z.last_request) (session_here s.sessions c (record (s.sessions c) { unacked = None }))

pushes_request : (s : Server) (c : ℕ) (b : PushBody) → ((pushes s c b).server.sessions c).last_request ≡ (s.sessions c).last_request
pushes_request s c b = if_both (λ (x : Done). (x.server.sessions c).last_request ≡ (s.sessions c).last_request) (nat_lt (s.sessions c).last_push END) _ _ (ap (λ (z : Session). z.last_request) (session_here s.sessions c (record (s.sessions c) { last_push = suc (s.sessions c).last_push; unacked = Some b }))) refl

own_request : (s : Server) (m : ToServer) → Rises s (effect s m (case_of s m)).server m.client
own_request s m = let c = m.client in let t = acknowledged s m.client in by_said s m (λ x. Rises s (effect s m x).server m.client) (record {
  ignored = same_request s s m.client refl;
  registers = λ near newer body inc. absurd (let x = ap incarnation_or_0 (record_here s.durable.register m.client (Rattle.krl_durable.specs.Registers.new_record m.incarnation)) in omega (arith, x, newer, inc));
  leaves = λ r from body inc. omega arith;
  tells = same_request s s m.client refl;
  alarms = λ r epoch pieces from body now missing bad. same_request s s m.client refl;
  rebuilds = λ r epoch pieces from body now missing fine inc. omega arith;
  repeats = λ r body served unacked. same_request s s m.client refl;
  acknowledges = λ r request b a. same_request s t m.client (acked_request s m.client);
  lowers = λ r request span keep a. same_request s (effect s m (Lowers span keep)).server m.client (acked_request s m.client);
  waits = λ r request req point hi g a new free near inc.
      let y = ap (λ (z : Session). z.last_request) (session_here t.sessions m.client (record (t.sessions m.client) { last_request = req })) in omega (arith, y, new);
  judges = λ r request number op seizes o a under near new is. same_request s (effect s m (Judges number op o)).server m.client (pushes_request (writes t m.client op o) m.client _ ∙ acked_request s m.client);
  seizes = λ r request number op seizes a under near new may. same_request s (effect s m (SeizesLock number op)).server m.client (pushes_request (writes (acknowledged (effects.seizes s m.client op) m.client) m.client op outcome.Applied) m.client _ ∙ acked_request s m.client);
  answers_again = λ r request number op seizes o a under some last is. same_request s (effect s m (AnswersAgain number op o)).server m.client (pushes_request t m.client _ ∙ acked_request s m.client);
})

effect_rises : (s : Server) (m : ToServer) (c : ℕ) → Rises s (effect s m (case_of s m)).server c
effect_rises s m c = eq_cases c m.client (λ e. subst (Rises s (effect s m (case_of s m)).server) (sym e) (own_request s m))
    (λ ne. same_request s (effect s m (case_of s m)).server c (ap (λ (z : Session). z.last_request) (other_session s m (case_of s m) c ne)))

step_rises : (s t : Server) (m : ToServer) (outs : List ToClient) (c : ℕ) → ServerStep s m t outs → Rises s t c
step_rises s t m outs c step inc =
    let a = ends_after (effect s m (case_of s m)) (following (case_of s m)) t outs step in
    let before = effect_rises s m c (sym (same_incarnation (effect s m (case_of s m)).server t c a.durable) ∙ inc) in
    let after = a.requests c in omega (arith, before, after)

-- A request that is untaken

module _ (reqs seen : ℕ → ℕ) (e : ℕ) where
  abbrev pub Calm : State → Type 0
  Calm = IsCalm (HasAsked reqs) seen

  -- a client of this epoch waits, and the server has yet to take its request
  record IsLate (c : ℕ) (u : State) : Type 0 where
    client : Client
    runs : client_of u c ≡ Some client
    now : client.epoch ≡ e
    waiting : is_waiting client.asked ≡ true
    server : Server
    up : u.server ≡ Up server
    late : client.req ≡ suc (server.sessions c).last_request

  -- a calm world in this epoch
  record IsGood (u : State) : Type 0 where
    reached : IsReachable u
    calm : Calm u
    epoch : calm.server.durable.epoch ≡ e

  good_next : (u v : State) (s : Step) (answer : Answer) → loses_a_node s ≡ false → IsGood u → Calm v → Takes u s answer v → IsGood v
  good_next u v s answer safe h g t = let x = server_goes_on u v h.calm.server s safe h.calm.up (way u v s answer t.1) in record {
    reached = next_reachable u v s answer h.reached t;
    calm = g;
    epoch = ap (λ (y : Server). y.durable.epoch) (same_up g.server x.after (sym g.up ∙ x.up)) ∙ x.epoch ∙ h.epoch;
  }

  -- a client's own step
  goes_back : (u : State) (d : ℕ) (k l : Client) (ms : List ToServer) → IsGood u → (h : IsLate d (with_client u d (Some l) ms)) → Calm (with_client u d (Some l) ms) → client_of u d ≡ Some k → l ≡ h.client → Goes u d k l ms → IsLate d u
  goes_back u d k _ _ q h g i is (same l ms inc epoch see req asked most) = record {
    client = k;
    runs = i;
    now = sym epoch ∙ ap (λ (y : Client). y.epoch) is ∙ h.now;
    waiting = ap is_waiting (sym asked) ∙ ap (λ (y : Client). is_waiting y.asked) is ∙ h.waiting;
    server = h.server;
    up = h.up;
    late = sym req ∙ ap (λ (y : Client). y.req) is ∙ h.late;
  }
  goes_back u d k _ _ q h g i is (locks point hi m free reach) = absurd (
      let a = (q.calm.calm d k i (ap (λ (y : Client). y.epoch) is ∙ h.now ∙ sym q.epoch)).request in
      let b = (g.calm d h.client h.runs (h.now ∙ sym q.epoch ∙ ap (λ (s : Server). s.durable.epoch) (same_up q.calm.server g.server (sym q.calm.up ∙ g.up)))).request in
      let x = ap (λ (y : Client). y.req) is in omega (arith, a, b, x))
  goes_back u d k _ _ q h g i is (adopts epoch ms m at own inc told lt most) = absurd (not_both (is_waiting h.client.asked) h.waiting (sym (ap (λ (y : Client). is_waiting y.asked) is) ∙ not_waiting_on k.asked))
  goes_back u d k _ _ q h g i is (accepts b ms m at own inc told most) = absurd (
      let s = accepted_seen k b in
      let a = (q.calm.calm d k i (sym s.1 ∙ ap (λ (y : Client). y.epoch) is ∙ h.now ∙ sym q.epoch)).accepted in
      let z = (g.calm d h.client h.runs (h.now ∙ sym q.epoch ∙ ap (λ (y : Server). y.durable.epoch) (same_up q.calm.server g.server (sym q.calm.up ∙ g.up)))).accepted in
      let x = ap (λ (y : Client). y.seen) is in let more = s.0 in omega (arith, a, z, x, more))

  read_back : (u : State) (old new : Server) (m : ToServer) (outs : List ToClient) (applied : List AppliedWrite) (c : ℕ) → IsGood u → IsReachable (served u (Up new) outs applied) → u.server ≡ Up old → ServerStep old m new outs → IsGood (served u (Up new) outs applied) → IsLate c (served u (Up new) outs applied) → IsLate c u
  read_back u old new m outs applied c q rv up step g h = record { client = k; runs = h.runs; now = h.now; waiting = h.waiting; server = old; up = up; late = by_request (((agrees u q.reached).knows old c k up h.runs).now here).request }
    where
      k : Client
      k = h.client

      here : h.client.epoch ≡ old.durable.epoch
      here = h.now ∙ sym q.epoch ∙ ap (λ (s : Server). s.durable.epoch) (same_up q.calm.server old (sym q.calm.up ∙ up))

      same_new : h.server ≡ new
      same_new = same_up h.server new (sym h.up)

      same_inc : incarnation_of new c ≡ incarnation_of old c
      same_inc =
          let st = standing u old c h.client q.reached up h.runs in
          let sv = standing (served u (Up new) outs applied) new c h.client rv refl h.runs in
          let some : 1 ≤ h.client.epoch = (let b = st.begun in omega (arith, b, here)) in
          sv.joined some ∙ sym (st.joined some)

      late : h.client.req ≡ suc (new.sessions c).last_request
      late = h.late ∙ ap (λ (s : Server). suc (s.sessions c).last_request) same_new

      taken : h.client.req ≡ (old.sessions c).last_request → ⊥
      taken r = let x = step_rises old new m outs c step same_inc in omega (arith, x, r, late)

      by_request : Asks (old.sessions c) old.rows c h.client → h.client.req ≡ suc (old.sessions c).last_request
      by_request (know.idle w r a z) = absurd (taken r)
      by_request (know.untaken w r a z) = r
      by_request (know.stands w r v y all z) = absurd (taken r)
      by_request (know.comes w r a b f l y) = absurd (taken r)

  does_back : (u v : State) (c : ℕ) → IsGood u → IsGood v → Does u v → IsLate c v → IsLate c u
  does_back u _ c q g rests h = h
  does_back u _ c q g (goes d k l ms i x y) h = by_place u d _ c h.client (IsLate c u)
      (λ f is. subst (λ z. IsLate z u) (sym f) (let there = subst (λ z. IsLate z (with_client u d (Some l) ms)) f h in
      goes_back u d k l ms q there g.calm i (some_is l there.client (sym (place_is u d l ms) ∙ there.runs)) x))
      (λ ne f. record { client = h.client; runs = f; now = h.now; waiting = h.waiting; server = h.server; up = h.up; late = h.late }) h.runs
    where
      place_is : (u : State) (d : ℕ) (l : Client) (ms : List ToServer) → client_of (with_client u d (Some l) ms) d ≡ Some l
      place_is u d l ms = ap (λ b. (cond b (let z : ClientPlace = record { last_incarnation = (u.places d).last_incarnation; client = Some l } in z) (u.places d)).client) (eq-eqb d d refl)
  does_back u _ c q g (starts d down) h = by_place u d (new_place u d) c h.client (IsLate c u)
      (λ f is. absurd (not_both (is_waiting h.client.asked) h.waiting (sym (ap (λ (y : Client). is_waiting y.asked) (some_is (begun d (suc (u.places d).last_incarnation)) h.client is)))))
      (λ ne f. record { client = h.client; runs = f; now = h.now; waiting = h.waiting; server = h.server; up = h.up; late = h.late }) h.runs
  does_back u _ c q g (ends d number ms most silent) h = by_place u d _ c h.client (IsLate c u)
      (λ f is. absurd (let bad : None ≡ Some h.client = is in cc))
      (λ ne f. record { client = h.client; runs = f; now = h.now; waiting = h.waiting; server = h.server; up = h.up; late = h.late }) h.runs
  does_back u _ c q g (reads old new m outs applied up at step) h = read_back u old new m outs applied c q g.reached up step g h
  does_back u _ c q g (nudges s d up) h = record { client = h.client; runs = h.runs; now = h.now; waiting = h.waiting; server = h.server; up = up ∙ h.up; late = h.late }
  does_back u _ c q g (stops s up) h = absurd (let bad : Down s.durable ≡ Up h.server = h.up in cc)
  does_back u _ c q g (begins d up) h = absurd (let bad : Down d ≡ Up q.calm.server = sym up ∙ q.calm.up in cc)

  -- Quiet rounds, backwards

  abbrev Quiet : State → Type 0
  Quiet = IsQuiet (HasAsked reqs) seen

  to_calm : (u : State) → Quiet u → Calm u
  to_calm u q = record { server = q.server; up = q.up; serves = q.serves; here = q.here; calm = λ c k i now. let x = q.at_rest c k i now in record { accepted = x.accepted; request = x.request; unpinned = x.unpinned } }

  untaken_of : (u : State) (c : ℕ) → IsGood u → Quiet u → IsLate c u → IsUntaken c (seen c) (reqs c) u
  untaken_of u c g q h =
      let here = h.now ∙ sym g.epoch ∙ ap (λ (s : Server). s.durable.epoch) (same_up g.calm.server q.server (sym g.calm.up ∙ q.up)) in
      let x = q.at_rest c h.client h.runs here in record {
        server = q.server;
        up = q.up;
        serves = q.serves;
        has = record { client = h.client; runs = h.runs; epoch = here; accepted = x.accepted; last = x.last };
        waiting = h.waiting;
        number = x.request;
        late = sym x.request ∙ h.late ∙ ap (λ (s : Server). suc (s.sessions c).last_request) (same_up h.server q.server (sym h.up ∙ q.up));
      }

  run_good : (steps : List Step) (u v : State) → IsSafe steps → IsGood u → (r : Runs u steps v) → Throughout Calm u steps v r → IsGood v
  run_good [] u v safe g r all = subst IsGood (sym r) g
  run_good (s ∷ steps) u v safe g r all = run_good steps r.1 v (λ z i. safe z (inr i)) (good_next u r.1 s r.0 (safe s (inl refl)) g all.0 r.2) r.3 all.1

  run_back : (steps : List Step) (u v : State) (c : ℕ) → IsSafe steps → IsGood u → (r : Runs u steps v) → Throughout Quiet u steps v r → IsLate c v → IsLate c u × Throughout (IsUntaken c (seen c) (reqs c)) u steps v r
  run_back [] u v c safe g r all h = (subst (IsLate c) r h, r)
  run_back (s ∷ steps) u v c safe g r all h =
      let next = good_next u r.1 s r.0 (safe s (inl refl)) g (to_calm r.1 all.0) r.2 in
      let rest = run_back steps r.1 v c (λ z i. safe z (inr i)) next r.3 all.1 h in
      (does_back u r.1 c g next (does u r.1 s r.0 r.2) rest.0, (untaken_of r.1 c next all.0 rest.0, rest.1))

  -- Calm rounds, once nothing is untaken

  abbrev NoneLate : State → Type 0
  NoneLate u = (c : ℕ) → IsLate c u → ⊥

  taken_now : (u : State) → IsGood u → NoneLate u → IsCalm IsTaken seen u
  taken_now u g none = let q = g.calm in record {
    server = q.server;
    up = q.up;
    serves = q.serves;
    here = q.here;
    calm = λ c k i now. let x = q.calm c k i now in record { accepted = x.accepted; request = taken c k i now; unpinned = x.unpinned };
  }
    where
      taken : (c : ℕ) (k : Client) → client_of u c ≡ Some k → k.epoch ≡ g.calm.server.durable.epoch → IsTaken g.calm.server c k
      taken c k i now = by_request (((agrees u g.reached).knows g.calm.server c k g.calm.up i).now now).request
        where
          by_request : Asks (g.calm.server.sessions c) g.calm.server.rows c k → IsTaken g.calm.server c k
          by_request (know.idle w r a z) = r
          by_request (know.untaken w r a z) = absurd (none c (record { client = k; runs = i; now = now ∙ g.epoch; waiting = w; server = g.calm.server; up = g.calm.up; late = r }))
          by_request (know.stands w r v y all z) = r
          by_request (know.comes w r a b f l y) = r

  run_taken : (steps : List Step) (u v : State) → IsSafe steps → IsGood u → NoneLate u → (r : Runs u steps v) → Throughout Calm u steps v r → NoneLate v × Throughout (IsCalm IsTaken seen) u steps v r
  run_taken [] u v safe g none r all = (subst NoneLate (sym r) none, r)
  run_taken (s ∷ steps) u v safe g none r all =
      let next = good_next u r.1 s r.0 (safe s (inl refl)) g all.0 r.2 in
      let later : NoneLate r.1 = λ c h. none c (does_back u r.1 c g next (does u r.1 s r.0 r.2) h) in
      let rest = run_taken steps r.1 v (λ z i. safe z (inr i)) next later r.3 all.1 in
      (rest.0, (taken_now r.1 next later, rest.1))

  rounds_taken : (m from : ℕ) (u v : State) → IsGood u → NoneLate u → RoundsWhile Calm m from u v → RoundsWhile (IsCalm IsTaken seen) m from u v
  rounds_taken zero from u v g none r = r
  rounds_taken (suc m) from u v g none r =
      let first = run_taken r.0 u r.1 r.2.stays g none r.3 r.4 in
      (r.0, r.1, r.2, r.3, first.1, rounds_taken m (length u.sent) r.1 v (run_good r.0 u r.1 r.2.stays g r.3 r.4) first.0 r.5)

  -- A client that waits continues to wait

  record IsWaiting (c : ℕ) (u : State) : Type 0 where
    client : Client
    runs : client_of u c ≡ Some client
    now : client.epoch ≡ e
    waiting : is_waiting client.asked ≡ true

  goes_waiting : (u : State) (d : ℕ) (k l : Client) (ms : List ToServer) → IsGood u → IsGood (with_client u d (Some l) ms) → (h : IsWaiting d u) → h.client ≡ k → client_of (with_client u d (Some l) ms) d ≡ Some l → Goes u d k l ms → IsWaiting d (with_client u d (Some l) ms)
  goes_waiting u d k _ _ q g h is at (same l ms inc epoch see req asked most) = record { client = l; runs = at; now = epoch ∙ sym (ap (λ (y : Client). y.epoch) is) ∙ h.now; waiting = ap is_waiting asked ∙ sym (ap (λ (y : Client). is_waiting y.asked) is) ∙ h.waiting }
  goes_waiting u d k _ _ q g h is at (locks point hi m free reach) = absurd (not_both (is_waiting k.asked) (sym (ap (λ (y : Client). is_waiting y.asked) is) ∙ h.waiting) free)
  goes_waiting u d k _ ms q g h is at (adopts epoch _ m to own inc told lt most) = absurd (
      let a = (standing (with_client u d (Some _) ms) g.calm.server d _ g.reached g.calm.up at).epoch in
      let b = g.epoch in let x = ap (λ (y : Client). y.epoch) is in let z = h.now in omega (arith, a, b, x, z, lt))
  goes_waiting u d k _ _ q g h is at (accepts b ms m to own inc told most) = absurd (
      let s = accepted_seen k b in let x = ap (λ (y : Client). y.epoch) is in
      let old = (q.calm.calm d h.client h.runs (h.now ∙ sym q.epoch)).accepted in
      let new = (g.calm.calm d (accepted k b) at (s.1 ∙ sym x ∙ h.now ∙ sym g.epoch)).accepted in
      let more = s.0 in let y = ap (λ (z : Client). z.seen) is in omega (arith, old, new, more, y))

  does_waiting : (u v : State) (c : ℕ) → IsGood u → IsGood v → Does u v → IsWaiting c u → Moves false u v → IsWaiting c v
  does_waiting u _ c q g rests h moved = h
  does_waiting u _ c q g (goes d k l ms i x y) h moved = eq_cases c d
      (λ f. subst (λ z. IsWaiting z (with_client u d (Some l) ms)) (sym f) (let there = subst (λ z. IsWaiting z u) f h in
      goes_waiting u d k l ms q g there (some_is there.client k (sym there.runs ∙ i)) (ap (λ b. (cond b (let z : ClientPlace = record { last_incarnation = (u.places d).last_incarnation; client = Some l } in z) (u.places d)).client) (eq-eqb d d refl)) x))
      (λ ne. record { client = h.client; runs = ap (λ b. (cond b (let z : ClientPlace = record { last_incarnation = (u.places d).last_incarnation; client = Some l } in z) (u.places c)).client) (ne_eqb c d ne) ∙ h.runs; now = h.now; waiting = h.waiting })
  does_waiting u _ c q g (starts d down) h moved = record { client = h.client; runs = ap (λ b. (cond b (new_place u d) (u.places c)).client) (ne_eqb c d (λ f. let bad : None ≡ Some h.client = sym down ∙ ap (client_of u) (sym f) ∙ h.runs in absurd (cc))) ∙ h.runs; now = h.now; waiting = h.waiting }
  does_waiting u _ c q g (ends d number ms most silent) h moved = record { client = h.client; runs = ap (λ b. (cond b (let z : ClientPlace = record { last_incarnation = (u.places d).last_incarnation; client = None } in z) (u.places c)).client) (ne_eqb c d apart) ∙ h.runs; now = h.now; waiting = h.waiting }
    where
      apart : c ≢ d
      apart f =
          let x = client_goes_on u (with_client u d None ms) c h.client moved h.runs in
          let gone : client_of (with_client u d None ms) c ≡ None = ap (λ b. (cond b (let z : ClientPlace = record { last_incarnation = (u.places d).last_incarnation; client = None } in z) (u.places c)).client) (eq-eqb c d f) in
          let bad : None ≡ Some x.0 = sym gone ∙ x.1 in cc
  does_waiting u _ c q g (reads old new m outs applied up at step) h moved = record { client = h.client; runs = h.runs; now = h.now; waiting = h.waiting }
  does_waiting u _ c q g (nudges s d up) h moved = record { client = h.client; runs = h.runs; now = h.now; waiting = h.waiting }
  does_waiting u _ c q g (stops s up) h moved = record { client = h.client; runs = h.runs; now = h.now; waiting = h.waiting }
  does_waiting u _ c q g (begins d up) h moved = record { client = h.client; runs = h.runs; now = h.now; waiting = h.waiting }

  run_waiting : (steps : List Step) (u v : State) (c : ℕ) → IsSafe steps → IsGood u → (r : Runs u steps v) → Throughout Calm u steps v r → IsWaiting c u → IsWaiting c v
  run_waiting [] u v c safe g r all h = subst (IsWaiting c) (sym r) h
  run_waiting (s ∷ steps) u v c safe g r all h =
      let next = good_next u r.1 s r.0 (safe s (inl refl)) g all.0 r.2 in
      run_waiting steps r.1 v c (λ z i. safe z (inr i)) next r.3 all.1
      (does_waiting u r.1 c g next (does u r.1 s r.0 r.2) h (subst (λ b. Moves b u r.1) (safe s (inl refl)) (moves u r.1 s r.0 r.2)))

  -- Nine calm rounds

  -- after two of them every request is taken
  record TwoLater (w v : State) : Type 0 where
    mid : State
    good : IsGood mid
    taken : IsCalm IsTaken seen mid
    rounds : RoundsWhile (IsCalm IsTaken seen) 7 (length mid.sent) mid v
    waiting : (c : ℕ) → IsWaiting c w → IsWaiting c mid

  two_later : ((c : ℕ) → seen c < END) → (w v : State) → IsGood w → RoundsWhile Calm 9 (length w.sent) w v → TwoLater w v
  two_later room w v g r =
      let r2 = r.5 in
      let g1 = run_good r.0 w r.1 r.2.stays g r.3 r.4 in
      let g2 = run_good r2.0 r.1 r2.1 r2.2.stays g1 r2.3 r2.4 in
      let long1 = runs_longer r.0 w r.1 r.3 in
      let long2 = runs_longer r2.0 r.1 r2.1 r2.3 in
      let b1 = three_behind (HasAsked reqs) seen room 5 (length w.sent) r.1 v g1.reached long1 r2 in
      let b2 = three_behind (HasAsked reqs) seen room 4 (length r.1.sent) r2.1 v g2.reached long2 r2.5 in
      let q0 = quiet_now (HasAsked reqs) seen room 5 (length w.sent) w v g.reached g.calm r in
      let q1 = run_quiet (HasAsked reqs) seen room r.0 w r.1 g.reached r.2.stays r.3 r.4 g1.calm b1 in
      let q2 = run_quiet (HasAsked reqs) seen room r2.0 r.1 r2.1 g1.reached r2.2.stays r2.3 r2.4 g2.calm b2 in
      let none : NoneLate r2.1 = λ c h.
      let x2 = run_back r2.0 r.1 r2.1 c r2.2.stays g1 r2.3 q2 h in
      let x1 = run_back r.0 w r.1 c r.2.stays g r.3 q1 x2.0 in
      taken_in_two c (seen c) (reqs c) w r2.1 g.reached (untaken_of w c g q0 x1.0) (r.0, r.1, r.2, r.3, x1.1, (r2.0, r2.1, r2.2, r2.3, x2.1, refl)) in
      record {
        mid = r2.1;
        good = g2;
        taken = taken_now r2.1 g2 none;
        rounds = rounds_taken 7 (length r2.1.sent) r2.1 v g2 none (later_while Calm 7 (length r.1.sent) (length r2.1.sent) r2.1 v long2 r2.5);
        waiting = λ c h. run_waiting r2.0 r.1 r2.1 c r2.2.stays g1 r2.3 r2.4 (run_waiting r.0 w r.1 c r.2.stays g r.3 r.4 h);
      }

  -- so nobody waits at the beginning of nine calm rounds
  pub none_waiting : ((c : ℕ) → seen c < END) → (w v : State) → IsReachable w → (q : Calm w) → q.server.durable.epoch ≡ e → RoundsWhile Calm 9 (length w.sent) w v → (c : ℕ) (k : Client) → client_of w c ≡ Some k → k.epoch ≡ e → is_waiting k.asked ≡ true → ⊥
  none_waiting room w v rw q eq r c k i here asks =
      by_request (((agrees t.mid t.good.reached).knows quiet.server c h.client quiet.up h.runs).now now).request
    where
      t : TwoLater w v
      t = two_later room w v (record { reached = rw; calm = q; epoch = eq }) r

      h : IsWaiting c t.mid
      h = t.waiting c (record { client = k; runs = i; now = here; waiting = asks })

      quiet : IsQuiet IsTaken seen t.mid
      quiet = quiet_now IsTaken seen room 3 (length t.mid.sent) t.mid v t.good.reached t.taken t.rounds

      now : h.client.epoch ≡ quiet.server.durable.epoch
      now = h.now ∙ sym t.good.epoch ∙ ap (λ (s : Server). s.durable.epoch) (same_up t.good.calm.server quiet.server (sym t.good.calm.up ∙ quiet.up))

      rest : IsAtRest IsTaken quiet.server c (seen c) h.client
      rest = quiet.at_rest c h.client h.runs now

      by_request : Asks (quiet.server.sessions c) quiet.server.rows c h.client → ⊥
      by_request (know.idle f z a p) = not_both (is_waiting h.client.asked) h.waiting f
      by_request (know.untaken f z a p) = let x = rest.request in omega (arith, z, x)
      by_request (know.stands f z u y all p) = waiters_move_on seen t.mid v quiet.server y.slot u t.good.reached t.taken room quiet.up y.at t.rounds
      by_request (know.comes f z a b m l y) = let x = rest.accepted in let p = rest.last in omega (arith, l, x, p)

pub somebody_moves_on : SomebodyMovesOnIn 9
somebody_moves_on reqs seen w v s c k rw q room up i here asks r =
    none_waiting reqs seen q.server.durable.epoch room w v rw q refl r c k i (here ∙ ap (λ (y : Server). y.durable.epoch) (same_up s q.server (sym up ∙ q.up))) asks
