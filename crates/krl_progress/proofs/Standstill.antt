-- Nobody waits through four quiet good rounds: the first waiter of the slot would stand there all the time.
use Rattle.krl_progress.proofs.Names.{◌≡◌, ◌≢◌, ℕ, zero, suc, ◌≤◌, ◌<◌, ◌∙◌, inl, inr, Bool, true, false, Some, None, List, [], ◌∷◌, length, refl, sym, ap, subst, arith, END}
use Rattle.krl_progress.proofs.Names.{ToServer, ToClient, In, Client, Server, is_recovering, Durable, Step, Up, Down, State, client_of, served, Runs, IsReachable, ServerStep, case_of, Done, effect, following, Following, Ends, at_once, recovers, serves, AnswersWaiters, answer_first, Turn, next_turn, is_compatible, is_slot, span_of, eq_cases}
use Rattle.krl_progress.proofs.Names as answering
use Rattle.krl_modes.specs.Modes.{compatible}
use Rattle.krl_modes.specs.Spans.{Bounds}
use Rattle.krl_modes.proofs.Basics.{not_both}
use Rattle.krl_queue.specs.declared.waiter.Waiter.{Waiter}
use Rattle.krl_table.specs.Rows.{Row, mode_at}
use Rattle.krl_table.specs.Calls.{wanted}
use Rattle.krl_table.specs.Sound.{IsTable}
use Rattle.krl_table.proofs.Invariant.Compatible.{none_compatible}
use Rattle.krl_server.specs.declared.session.Session.{Session}
use Rattle.krl_server.specs.Servers.{incarnation_of}
use Rattle.krl_client.specs.Clients.{is_waiting}
use Rattle.krl_client.specs.Splits.{is_in}
use Rattle.krl_steps.specs.declared.applied_write.AppliedWrite.{AppliedWrite}
use Rattle.krl_progress.specs.Blocks.{HasSeen, Throughout, RoundsWhile}
use Rattle.krl_progress.specs.FirstWaits.{FirstWait, MayGiveWay, StandsFirst}
use Rattle.krl_progress.specs.Standstills.{HasPart, holds, waits, IsTaken, IsAtRest, IsQuiet, NoStandstillIn}
use Rattle.krl_progress.proofs.Standings.{standing}
use Rattle.krl_progress.proofs.Hearing.{step_epoch}
use Rattle.krl_progress.proofs.Recovers.{same_up, next_reachable}
use Rattle.krl_progress.proofs.CallsBack.{in_order}
use Rattle.krl_progress.proofs.Doings.{Does, rests, goes, starts, ends, reads, nudges, stops, begins, does}
use Rattle.krl_progress.proofs.Queues.{Stands, Stays, turn_came}
use Rattle.krl_progress.proofs.Knowing as know
use Rattle.krl_progress.proofs.Knowing.{Asks, turn_pushes}
use Rattle.krl_progress.proofs.AtOnce.{turn_sessions}
use Rattle.krl_progress.proofs.Agreed.{agrees}
use Rattle.krl_progress.proofs.Later.{Later, kept, effect_later, answered_later}
use Rattle.krl_progress.proofs.Sinking.{unpushed, same_incarnation, answered_durable}
use Rattle.krl_progress.proofs.Blocking.{row_stays, not_compatible}
use Rattle.krl_progress.proofs.Repeating.{queued_waits}
use Rattle.krl_progress.proofs.FirstBlocks.{run_end}
use Rattle.krl_progress.proofs.FirstWaits.{first_waits_end}
use Rattle.krl_progress.proofs.KeepsFirst.{IsStill, IsFirstIn, effect_first}

-- What answers make of a server

pub record IsAfter (mid new : Server) : Type 0 where
  pub durable : new.durable ≡ mid.durable
  later : (c : ℕ) → Later mid new c
  pub requests : (c : ℕ) → (new.sessions c).last_request ≡ (mid.sessions c).last_request
  came : (c : ℕ) → Stays new.rows mid.rows c
  row : (n : ℕ) (u : Waiter) (us : List Waiter) → (mid.rows n).queue ≡ u ∷ us → (new.sessions u.client).last_push ≡ (mid.sessions u.client).last_push → new.rows n ≡ mid.rows n

turn_request : (s : Server) (t : Turn) (c : ℕ) → next_turn s ≡ Some t → ((answer_first s t).server.sessions c).last_request ≡ (s.sessions c).last_request
turn_request s t c e = eq_cases c t.waiter.client
    (λ f. subst (λ d. ((answer_first s t).server.sessions d).last_request ≡ (s.sessions d).last_request) (sym f) (ap (λ (z : Session). z.last_request) (turn_pushes s t e).session))
    (λ ne. ap (λ (z : Session). z.last_request) (turn_sessions s t c ne))

answered_requests : (s t : Server) (outs : List ToClient) (c : ℕ) → AnswersWaiters s t outs → (t.sessions c).last_request ≡ (s.sessions c).last_request
answered_requests s t outs c (answering.stops x e) = refl
answered_requests s t outs c (answering.goes_on x y turn later e rest) = answered_requests (answer_first x turn).server y later c rest ∙ turn_request x turn c e

answered_came : (s t : Server) (outs : List ToClient) (c : ℕ) → AnswersWaiters s t outs → Stays t.rows s.rows c
answered_came s t outs c (answering.stops x e) = λ u z. z
answered_came s t outs c (answering.goes_on x y turn later e rest) = λ u z. turn_came x turn e c u (answered_came (answer_first x turn).server y later c rest u z)

after_itself : (s : Server) → IsAfter s s
after_itself s = record { durable = refl; later = λ c. kept refl refl (λ b e. e); requests = λ c. refl; came = λ c u z. z; row = λ n u us q same. refl }

pub ends_after : (done : Done) (kind : Following) (t : Server) (outs : List ToClient) → Ends done kind t outs → IsAfter done.server t
ends_after done kind t outs (at_once i) = after_itself done.server
ends_after done kind t outs (recovers g) = after_itself done.server
ends_after done kind t outs (serves u answers ne up a) = record {
  durable = answered_durable done.server u answers a;
  later = λ c. answered_later done.server u answers c a;
  requests = λ c. answered_requests done.server u answers c a;
  came = λ c. answered_came done.server u answers c a;
  row = λ n w us q same. row_stays done.server u answers n w us a q same;
}

-- A quiet world and its server

record IsOver (seen : ℕ → ℕ) (x : State) (s : Server) : Type 0 where
  serving : is_recovering s.missing ≡ false
  here : (c : ℕ) → HasPart s c → (k : Client) × (client_of x c ≡ Some k) × (k.epoch ≡ s.durable.epoch)
  at_rest : (c : ℕ) (k : Client) → client_of x c ≡ Some k → k.epoch ≡ s.durable.epoch → IsAtRest IsTaken s c (seen c) k

over : (seen : ℕ → ℕ) (x : State) (s : Server) → IsQuiet IsTaken seen x → x.server ≡ Up s → IsOver seen x s
over seen x s q up = subst (IsOver seen x) (same_up q.server s (sym q.up ∙ up)) (record { serving = q.serves; here = q.here; at_rest = q.at_rest })

-- A message between two quiet worlds

module _ (seen : ℕ → ℕ) (room : (c : ℕ) → seen c < END) (x : State) (old new : Server) (m : ToServer) (outs : List ToClient) (writes : List AppliedWrite) (rx : IsReachable x) (ry : IsReachable (served x (Up new) outs writes)) (q : IsOver seen x old) (g : IsOver seen (served x (Up new) outs writes) new) (up : x.server ≡ Up old) (taken : ServerStep old m new outs) where
  abbrev mid : Server
  mid = (effect old m (case_of old m)).server

  after : IsAfter mid new
  after = ends_after (effect old m (case_of old m)) (following (case_of old m)) new outs taken

  -- a client that holds or waits for something, before and after the message
  record Part (c : ℕ) : Type 0 where
    client : Client
    runs : client_of x c ≡ Some client
    now : client.epoch ≡ old.durable.epoch
    then : client.epoch ≡ new.durable.epoch
    before : IsAtRest IsTaken old c (seen c) client
    later : IsAtRest IsTaken new c (seen c) client

  part : (c : ℕ) → HasPart old c → Part c
  part c p = let k = q.here c p in let then = k.2 ∙ sym (step_epoch old new m outs taken) in record { client = k.0; runs = k.1; now = k.2; then = then; before = q.at_rest c k.0 k.1 k.2; later = g.at_rest c k.0 k.1 then }

  same_inc : (c : ℕ) (p : Part c) → incarnation_of mid c ≡ incarnation_of old c
  same_inc c p =
      let st = standing x old c p.client rx up p.runs in
      let sv = standing (served x (Up new) outs writes) new c p.client ry refl p.runs in
      let some : 1 ≤ p.client.epoch = (let b = st.begun in let e = p.now in omega (arith, b, e)) in
      sym (same_incarnation mid new c after.durable) ∙ sv.joined some ∙ sym (st.joined some)

  same_push : (c : ℕ) (p : Part c) → (mid.sessions c).last_push ≡ (old.sessions c).last_push
  same_push c p =
      let one = unpushed old mid c (effect_later old m c) (same_inc c p) in
      let two = unpushed mid new c (after.later c) (same_incarnation mid new c after.durable) in
      let a = p.before.last in let b = p.later.last in omega (arith, one, two, a, b)

  still : IsStill old mid
  still = record {
    pushes = λ c h. same_push c (part c h);
    requests = λ c h. let p = part c h in sym (after.requests c) ∙ sym p.later.request ∙ p.before.request;
    waiters = waiters;
  }
    where
      waiters : (n : ℕ) (u : Waiter) → In u (old.rows n).queue → (v : Waiter) × Stands mid.rows u.client v
      waiters n u at = by_request (((agrees (served x (Up new) outs writes) ry).knows new u.client p.client refl p.runs).now p.then).request
        where
          p : Part u.client
          p = part u.client (waits n u at refl)

          asks : is_waiting p.client.asked ≡ true
          asks = queued_waits x old n u p.client rx up at p.runs p.now

          by_request : Asks (new.sessions u.client) new.rows u.client p.client → (v : Waiter) × Stands mid.rows u.client v
          by_request (know.idle w r a z) = absurd (not_both (is_waiting p.client.asked) asks w)
          by_request (know.untaken w r a z) = absurd (let t = p.later.request in omega (arith, r, t))
          by_request (know.stands w r v y all z) = (v, after.came u.client v y)
          by_request (know.comes w r a b e l y) = absurd (let t = p.later.accepted in let z = p.later.last in omega (arith, l, t, z))

  read_first : (n : ℕ) (there : Bounds) (u : Waiter) → IsFirstIn n there u old → IsFirstIn n there u new
  read_first n there u h =
      let sound = (in_order x old rx up).0 in
      let f = effect_first n there u old m sound q.serving (λ c z. let p = part c z in subst (λ k. k < END) (sym p.before.last) (room c)) h still in
      let p = part u.client (waits n u (subst (In u) (sym h.first) (inl refl)) refl) in
      let row = after.row n u f.behind f.first (p.later.last ∙ sym p.before.last ∙ sym (same_push u.client p)) in
      record {
        slot = ap (λ (d : Durable). is_slot d.index n) after.durable ∙ f.slot;
        span = ap (λ (d : Durable). span_of d.index n) after.durable ∙ f.span;
        behind = f.behind;
        first = ap (λ (r : Row). r.queue) row ∙ f.first;
      }

-- Rounds

module _ (seen : ℕ → ℕ) (room : (c : ℕ) → seen c < END) (n : ℕ) (there : Bounds) (u : Waiter) where
  abbrev wait : FirstWait
  wait = record { slot = n; span = there; waiter = u; seen = seen }

  abbrev First : State → Type 0
  First x = (s : Server) → x.server ≡ Up s → IsFirstIn n there u s

  stands : (x : State) → IsQuiet IsTaken seen x → First x → StandsFirst wait x
  stands x q first = let h = first q.server q.up in record {
    server = q.server;
    up = q.up;
    serves = q.serves;
    slot = h.slot;
    span = h.span;
    behind = h.behind;
    first = h.first;
    waiting = has_seen u.client (waits n u (subst (In u) (sym h.first) (inl refl)) refl);
    blocking = λ d e. gives_way d (holds n (λ none. not_both (compatible (wanted (q.server.rows n) u) (mode_at q.server.rows n d)) (ap (λ g. compatible (wanted (q.server.rows n) u) g) none ∙ none_compatible (wanted (q.server.rows n) u)) (not_compatible d u.client _ e)));
  }
    where
      has_seen : (c : ℕ) → HasPart q.server c → HasSeen x q.server c (seen c)
      has_seen c p = let k = q.here c p in let r = q.at_rest c k.0 k.1 k.2 in record { client = k.0; runs = k.1; epoch = k.2; accepted = r.accepted; last = r.last }

      gives_way : (c : ℕ) → HasPart q.server c → MayGiveWay x q.server c (seen c) there
      gives_way c p = let k = q.here c p in let r = q.at_rest c k.0 k.1 k.2 in record { now = has_seen c p; free = ap (is_in there) r.judged; unpinned = r.unpinned there }

  still_first : (x y : State) → IsReachable x → IsReachable y → IsQuiet IsTaken seen x → IsQuiet IsTaken seen y → Does x y → First x → First y
  still_first x _ rx ry q g rests h = h
  still_first x _ rx ry q g (goes c k l ms i z w) h = h
  still_first x _ rx ry q g (starts c down) h = h
  still_first x _ rx ry q g (ends c number ms most silent) h = h
  still_first x _ rx ry q g (reads old new m outs writes up at taken) h = λ t e.
      subst (IsFirstIn n there u) (same_up new t e)
      (read_first seen room x old new m outs writes rx ry (over seen x old q up) (over seen (served x (Up new) outs writes) new g refl) up taken n there u (h old up))
  still_first x _ rx ry q g (nudges s c up) h = λ t e. h t (up ∙ e)
  still_first x _ rx ry q g (stops s up) h = absurd (let bad : Down s.durable ≡ Up g.server = g.up in cc)
  still_first x _ rx ry q g (begins d up) h = absurd (let bad : Down d ≡ Up q.server = sym up ∙ q.up in cc)

  run_stands : (steps : List Step) (x y : State) → IsReachable x → IsQuiet IsTaken seen x → First x → (r : Runs x steps y) → Throughout (IsQuiet IsTaken seen) x steps y r → Throughout (StandsFirst wait) x steps y r × First y
  run_stands [] x y rx q h r all = (r, subst First (sym r) h)
  run_stands (s ∷ steps) x y rx q h r all =
      let next = next_reachable x r.1 s r.0 rx r.2 in
      let first = still_first x r.1 rx next q all.0 (does x r.1 s r.0 r.2) h in
      let rest = run_stands steps r.1 y next all.0 first r.3 all.1 in
      ((stands r.1 all.0 first, rest.0), rest.1)

  rounds_stand : (m from : ℕ) (x y : State) → IsReachable x → IsQuiet IsTaken seen x → First x → RoundsWhile (IsQuiet IsTaken seen) m from x y → RoundsWhile (StandsFirst wait) m from x y
  rounds_stand zero from x y rx q h r = r
  rounds_stand (suc m) from x y rx q h r =
      let one = run_stands r.0 x r.1 rx q h r.3 r.4 in
      let end = run_end (IsQuiet IsTaken seen) r.0 x r.1 rx q r.3 r.4 in
      (r.0, r.1, r.2, r.3, one.0, rounds_stand m (length x.sent) r.1 y end.0 end.1 one.1 r.5)

-- if somebody waits there is a slot
slot_there : (s : Server) (n : ℕ) (u : Waiter) (us : List Waiter) → IsTable s.durable.index s.rows → (s.rows n).queue ≡ u ∷ us → is_slot s.durable.index n ≡ true
slot_there s n u us table e = by_test (is_slot s.durable.index n) refl
  where
    by_test : (b : Bool) → is_slot s.durable.index n ≡ b → b ≡ true
    by_test true f = refl
    by_test false f = absurd (let bad : u ∷ us ≡ [] = sym e ∙ ap (λ (r : Row). r.queue) (table.blank n f) in cc)

pub no_standstill : NoStandstillIn 4
no_standstill seen w v s slot u rw q room up at r = by_queue (s.rows slot).queue refl at
  where
    by_queue : (us : List Waiter) → (s.rows slot).queue ≡ us → In u us → ⊥
    by_queue [] e there = there
    by_queue (x ∷ us) e there =
        let span = span_of s.durable.index slot in
        let first : IsFirstIn slot span x s = record { slot = slot_there s slot x us (in_order w s rw up).1.table e; span = refl; behind = us; first = e } in
        let now : First seen room slot span x w = λ t f. subst (IsFirstIn slot span x) (same_up s t (sym up ∙ f)) first in
        first_waits_end (wait seen room slot span x) w v rw (stands seen room slot span x w q now) (room x.client) (rounds_stand seen room slot span x 4 (length w.sent) w v rw q now r)
