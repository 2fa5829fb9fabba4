-- How a client that the server misses comes to be heard, in good rounds.
use Rattle.krl_modes.specs.Constants.{max_clients}
use Rattle.krl_progress.proofs.Names.{◌≡◌, ◌≢◌, ℕ, zero, suc, ◌≤◌, ◌<◌, ◌∙◌, ◌⊎◌, inl, inr, Bool, true, false, Some, None, List, [], ◌∷◌, ◌++◌, length, is_some, slice_get, refl, sym, ap, subst, arith, nat_eq, nat_lt, if◌then◌else◌, ltb-true, ltb-false, eqb-false, eq-eqb, ⊎_elim, all_follow, Ok}
use Rattle.krl_progress.proofs.Names.{ToServer, ToClient, In, Client, Message, Pieces, Server, is_recovering, lists, Step, Answer, Up, Down, State, ServerPlace, client_of, message_at, Delivers, ServerReads, ClientReads, Runs, IsReachable, Takes, case_of, effect, from_clients, from_server, set_place, set_place}
use Rattle.krl_progress.proofs.Names.{says_ack, says_report, ClientPlace}
use Rattle.krl_messages.specs.declared.to_server.ToServerBody.{ToServerBody}
use Rattle.krl_messages.specs.declared.to_server.ToServerBody.TheVariants as said
use Rattle.krl_messages.specs.declared.to_client.ToClientBody.TheVariants as told
use Rattle.krl_messages.specs.declared.to_server.RequestBody.TheVariants as asked
use Rattle.krl_server.proofs.Tests.{if_case}
use Rattle.krl_server.specs.Effects.{epoch_to}
use Rattle.krl_client.specs.Ticks.{tick, says_hello, lock_again, write_again}
use Rattle.krl_client.specs.Clients.{outstanding}
use Rattle.krl_client.specs.Messages as receiver
use Rattle.krl_steps.specs.declared.step.Step.TheVariants as step
use Rattle.krl_world.specs.declared.message.Message.TheVariants as message
use Rattle.krl_world.specs.Steps.{Steps}
use Rattle.krl_world.specs.Bounds.{epoch_said}
use Rattle.krl_world.proofs.Functions.Shapes.{reachable_stays, reachable_nobody}
use Rattle.krl_world.proofs.Promises.Kept.{restarts_holds}
use Rattle.krl_world.proofs.Refinement.Reached.{has_bound}
use Rattle.krl_world.proofs.Refinement.ServerMoves.{Way, stays, reads, stops, begins, way}
use Rattle.krl_world.proofs.Refinement.Taken.{at_in}
use Rattle.krl_progress.specs.Rounds.{loses_a_node, IsRound, Rounds}
use Rattle.krl_progress.proofs.Moves.{Moves, moves, still_sent, longer, get_next, client_goes_on, some_is, within_end}
use Rattle.krl_progress.proofs.Standings.{HasStanding, standing, pushed_nothing}
use Rattle.krl_progress.proofs.Hearing.{IsCall, hello, report, request, IsTold, step_heard, step_epoch, call_fits, told_outs, heard_after, joins}

-- A step that loses no node

pub next_reachable : (u v : State) (s : Step) (answer : Answer) → IsReachable u → Takes u s answer v → IsReachable v
unfolding Steps
next_reachable u v s answer h t = reachable_stays.step u v s (Ok answer) h t

server_or : Server → ServerPlace → Server
server_or s (Up t) = t
server_or s (Down d) = s

pub same_up : (s t : Server) → Up s ≡ Up t → s ≡ t
unfolding server_or
same_up s t e = ap (server_or s) e

-- the server runs on in its epoch, and misses nobody whom it did not miss
pub record GoesOn (s : Server) (v : State) : Type 0 where
  pub after : Server
  pub up : v.server ≡ Up after
  pub epoch : after.durable.epoch ≡ s.durable.epoch
  pub heard : (c : ℕ) → lists s.missing c ≡ false → lists after.missing c ≡ false

pub server_goes_on : (u v : State) (s : Server) (taken : Step) → loses_a_node taken ≡ false → u.server ≡ Up s → Way u v taken → GoesOn s v
server_goes_on u v s taken calm up (stays e) = record { after = s; up = e ∙ up; epoch = refl; heard = λ c h. h }
server_goes_on u v s taken calm up (reads old new m outs e f at t) = let same = same_up old s (sym e ∙ up) in record {
  after = new;
  up = f;
  epoch = step_epoch old new m outs t ∙ ap (λ (x : Server). x.durable.epoch) same;
  heard = λ c h. step_heard old new m outs c (ap (λ (x : Server). lists x.missing c) same ∙ h) t;
}
server_goes_on u v s taken calm up (stops old e a f) = absurd (let x : loses_a_node step.CrashServer ≡ false = subst (λ y. loses_a_node y ≡ false) e calm in cc)
server_goes_on u v s taken calm up (begins d e f) = absurd (let x : Down d ≡ Up s = sym e ∙ up in cc)

-- One client and the server

-- a client of this incarnation runs, and a server in this epoch; at least n messages were sent
pub record At (c inc epoch n : ℕ) (u : State) : Type 0 where
  pub reachable : IsReachable u
  pub server : Server
  pub up : u.server ≡ Up server
  pub now : server.durable.epoch ≡ epoch
  pub client : Client
  pub runs : client_of u c ≡ Some client
  pub same : client.incarnation ≡ inc
  pub long : n ≤ length u.sent

abbrev Heard : ℕ → State → Type 0
Heard c u = (s : Server) → u.server ≡ Up s → lists s.missing c ≡ false

module _ (c inc epoch n : ℕ) where
  pub at_kept : (u v : State) (s : Step) (answer : Answer) → loses_a_node s ≡ false → At c inc epoch n u → Takes u s answer v → At c inc epoch n v
  at_kept u v s answer calm h t =
      let m = subst (λ b. Moves b u v) calm (moves u v s answer t) in
      let g = server_goes_on u v h.server s calm h.up (way u v s answer t.1) in
      let k = client_goes_on u v c h.client m h.runs in record {
        reachable = next_reachable u v s answer h.reachable t;
        server = g.after;
        up = g.up;
        now = g.epoch ∙ h.now;
        client = k.0;
        runs = k.1;
        same = k.2 ∙ h.same;
        long = let l = longer false u v m in let old = h.long in omega (arith, l, old);
      }

  heard_kept : (u v : State) (s : Step) (answer : Answer) → loses_a_node s ≡ false → At c inc epoch n u → Heard c u → Takes u s answer v → Heard c v
  heard_kept u v s answer calm h heard t x e =
      let g = server_goes_on u v h.server s calm h.up (way u v s answer t.1) in
      subst (λ y. lists y.missing c ≡ false) (same_up g.after x (sym g.up ∙ e)) (g.heard c (heard h.server h.up))

-- Facts that last

-- what becomes true in a run of a step that it takes, from what lasts until then
module _ (P Q : State → Type 0) (s0 : Step)
    (lasts : (u v : State) (s : Step) (answer : Answer) → loses_a_node s ≡ false → P u → Takes u s answer v → P v)
    (stays_so : (u v : State) (s : Step) (answer : Answer) → loses_a_node s ≡ false → Q u → Takes u s answer v → Q v)
    (hits : (u v : State) (answer : Answer) → P u → Takes u s0 answer v → Q v) where
  pub run_stays : (steps : List Step) (u v : State) → ((s : Step) → In s steps → loses_a_node s ≡ false) → Q u → Runs u steps v → Q v
  run_stays [] u v calm q r = subst Q (sym r) q
  run_stays (s ∷ steps) u v calm q r = run_stays steps r.1 v (λ x i. calm x (inr i)) (stays_so u r.1 s r.0 (calm s (inl refl)) q r.2) r.3

  pub run_hits : (steps : List Step) (u v : State) → ((s : Step) → In s steps → loses_a_node s ≡ false) → In s0 steps → P u → Runs u steps v → Q v
  run_hits [] u v calm i p r = absurd i
  run_hits (s ∷ steps) u v calm (inl e) p r = run_stays steps r.1 v (λ x i. calm x (inr i)) (hits u r.1 r.0 p (subst (λ x. Takes u x r.0 r.1) (sym e) r.2)) r.3
  run_hits (s ∷ steps) u v calm (inr i) p r = run_hits steps r.1 v (λ x j. calm x (inr j)) i (lasts u r.1 s r.0 (calm s (inl refl)) p r.2) r.3

-- Messages

abbrev from_client : ℕ → ℕ → ToServerBody → Message
from_client c inc b = message.ToServer (record { client = c; incarnation = inc; body = b })

abbrev epoch_message : ℕ → ℕ → ℕ → ToClient
epoch_message c inc epoch = record { client = c; incarnation = inc; body = told.Epoch epoch }

-- the client sent such a message, after the message of number n
record Said (c inc n : ℕ) (B : ToServerBody → Type 0) (u : State) : Type 0 where
  index : ℕ
  body : ToServerBody
  above : n < index
  sent : message_at u.sent index ≡ Some (from_client c inc body)
  is : B body

-- the client learned the epoch
record Told (c inc epoch n : ℕ) (u : State) : Type 0 where
  index : ℕ
  above : n < index
  sent : message_at u.sent index ≡ Some (message.ToClient (epoch_message c inc epoch))

abbrev pub Joined : ℕ → ℕ → State → Type 0
Joined c epoch u = (k : Client) → client_of u c ≡ Some k → epoch ≤ k.epoch

-- the next message
sent_next : (u v : State) (m : Message) (more : List Message) → v.sent ≡ u.sent ++ (m ∷ more) → message_at v.sent (suc (length u.sent)) ≡ Some m
sent_next u v m more e = subst (λ xs. slice_get xs (length u.sent) ≡ Some m) (sym e) (get_next u.sent more m)

module _ (c inc epoch n : ℕ) where
  message_kept : (i : ℕ) (m : Message) (u v : State) (s : Step) (answer : Answer) → loses_a_node s ≡ false → message_at u.sent i ≡ Some m → Takes u s answer v → message_at v.sent i ≡ Some m
  message_kept i m u v s answer calm e t = still_sent (loses_a_node s) u v i m (moves u v s answer t) e

  said_kept : (B : ToServerBody → Type 0) (u v : State) (s : Step) (answer : Answer) → loses_a_node s ≡ false → At c inc epoch n u → Said c inc n B u → Takes u s answer v → Said c inc n B v
  said_kept B u v s answer calm at h t = record { index = h.index; body = h.body; above = h.above; sent = message_kept h.index _ u v s answer calm h.sent t; is = h.is }

  told_kept : (u v : State) (s : Step) (answer : Answer) → loses_a_node s ≡ false → At c inc epoch n u → Told c inc epoch n u → Takes u s answer v → Told c inc epoch n v
  told_kept u v s answer calm at h t = record { index = h.index; above = h.above; sent = message_kept h.index _ u v s answer calm h.sent t }

  pub joined_kept : (u v : State) (s : Step) (answer : Answer) → loses_a_node s ≡ false → At c inc epoch n u → Joined c epoch u → Takes u s answer v → Joined c epoch v
  joined_kept u v s answer calm at h t k e =
      let m = subst (λ b. Moves b u v) calm (moves u v s answer t) in
      let g = client_goes_on u v c at.client m at.runs in
      let old = h at.client at.runs in
      subst (λ (x : Client). epoch ≤ x.epoch) (some_is g.0 k (sym g.1 ∙ e)) (let up = g.3 in omega (arith, up, old))

  -- the server heard of the client, or this
  abbrev Or : (State → Type 0) → State → Type 0
  Or X u = At c inc epoch n u × (Heard c u ⊎ X u)

  or_kept : (X : State → Type 0) → ((u v : State) (s : Step) (answer : Answer) → loses_a_node s ≡ false → At c inc epoch n u → X u → Takes u s answer v → X v) → (u v : State) (s : Step) (answer : Answer) → loses_a_node s ≡ false → Or X u → Takes u s answer v → Or X v
  or_kept X kept u v s answer calm h t = (at_kept c inc epoch n u v s answer calm h.0 t, ⊎_elim (λ (a : Heard c u). inl (heard_kept c inc epoch n u v s answer calm h.0 a t)) (λ (x : X u). inr (kept u v s answer calm h.0 x t)) h.1)

  -- Ticks

  record IsFirst (B : ToServerBody → Type 0) (xs : List ToServer) : Type 0 where
    body : ToServerBody
    rest : List ToServer
    is : xs ≡ record { client = c; incarnation = inc; body = body } ∷ rest
    fits : B body

  hit_tick : (B : ToServerBody → Type 0) (u v : State) (answer : Answer) (h : At c inc epoch n u) → ((ps : Pieces) → lists h.server.missing c ≡ true → IsFirst B (tick ps h.client)) → Takes u (step.Tick c) answer v → Heard c v ⊎ Said c inc n B v
  hit_tick B u v answer h first t = by_test (lists h.server.missing c) refl
    where
      by_test : (b : Bool) → lists h.server.missing c ≡ b → Heard c v ⊎ Said c inc n B v
      by_test false e = inl (heard_kept c inc epoch n u v (step.Tick c) answer refl h (λ s up. subst (λ (x : Server). lists x.missing c ≡ false) (same_up h.server s (sym h.up ∙ up)) e) t)
      by_test true e =
          let d = t.1.1 in
          let f = first d.2.0 e in
          let says : tick d.2.0 d.0 ≡ record { client = c; incarnation = inc; body = f.body } ∷ f.rest = ap (tick d.2.0) (some_is d.0 h.client (sym d.1 ∙ h.runs)) ∙ f.is in
          let sent : v.sent ≡ u.sent ++ (from_client c inc f.body ∷ from_clients f.rest) = ap (λ (x : State). x.sent) d.2.2 ∙ ap (λ xs. u.sent ++ from_clients xs) says in
          inr (record { index = suc (length u.sent); body = f.body; above = let l = h.long in omega (arith, l); sent = sent_next u v _ _ sent; is = f.fits })

  missing_recovers : (cs : List ℕ) → lists cs c ≡ true → is_recovering cs ≡ true
  missing_recovers [] e = absurd (cc)
  missing_recovers (d ∷ cs) e = refl

  first_report : (k : Client) (ps : Pieces) (rest : List ToServer) (B : ToServerBody → Type 0) → k.number ≡ c → k.incarnation ≡ inc → B (said.Report k.epoch ps) → IsFirst B (says_report ps k ∷ rest)
  first_report k ps rest B a b x = record { body = said.Report k.epoch ps; rest = rest; is = λ i. record { client = a i; incarnation = b i; body = said.Report k.epoch ps } ∷ rest; fits = x }

  -- the client has accepted calm push while its report is missing
  none_seen : (u : State) (h : At c inc epoch n u) → lists h.server.missing c ≡ true → 1 ≤ h.client.epoch → h.client.epoch ≡ h.server.durable.epoch → h.client.seen ≡ 0
  none_seen u h e j now = let x = (standing u h.server c h.client h.reachable h.up h.runs).seen j now in let y = pushed_nothing u h.server c h.reachable h.up (missing_recovers h.server.missing e) in omega (arith, x, y)

  tick_calls : (u : State) (h : At c inc epoch n u) (ps : Pieces) → lists h.server.missing c ≡ true → IsFirst (IsCall epoch) (tick ps h.client)
  tick_calls u h ps e = if_case (IsFirst (IsCall epoch)) (nat_lt 0 k.epoch) _ (says_hello k ∷ [])
      (λ j. let some = ltb-true 0 k.epoch j in
      if_case (λ x. IsFirst (IsCall epoch) (x ∷ rest)) (nat_eq k.seen 0) (says_report ps k) (says_ack k)
      (λ z. first_report k ps rest (IsCall epoch) st.number h.same (report k.epoch ps some))
      (λ z. record {
        body = said.Request (record { epoch = k.epoch; seen = k.seen; body = asked.Ack });
        rest = rest;
        is = λ i. record { client = st.number i; incarnation = h.same i; body = said.Request (record { epoch = k.epoch; seen = k.seen; body = asked.Ack }) } ∷ rest;
        fits = request _ some (λ now. eqb-false k.seen 0 z (none_seen u h e some (now ∙ sym h.now)));
      }))
      (λ j. record { body = said.Hello; rest = []; is = λ i. record { client = st.number i; incarnation = h.same i; body = said.Hello } ∷ []; fits = hello })
    where
      k : Client
      k = h.client

      st : HasStanding u h.server c h.client
      st = standing u h.server c h.client h.reachable h.up h.runs

      rest : List ToServer
      rest = lock_again h.client h.client.asked ++ write_again h.client (outstanding h.client.written)

  -- Deliveries to the server

  pub near : (u : State) → At c inc epoch n u → nat_lt c max_clients ≡ true
  unfolding max_clients
  near u h = by_test (nat_lt c 64) refl
    where
      by_test : (b : Bool) → nat_lt c 64 ≡ b → b ≡ true
      by_test true e = refl
      by_test false e = absurd (let x = reachable_nobody u h.reachable c (ltb-false c 64 e) in let bad : Some h.client ≡ None = sym h.runs ∙ x in cc)

  -- what the server makes of a call: it hears of the client, or sends it the epoch
  hit_call : (i : ℕ) (b : ToServerBody) → IsCall epoch b → (u v : State) (answer : Answer) → At c inc epoch n u → message_at u.sent i ≡ Some (from_client c inc b) → Takes u (step.Deliver i) answer v → Heard c v ⊎ (Told c inc epoch n v × (epoch_said b ≢ epoch))
  hit_call i b call u v answer h sent t =
      let reads : ServerReads u (Up h.server) m v = subst (λ x. ServerReads u x m v) h.up (subst (λ o. Delivers u o v) sent t.1.1) in
      let st = standing u h.server c h.client h.reachable h.up h.runs in
      let at = at_in u.sent i _ sent in
      let bound = has_bound u h.reachable in
      let quiet = (restarts_holds all_follow u bound.0 bound.1).no_alarm h.server m h.up at in
      let fits = call_fits u h.server m h.client st (sym h.same) (near u h) (within_end u h.reachable c h.client h.runs) (st.said m refl (sym h.same) at) (subst (λ e. IsCall e b) (sym h.now) call) quiet in
      ⊎_elim (λ (x : IsTold h.server m (case_of h.server m)). inr (tells x reads)) (λ (x : lists (effect h.server m (case_of h.server m)).server.missing c ≡ false). inl (hears x reads)) fits
    where
      m : ToServer
      m = record { client = c; incarnation = inc; body = b }

      hears : lists (effect h.server m (case_of h.server m)).server.missing c ≡ false → ServerReads u (Up h.server) m v → Heard c v
      hears x d s up = subst (λ (y : Server). lists y.missing c ≡ false) (same_up d.0 s (sym (ap (λ (y : State). y.server) d.3) ∙ up)) (heard_after h.server d.0 m d.1 x d.2)

      tells : IsTold h.server m (case_of h.server m) → ServerReads u (Up h.server) m v → Told c inc epoch n v × (epoch_said b ≢ epoch)
      tells x d =
          let outs = told_outs h.server d.0 m d.1 x.case d.2 in
          let says : epoch_to h.server c ≡ epoch_message c inc epoch = λ j. record { client = c; incarnation = x.same j; body = told.Epoch (h.now j) } in
          let all : v.sent ≡ u.sent ++ (message.ToClient (epoch_message c inc epoch) ∷ []) = ap (λ (y : State). y.sent) d.3 ∙ ap (λ xs. u.sent ++ from_server xs) outs ∙ ap (λ y. u.sent ++ (message.ToClient y ∷ [])) says in
          (record { index = suc (length u.sent); above = let l = h.long in omega (arith, l); sent = sent_next u v _ [] all }, λ e. x.other (e ∙ sym h.now))

  -- Deliveries to the client

  place_here : (u : State) (x : ClientPlace) → (set_place u.places c x c).client ≡ x.client
  place_here u x = ap (λ (b : Bool). (if b then x else u.places c).client) (eq-eqb c c refl)

  hit_epoch : (i : ℕ) (u v : State) (answer : Answer) → At c inc epoch n u → message_at u.sent i ≡ Some (message.ToClient (epoch_message c inc epoch)) → Takes u (step.Deliver i) answer v → Joined c epoch v
  hit_epoch i u v answer h sent t k e =
      let d : ClientReads u (Some h.client) (epoch_message c inc epoch) v = subst (λ o. ClientReads u o (epoch_message c inc epoch) v) h.runs (subst (λ o. Delivers u o v) sent t.1.1) in
      let st = standing u h.server c h.client h.reachable h.up h.runs in
      let own : epoch_message h.client.number h.client.incarnation epoch ≡ epoch_message c inc epoch = λ j. record { client = st.number j; incarnation = h.same j; body = told.Epoch epoch } in
      let new : client_of v c ≡ Some (receiver.after h.client (receiver.client_case_of h.client (epoch_message c inc epoch))) = ap (λ x. client_of x c) d.2 ∙ place_here u _ in
      let up : epoch ≤ (receiver.after h.client (receiver.client_case_of h.client (epoch_message c inc epoch))).epoch = subst (λ m. epoch ≤ (receiver.after h.client (receiver.client_case_of h.client m)).epoch) own (joins h.client epoch) in
      subst (λ (x : Client). epoch ≤ x.epoch) (some_is _ k (sym new ∙ e)) up

  -- The Report

  abbrev IsReport : ToServerBody → Type 0
  IsReport b = (ps : Pieces) × (b ≡ said.Report epoch ps)

  tick_reports : (u : State) (h : At c inc epoch n u) (ps : Pieces) → Joined c epoch u → lists h.server.missing c ≡ true → IsFirst IsReport (tick ps h.client)
  tick_reports u h ps joined e =
      let st = standing u h.server c h.client h.reachable h.up h.runs in
      let low = joined h.client h.runs in
      let high = st.epoch in
      let begun = st.begun in
      let at = h.now in
      let now : h.client.epoch ≡ epoch = omega (arith, low, high, at) in
      let some : 1 ≤ h.client.epoch = omega (arith, low, begun, at) in
      let seen = none_seen u h e some (now ∙ sym h.now) in
      if_case (IsFirst IsReport) (nat_lt 0 h.client.epoch) _ (says_hello h.client ∷ [])
      (λ j. if_case (λ x. IsFirst IsReport (x ∷ rest)) (nat_eq h.client.seen 0) (says_report ps h.client) (says_ack h.client)
      (λ z. first_report h.client ps rest IsReport st.number h.same (ps, ap (λ x. said.Report x ps) now))
      (λ z. absurd (eqb-false h.client.seen 0 z seen)))
      (λ j. absurd (let x = ltb-false 0 h.client.epoch j in omega (arith, x, some)))
    where
      rest : List ToServer
      rest = lock_again h.client h.client.asked ++ write_again h.client (outstanding h.client.written)

  hit_report : (i : ℕ) (b : ToServerBody) → IsReport b → 1 ≤ epoch → (u v : State) (answer : Answer) → At c inc epoch n u → message_at u.sent i ≡ Some (from_client c inc b) → Takes u (step.Deliver i) answer v → Heard c v
  hit_report i b is some u v answer h sent t =
      ⊎_elim (λ (x : Heard c v). x) (λ (x : Told c inc epoch n v × (epoch_said b ≢ epoch)). absurd (x.1 (ap epoch_said is.1)))
      (hit_call i b (subst (IsCall epoch) (sym is.1) (report epoch is.0 some)) u v answer h sent t)

-- Rounds

pub get_within : {A : Type 0} (xs : List A) (i : ℕ) (x : A) → slice_get xs i ≡ Some x → suc i ≤ length xs
get_within [] i x e = absurd (cc)
get_within (y ∷ xs) zero x e = let l : length (y ∷ xs) ≡ suc (length xs) = refl in omega (arith, l)
get_within (y ∷ xs) (suc i) x e = let l : length (y ∷ xs) ≡ suc (length xs) = refl in let h = get_within xs i x e in omega (arith, l, h)

pub within : (xs : List Message) (i : ℕ) (m : Message) → message_at xs i ≡ Some m → i ≤ length xs
within xs zero m e = absurd (cc)
within xs (suc i) m e = get_within xs i m e

module _ (c inc epoch n : ℕ) where
  pub again : (u : State) → At c inc epoch n u → At c inc epoch (length u.sent) u
  again u h = record { reachable = h.reachable; server = h.server; up = h.up; now = h.now; client = h.client; runs = h.runs; same = h.same; long = omega arith }

  ticks : (u : State) → At c inc epoch n u → is_some (client_of u c) ≡ true
  ticks u h = ap is_some h.runs

  abbrev Lasts : (State → Type 0) → Type 0
  Lasts X = (u v : State) (s : Step) (answer : Answer) → loses_a_node s ≡ false → At c inc epoch n u → X u → Takes u s answer v → X v

  module _ (X Y : State → Type 0) (s0 : Step) (x : Lasts X) (y : Lasts Y)
      (hits : (u v : State) (answer : Answer) → At c inc epoch n u → X u → Takes u s0 answer v → Heard c v ⊎ Y v)
      (loses : loses_a_node s0 ≡ false) where
    P : State → Type 0
    P u = At c inc epoch n u × X u

    P_lasts : (u v : State) (s : Step) (answer : Answer) → loses_a_node s ≡ false → P u → Takes u s answer v → P v
    unfolding P
    P_lasts u v s answer calm h t = (at_kept c inc epoch n u v s answer calm h.0 t, x u v s answer calm h.0 h.1 t)

    P_hits : (u v : State) (answer : Answer) → P u → Takes u s0 answer v → Or c inc epoch n Y v
    unfolding P
    P_hits u v answer h t = (at_kept c inc epoch n u v s0 answer loses h.0 t, hits u v answer h.0 h.1 t)

    -- one round
    one : (u v : State) (steps : List Step) → ((s : Step) → In s steps → loses_a_node s ≡ false) → In s0 steps → At c inc epoch n u → X u → Runs u steps v → Or c inc epoch n Y v
    unfolding P
    one u v steps calm i h g r = run_hits P (Or c inc epoch n Y) s0 P_lasts (or_kept c inc epoch n Y y) P_hits steps u v calm i (h, g) r

    heard_on : (u v : State) (steps : List Step) → ((s : Step) → In s steps → loses_a_node s ≡ false) → At c inc epoch n u → Heard c u → Runs u steps v → Or c inc epoch n Y v
    heard_on u v steps calm h g r = run_stays P (Or c inc epoch n Y) s0 P_lasts (or_kept c inc epoch n Y y) P_hits steps u v calm (h, inl g) r

module _ (c inc epoch : ℕ) (some : 1 ≤ epoch) where
  always : (n : ℕ) → Lasts c inc epoch n (λ u. Unit {0})
  always n u v s answer calm h x t = tt

  first_round : (w v : State) (from n : ℕ) (steps : List Step) → IsRound w from steps → Runs w steps v → At c inc epoch n w → Or c inc epoch n (Said c inc n (IsCall epoch)) v
  first_round w v from n steps round runs h =
      one c inc epoch n (λ u. Unit {0}) (Said c inc n (IsCall epoch)) (step.Tick c) (always n) (said_kept c inc epoch n (IsCall epoch))
      (λ u x answer at g t. hit_tick c inc epoch n (IsCall epoch) u x answer at (tick_calls c inc epoch n u at) t) refl
      w v steps round.stays (round.ticked c (ticks c inc epoch n w h)) h tt runs

  heard_round : (n : ℕ) (Y : State → Type 0) → Lasts c inc epoch n Y → (w v : State) (from : ℕ) (steps : List Step) → IsRound w from steps → Runs w steps v → At c inc epoch n w → Heard c w → Or c inc epoch n Y v
  heard_round n Y y w v from steps round runs h heard =
      heard_on c inc epoch n (Heard c) Y (step.Nudge 0) (λ u x s answer calm at g t. heard_kept c inc epoch n u x s answer calm at g t) y
      (λ u x answer at g t. inl (heard_kept c inc epoch n u x (step.Nudge 0) answer refl at g t)) refl w v steps round.stays h heard runs

  second_round : (w v : State) (m n : ℕ) (steps : List Step) → IsRound w m steps → Runs w steps v → At c inc epoch n w → Heard c w ⊎ Said c inc m (IsCall epoch) w → Or c inc epoch n (Told c inc epoch n) v
  second_round w v m n steps round runs h (inl heard) = heard_round n (Told c inc epoch n) (told_kept c inc epoch n) w v m steps round runs h heard
  second_round w v m n steps round runs h (inr x) =
      let hand = round.handed x.index x.above (within w.sent x.index _ x.sent) in
      one c inc epoch n (λ u. message_at u.sent hand.copy ≡ Some (from_client c inc x.body)) (Told c inc epoch n) (step.Deliver hand.copy)
      (λ u y s answer calm at e t. message_kept c inc epoch n hand.copy _ u y s answer calm e t) (told_kept c inc epoch n)
      (λ u y answer at e t. ⊎_elim (λ (a : Heard c y). inl a) (λ (b : Told c inc epoch n y × (epoch_said x.body ≢ epoch)). inr b.0) (hit_call c inc epoch n hand.copy x.body x.is u y answer at e t)) refl
      w v steps round.stays hand.delivers h (hand.same ∙ x.sent) runs

  third_round : (w v : State) (m n : ℕ) (steps : List Step) → IsRound w m steps → Runs w steps v → At c inc epoch n w → Heard c w ⊎ Told c inc epoch m w → Or c inc epoch n (Joined c epoch) v
  third_round w v m n steps round runs h (inl heard) = heard_round n (Joined c epoch) (joined_kept c inc epoch n) w v m steps round runs h heard
  third_round w v m n steps round runs h (inr x) =
      let hand = round.handed x.index x.above (within w.sent x.index _ x.sent) in
      one c inc epoch n (λ u. message_at u.sent hand.copy ≡ Some (message.ToClient (epoch_message c inc epoch))) (Joined c epoch) (step.Deliver hand.copy)
      (λ u y s answer calm at e t. message_kept c inc epoch n hand.copy _ u y s answer calm e t) (joined_kept c inc epoch n)
      (λ u y answer at e t. inr (hit_epoch c inc epoch n hand.copy u y answer at e t)) refl
      w v steps round.stays hand.delivers h (hand.same ∙ x.sent) runs

  fourth_round : (w v : State) (m n : ℕ) (steps : List Step) → IsRound w m steps → Runs w steps v → At c inc epoch n w → Heard c w ⊎ Joined c epoch w → Or c inc epoch n (Said c inc n (IsReport c inc epoch n)) v
  fourth_round w v m n steps round runs h (inl heard) = heard_round n (Said c inc n (IsReport c inc epoch n)) (said_kept c inc epoch n (IsReport c inc epoch n)) w v m steps round runs h heard
  fourth_round w v m n steps round runs h (inr joined) =
      one c inc epoch n (Joined c epoch) (Said c inc n (IsReport c inc epoch n)) (step.Tick c) (joined_kept c inc epoch n) (said_kept c inc epoch n (IsReport c inc epoch n))
      (λ u x answer at g t. hit_tick c inc epoch n (IsReport c inc epoch n) u x answer at (λ ps. tick_reports c inc epoch n u at ps g) t) refl
      w v steps round.stays (round.ticked c (ticks c inc epoch n w h)) h joined runs

  fifth_round : (w v : State) (m n : ℕ) (steps : List Step) → IsRound w m steps → Runs w steps v → At c inc epoch n w → Heard c w ⊎ Said c inc m (IsReport c inc epoch m) w → Or c inc epoch n (Heard c) v
  fifth_round w v m n steps round runs h (inl heard) = heard_round n (Heard c) (heard_kept c inc epoch n) w v m steps round runs h heard
  fifth_round w v m n steps round runs h (inr x) =
      let hand = round.handed x.index x.above (within w.sent x.index _ x.sent) in
      one c inc epoch n (λ u. message_at u.sent hand.copy ≡ Some (from_client c inc x.body)) (Heard c) (step.Deliver hand.copy)
      (λ u y s answer calm at e t. message_kept c inc epoch n hand.copy _ u y s answer calm e t) (heard_kept c inc epoch n)
      (λ u y answer at e t. inl (hit_report c inc epoch n hand.copy x.body x.is some u y answer at e t)) refl
      w v steps round.stays hand.delivers h (hand.same ∙ x.sent) runs

  pub five_rounds : (w v : State) → At c inc epoch (length w.sent) w → Rounds 5 (length w.sent) w v → Heard c v
  five_rounds w v h r1 =
      let f1 = first_round w r1.1 (length w.sent) (length w.sent) r1.0 r1.2 r1.3 h in
      let r2 = r1.4 in
      let f2 = second_round r1.1 r2.1 (length w.sent) (length r1.1.sent) r2.0 r2.2 r2.3 (again c inc epoch _ r1.1 f1.0) f1.1 in
      let r3 = r2.4 in
      let f3 = third_round r2.1 r3.1 (length r1.1.sent) (length r2.1.sent) r3.0 r3.2 r3.3 (again c inc epoch _ r2.1 f2.0) f2.1 in
      let r4 = r3.4 in
      let f4 = fourth_round r3.1 r4.1 (length r2.1.sent) (length r3.1.sent) r4.0 r4.2 r4.3 (again c inc epoch _ r3.1 f3.0) f3.1 in
      let r5 = r4.4 in
      let f5 = fifth_round r4.1 r5.1 (length r3.1.sent) (length r4.1.sent) r5.0 r5.2 r5.3 (again c inc epoch _ r4.1 f4.0) f4.1 in
      subst (Heard c) (sym r5.4) (⊎_elim (λ (x : Heard c r5.1). x) (λ (x : Heard c r5.1). x) f5.1)
