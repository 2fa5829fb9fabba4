-- Nobody stands first for four good rounds: in them each block ends, and the server hears that the waiter has accepted
-- its pushes.
use Rattle.krl_progress.proofs.Names.{◌≡◌, ℕ, zero, suc, ◌≤◌, ◌<◌, ◌∙◌, Bool, true, false, not, ◌&&◌, ◌||◌, Option, Some, None, is_some, List, ◌∷◌, length, refl, sym, ap, subst, arith, nat_eq, nat_lt, if◌then◌else◌, END}
use Rattle.std.proofs.lemmas.Bool.{lt-ltb}
use Rattle.krl_progress.proofs.Names.{ToServer, ToClient, Server, Step, Answer, Up, Down, State, message_at, Delivers, ServerReads, Takes, IsReachable, ServerStep, Case, Waits, Acknowledges, case_of, Done, effect, acknowledged, following, Following, Ends, at_once, recovers, serves, Turn, next_turn, turn_at, is_compatible, max_clients}
use Rattle.krl_modes.specs.declared.mode.Mode.{Mode}
use Rattle.krl_messages.specs.declared.to_client.PushBody.{PushBody}
use Rattle.krl_messages.specs.declared.to_server.RequestBody.TheVariants as asked
use Rattle.krl_queue.specs.declared.waiter.Waiter.{Waiter}
use Rattle.krl_table.specs.Rows.{waits}
use Rattle.krl_table.specs.Replies.{asks_absent, is_wanted_compatible}
use Rattle.krl_table.specs.FirstReplies.{lacks_entry}
use Rattle.krl_table.specs.Sound.{IsTable}
use Rattle.krl_server.specs.declared.session.Session.{Session}
use Rattle.krl_server.specs.Servers.{incarnation_of}
use Rattle.krl_server.specs.Cases.{case_of_lock, has_points}
use Rattle.krl_server.specs.Answering.{is_answerable}
use Rattle.krl_server.proofs.Tests.{if_both}
use Rattle.krl_server.proofs.Updates.{session_here}
use Rattle.krl_server.proofs.Functions.Rounds.{none_here}
use Rattle.krl_steps.specs.declared.step.Step.TheVariants as step
use Rattle.krl_world.proofs.Refinement.ServerMoves.{Way, stays, reads, stops, begins, way}
use Rattle.krl_progress.specs.Rounds.{loses_a_node}
use Rattle.krl_progress.specs.Blocks.{RoundsWhile}
use Rattle.krl_progress.specs.FirstWaits.{FirstWait, StandsFirst, FirstWaitsEndIn}
use Rattle.krl_progress.proofs.Standings.{standing}
use Rattle.krl_progress.proofs.Recovers.{same_up, At, at_kept, within, again as at_again}
use Rattle.krl_progress.proofs.CallsBack.{in_order}
use Rattle.krl_progress.proofs.GivesWay.{below_all, or_right}
use Rattle.krl_progress.proofs.Arrivals.{request_from}
use Rattle.krl_progress.proofs.Later.{Later, anew, kept, more, step_later, answered_later}
use Rattle.krl_progress.proofs.Sinking.{same_incarnation, answered_durable}
use Rattle.krl_progress.proofs.Seen.{still, own_inc, heard_now}
use Rattle.krl_progress.proofs.Whiles as whiles
use Rattle.krl_progress.proofs.Whiles.{hit, stays_so}
use Rattle.krl_progress.proofs.Repeating.{LockSaid, lock_said, lock_still, tick_says}
use Rattle.krl_progress.proofs.BlocksEnd.{blocks_end}
use Rattle.krl_progress.proofs.FirstBlocks.{block, blocked, lacks_there, rounds_end, rounds_back}

-- What the server has heard acknowledged

abbrev IsAcked : Server → ℕ → Type 0
IsAcked s c = (s.sessions c).unacked ≡ None

-- it stays so while no push is made
stays_acked : (s t : Server) (c : ℕ) → Later s t c → incarnation_of t c ≡ incarnation_of s c → (t.sessions c).last_push ≡ (s.sessions c).last_push → IsAcked s c → IsAcked t c
stays_acked s t c (anew lt) inc same e = absurd (omega (arith, lt, inc))
stays_acked s t c (more i lt) inc same e = absurd (omega (arith, lt, same))
stays_acked s t c (kept i l q) inc same e = by_option (t.sessions c).unacked refl
  where
    by_option : (o : Option PushBody) → (t.sessions c).unacked ≡ o → o ≡ None
    by_option None f = refl
    by_option (Some b) f = absurd (let bad : None ≡ Some b = sym e ∙ q b f in cc)

record IsHeard (s t : Server) (c : ℕ) : Type 0 where
  acked : IsAcked t c
  last : (t.sessions c).last_push ≡ (s.sessions c).last_push
  durable : t.durable ≡ s.durable

lock_heard : (s : Server) (m : ToServer) (req point hi : ℕ) (g : Mode) → IsHeard s (effect s m (case_of_lock s m.client req point hi g)).server m.client
lock_heard s m req point hi g = if_both (λ (x : Case). IsHeard s (effect s m x).server m.client) (nat_eq req (suc (s.sessions m.client).last_request) && (not (waits s.durable.index s.rows m.client) && has_points point hi)) (Waits req point hi g) Acknowledges
    (record { acked = ap (λ (z : Session). z.unacked) y ∙ ap (λ (z : Session). z.unacked) x; last = ap (λ (z : Session). z.last_push) y ∙ ap (λ (z : Session). z.last_push) x; durable = refl })
    (record { acked = ap (λ (z : Session). z.unacked) x; last = ap (λ (z : Session). z.last_push) x; durable = refl })
  where
    t : Server
    t = acknowledged s m.client

    x : t.sessions m.client ≡ record (s.sessions m.client) { unacked = None }
    x = session_here s.sessions m.client (record (s.sessions m.client) { unacked = None })

    y : (effect s m (Waits req point hi g)).server.sessions m.client ≡ record (t.sessions m.client) { last_request = req }
    y = session_here t.sessions m.client (record (t.sessions m.client) { last_request = req })

ends_acked : (s : Server) (done : Done) (kind : Following) (t : Server) (outs : List ToClient) (c : ℕ) → Ends done kind t outs → IsHeard s done.server c → (t.sessions c).last_push ≡ (s.sessions c).last_push → IsAcked t c
ends_acked s done kind t outs c (at_once i) h same = h.acked
ends_acked s done kind t outs c (recovers g) h same = h.acked
ends_acked s done kind t outs c (serves u answers ne up a) h same = stays_acked done.server u c (answered_later done.server u answers c a) (same_incarnation done.server u c (answered_durable done.server u answers a)) (same ∙ sym h.last) h.acked

-- A server that has answered all leaves no first waiter that could be answered

none_left : (s : Server) (n : ℕ) (u : Waiter) (us : List Waiter) → IsTable s.durable.index s.rows → next_turn s ≡ None → (s.rows n).queue ≡ u ∷ us → is_answerable s n u ≡ true → ⊥
none_left s n u us table none q a =
    let e = none_here s table none n in
    let f : turn_at s n (u ∷ us) None ≡ None = ap (λ y. turn_at s n y None) (sym q) ∙ e in
    let g : (if true then Some (let y : Turn = record { slot = n; waiter = u } in y) else None) ≡ None = ap (λ b. if b then Some (let y : Turn = record { slot = n; waiter = u } in y) else None) (sym a) ∙ f in cc

answerable : (s : Server) (n : ℕ) (u : Waiter) → IsAcked s u.client → (s.sessions u.client).last_push < END → (asks_absent s.durable.index u || is_wanted_compatible s.rows n u) ≡ true → is_answerable s n u ≡ true
answerable s n u acked room e =
    ap (λ b. b && (asks_absent s.durable.index u || is_wanted_compatible s.rows n u))
    (ap (λ o. not (is_some o) && nat_lt (s.sessions u.client).last_push END) acked ∙ lt-ltb (s.sessions u.client).last_push END room) ∙ e

-- Rounds in which the waiter stands first

module _ (f : FirstWait) (inc epoch : ℕ) (some : 1 ≤ epoch) (n : ℕ) where
  record Along (u : State) : Type 0 where
    stands : StandsFirst f u
    at : At f.waiter.client inc epoch n u

  along : (u v : State) (s : Step) (answer : Answer) → loses_a_node s ≡ false → Along u → StandsFirst f v → Takes u s answer v → Along v
  along u v s answer calm h g t = record { stands = g; at = at_kept f.waiter.client inc epoch n u v s answer calm h.at t }

  abbrev Repeated : State → Type 0
  Repeated = LockSaid f.waiter.client inc epoch (f.seen f.waiter.client) some n

  abbrev Acked : State → Type 0
  Acked u = (s : Server) → u.server ≡ Up s → IsAcked s f.waiter.client

  registered : (u : State) (h : Along u) → incarnation_of h.stands.server f.waiter.client ≡ inc
  registered u h = own_inc epoch some n u h.stands.server f.waiter.client inc (f.seen f.waiter.client) h.at h.stands.up h.stands.waiting

  abbrev Lasts : (State → Type 0) → Type 0
  Lasts = whiles.Lasts (StandsFirst f) Along along

  acked_lasts : Lasts Acked
  acked_lasts u v s answer h g acked t x e = by_way (way u v s answer t.1)
    where
      old : Server
      old = h.stands.server

      by_way : Way u v s → IsAcked x f.waiter.client
      by_way (stays k) = acked x (sym k ∙ e)
      by_way (reads a b m outs k l at step) =
          let is_old = same_up a old (sym k ∙ h.stands.up) in
          let is_new = same_up b g.stands.server (sym l ∙ g.stands.up) in
          let later = subst (λ (y : Server). Later old y f.waiter.client) is_new (subst (λ (y : Server). Later y b f.waiter.client) is_old (step_later a b m outs f.waiter.client step)) in
          subst (λ (y : Server). IsAcked y f.waiter.client) (same_up g.stands.server x (sym g.stands.up ∙ e))
          (stays_acked old g.stands.server f.waiter.client later (registered v g ∙ sym (registered u h)) (g.stands.waiting.last ∙ sym h.stands.waiting.last) (acked old h.stands.up))
      by_way (stops a k l m) = absurd (let bad : Down a.durable ≡ Up x = sym m ∙ e in cc)
      by_way (begins d k l) = absurd (let bad : Down d ≡ Up old = sym k ∙ h.stands.up in cc)

  hit_lock : (req point hi : ℕ) (g : Mode) (i : ℕ) (u v : State) (answer : Answer) → Along u → Along v → message_at u.sent i ≡ Some (lock_said f.waiter.client inc epoch (f.seen f.waiter.client) some n req point hi g) → Takes u (step.Deliver i) answer v → Acked v
  hit_lock req point hi g i u v answer h after sent t x e =
      subst (λ (y : Server). IsAcked y f.waiter.client) (same_up after.stands.server x (sym after.stands.up ∙ e))
      (ends_acked s (effect s m (case_of s m)) (following (case_of s m)) after.stands.server d.1 f.waiter.client (subst (λ (y : Server). ServerStep s m y d.1) same d.2) heard (after.stands.waiting.last ∙ sym h.stands.waiting.last))
    where
      s : Server
      s = h.stands.server

      m : ToServer
      m = request_from f.waiter.client inc epoch (f.seen f.waiter.client) (asked.Lock req point hi g)

      d : ServerReads u (Up s) m v
      d = subst (λ y. ServerReads u y m v) h.stands.up (subst (λ o. Delivers u o v) sent t.1.1)

      same : d.0 ≡ after.stands.server
      same = same_up d.0 after.stands.server (sym (ap (λ (y : State). y.server) d.3) ∙ after.stands.up)

      heard : IsHeard s (effect s m (case_of s m)).server f.waiter.client
      heard = let r = heard_now epoch some n u s f.waiter.client inc (f.seen f.waiter.client) h.at h.stands.up h.stands.waiting (asked.Lock req point hi g) h.stands.serves in
          subst (λ (y : Case). IsHeard s (effect s m y).server f.waiter.client) (sym r.1) (lock_heard s m req point hi g)

  rounds_stay : (m from : ℕ) (w v : State) → Along w → Acked w → RoundsWhile (StandsFirst f) m from w v → Acked v
  rounds_stay zero from w v h a r = subst Acked (sym r) a
  rounds_stay (suc m) from w v h a r = let x = stays_so (StandsFirst f) Along along Acked acked_lasts r.0 w r.1 r.2.stays h a r.3 r.4 in rounds_stay m (length w.sent) r.1 v x.0 x.1 r.5

module _ (f : FirstWait) (inc epoch : ℕ) (some : 1 ≤ epoch) where
  abbrev AlongAt : ℕ → State → Type 0
  AlongAt n u = Along f inc epoch some n u

  again : (n : ℕ) (u : State) → AlongAt n u → AlongAt (length u.sent) u
  again n u h = record { stands = h.stands; at = at_again f.waiter.client inc epoch n u h.at }

  -- the tick of the first round is heard in the second
  acked_then : (m : ℕ) (w v : State) → AlongAt (length w.sent) w → RoundsWhile (StandsFirst f) (suc (suc m)) (length w.sent) w v → Acked f inc epoch some (length w.sent) v
  acked_then m w v h r1 =
      let n1 = length w.sent in
      let f1 = hit (StandsFirst f) (AlongAt n1) (along f inc epoch some n1) (λ u. Unit {0}) (Repeated f inc epoch some n1) (step.Tick f.waiter.client)
      (λ u x s a g after e t. tt) (λ u x s a g after e t. lock_still f.waiter.client inc epoch (f.seen f.waiter.client) some n1 u x s a e t)
      (λ u x a g after e t. tick_says f.waiter inc epoch (f.seen f.waiter.client) some n1 u x a g.stands.server f.slot g.stands.behind g.at g.stands.up g.stands.first g.stands.waiting t)
      r1.0 w r1.1 r1.2.stays (r1.2.ticked f.waiter.client (ap is_some h.at.runs)) h tt r1.3 r1.4 in
      let r2 = r1.5 in
      let n2 = length r1.1.sent in
      let x = f1.1 in
      let said = lock_said f.waiter.client inc epoch (f.seen f.waiter.client) some n1 x.req x.point x.hi x.mode in
      let hand = r2.2.handed x.sent.index x.sent.above (within r1.1.sent x.sent.index said x.sent.sent) in
      let sent : message_at r1.1.sent hand.copy ≡ Some said = hand.same ∙ x.sent.sent in
      let f2 = hit (StandsFirst f) (AlongAt n2) (along f inc epoch some n2) (λ u. message_at u.sent hand.copy ≡ Some said) (Acked f inc epoch some n2) (step.Deliver hand.copy)
      (λ u y s a g after e t. still hand.copy said u y s a e t) (acked_lasts f inc epoch some n2)
      (λ u y a g after e t. hit_lock f inc epoch some n2 x.req x.point x.hi x.mode hand.copy u y a g after e t)
      r2.0 r1.1 r2.1 r2.2.stays hand.delivers (again n1 r1.1 f1.0) sent r2.3 r2.4 in
      rounds_stay f inc epoch some n2 m (length r1.1.sent) r2.1 v f2.0 f2.1 r2.5

-- at the end nobody blocks
compatible_then : (f : FirstWait) (present : lacks_entry f.slot f.waiter ≡ false) (d : ℕ) (w v : State) → IsReachable w → StandsFirst f w → RoundsWhile (StandsFirst f) 4 (length w.sent) w v → (s : Server) → v.server ≡ Up s → is_compatible s f.slot f.waiter d ≡ true
compatible_then f present d w v rw h r s up = by_test (is_compatible s f.slot f.waiter d) refl
  where
    by_test : (b : Bool) → is_compatible s f.slot f.waiter d ≡ b → b ≡ true
    by_test true e = refl
    by_test false e =
        let back = rounds_back f present d 4 (length w.sent) w v rw h r (λ t g. subst (λ (y : Server). is_compatible y f.slot f.waiter d ≡ false) (same_up s t (sym up ∙ g)) e) in
        absurd (blocks_end (block f present d) w v rw (blocked f present d w rw h back.0) back.1)

pub first_waits_end : FirstWaitsEndIn 4
first_waits_end f w v rw h room r =
    let k = h.waiting.client in
    let begun = (standing w h.server f.waiter.client k rw h.up h.waiting.runs).begun in
    let last = rounds_end (StandsFirst f) 4 (length w.sent) w v rw h r in
    let g = last.1 in
    let order = in_order v g.server last.0 g.up in
    let along_now : Along f k.incarnation h.server.durable.epoch begun (length w.sent) w = record { stands = h; at = record { reachable = rw; server = h.server; up = h.up; now = refl; client = k; runs = h.waiting.runs; same = refl; long = omega arith } } in
    let acked = acked_then f k.incarnation h.server.durable.epoch begun 2 w v along_now r g.server g.up in
    none_left g.server f.slot f.waiter g.behind order.1.table (order.2 g.serves) g.first
    (answerable g.server f.slot f.waiter acked (subst (λ x. x < END) (sym g.waiting.last) room) (by_test last.0 g (lacks_entry f.slot f.waiter) refl))
  where
    by_test : IsReachable v → (g : StandsFirst f v) → (b : Bool) → lacks_entry f.slot f.waiter ≡ b → (asks_absent g.server.durable.index f.waiter || is_wanted_compatible g.server.rows f.slot f.waiter) ≡ true
    by_test rv g true e = ap (λ x. x || is_wanted_compatible g.server.rows f.slot f.waiter) (sym (lacks_there f v rv g) ∙ e)
    by_test rv g false e = or_right (asks_absent g.server.durable.index f.waiter) (is_wanted_compatible g.server.rows f.slot f.waiter) (below_all max_clients _ (λ d lt. compatible_then f e d w v rw h r g.server g.up))
