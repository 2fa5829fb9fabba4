-- A push that a server has made is accepted within three good rounds: its client's tick brings it out again.
use Rattle.krl_progress.proofs.Names.{◌≡◌, ℕ, suc, ◌≤◌, ◌<◌, ◌∙◌, ◌⊎◌, inl, inr, ⊎_elim, Bool, true, false, ◌&&◌, ◌||◌, Option, Some, None, is_some, List, [], ◌∷◌, ◌++◌, length, slice_get, refl, sym, ap, subst, arith, nat_eq, nat_lt, nat_le, if◌then◌else◌, eqb-true, eqb-false, ltb-true, ltb-false, eq-eqb, ne_eqb, le-ltb, END}
use Rattle.krl_progress.proofs.Names.{ToServer, ToClient, In, Client, Message, Pieces, Record, Server, is_recovering, Step, Answer, Up, Down, State, client_of, message_at, Delivers, ServerReads, ClientReads, Runs, Takes, IsReachable, Case, Ignored, Repeats, case_of, effect, from_clients, from_server, record_of, following}
use Rattle.std.proofs.Common.{le-leb}
use Rattle.krl_modes.proofs.Basics.{not_both}
use Rattle.krl_modes.specs.Constants.{max_clients}
use Rattle.krl_messages.proofs.Members.{in_right, in_left}
use Rattle.krl_messages.specs.declared.write_op.WriteOp.{WriteOp}
use Rattle.krl_messages.specs.declared.to_server.ToServerBody.TheVariants as said
use Rattle.krl_messages.specs.declared.to_server.RequestBody.{RequestBody}
use Rattle.krl_messages.specs.declared.to_server.RequestBody.TheVariants as asked
use Rattle.krl_messages.specs.declared.to_client.ToClientBody.TheVariants as told
use Rattle.krl_messages.specs.declared.to_client.PushBody.{PushBody}
use Rattle.krl_messages.specs.declared.to_client.PushBody.TheVariants as push
use Rattle.krl_server.specs.Servers.{incarnation_of, incarnation_or_0}
use Rattle.krl_server.specs.Cases.{is_malformed, case_of_record, case_of_body, case_of_request, case_of_late}
use Rattle.krl_server.specs.Effects.{push_to}
use Rattle.krl_server.proofs.Tests.{if_case}
use Rattle.krl_client.specs.Ticks.{tick, says_hello, lock_again, write_again}
use Rattle.krl_client.specs.Clients.{outstanding, requests, is_waiting, LockRequest, NotAsked, Granted, Absent, Dropped, Waiting}
use Rattle.krl_client.specs.Messages as receiver
use Rattle.krl_client.specs.Messages.{fits, accepted}
use Rattle.krl_steps.specs.declared.step.Step.TheVariants as step
use Rattle.krl_world.specs.declared.message.Message.TheVariants as message
use Rattle.krl_world.proofs.Refinement.ServerMoves.{Way, stays, reads, stops, begins, way}
use Rattle.krl_progress.specs.Requests.{IsAwaited}
use Rattle.krl_progress.specs.Rounds.{loses_a_node}
use Rattle.krl_progress.proofs.Moves.{Moves, moves, still_sent, client_follows, some_is, within_end}
use Rattle.krl_progress.proofs.Standings.{HasStanding, standing}
use Rattle.krl_progress.proofs.Hearing.{all_false}
use Rattle.krl_progress.proofs.Recovers.{same_up, At, at_kept, run_hits, Joined, joined_kept, near}
use Rattle.krl_progress.proofs.Fits.{all_pushes_fit}
use Rattle.krl_progress.proofs.WriteSteps.{Serves, serves_kept, position_in, to_clients, ends_idle}
use Rattle.krl_progress.proofs.Later.{Later, anew, kept, more, step_later}
use Rattle.krl_progress.proofs.Agreed.{agrees}
use Rattle.krl_progress.proofs.Awaited.{awaits, accepted_seen}
use Rattle.krl_progress.proofs.Knowing.{Current}

-- What the server makes of a request

-- the server hears the request, or sends again the push that the client has not accepted
pub data Hears (s : Server) (c : ℕ) (k : Client) (b : RequestBody) (x : Case) : Type 0 where
  hears : (r : Record) → record_of s.durable.register c ≡ Some r → x ≡ case_of_request s c r b → (s.sessions c).last_push ≡ k.seen → Hears s c k b x
  again : (p : PushBody) → x ≡ Repeats p → (s.sessions c).unacked ≡ Some p → (s.sessions c).last_push ≡ suc k.seen → Hears s c k b x

abbrev pub request_from : ℕ → ℕ → ℕ → ℕ → RequestBody → ToServer
request_from c inc epoch seen b = record { client = c; incarnation = inc; body = said.Request (record { epoch = epoch; seen = seen; body = b }) }

module _ (u : State) (s : Server) (c : ℕ) (k : Client) (ru : IsReachable u) (up : u.server ≡ Up s) (runs : client_of u c ≡ Some k) (now : k.epoch ≡ s.durable.epoch) (serves : is_recovering s.missing ≡ false) (below : nat_lt c max_clients ≡ true) (b : RequestBody) where
  st : HasStanding u s c k
  st = standing u s c k ru up runs

  joined : 1 ≤ k.epoch
  joined = let x = st.begun in omega (arith, now, x)

  own : incarnation_of s c ≡ k.incarnation
  own = st.joined joined

  abbrev OfCase : Case → Type 0
  OfCase x = Hears s c k b x

  late_case : (o : Option PushBody) → (s.sessions c).unacked ≡ o → nat_eq k.seen (s.sessions c).last_push ≡ false → OfCase (case_of_late k.seen (s.sessions c).last_push o)
  late_case None e f = absurd (let a = st.acked joined now e in eqb-false k.seen (s.sessions c).last_push f (sym a))
  late_case (Some p) e f =
      let high = st.upper joined now in
      let low = st.seen joined now in
      let ne = eqb-false k.seen (s.sessions c).last_push f in
      let is : (s.sessions c).last_push ≡ suc k.seen = omega (arith, high, low, ne) in
      if_case OfCase (nat_eq (suc k.seen) (s.sessions c).last_push) (Repeats p) Ignored (λ yes. again p refl e is) (λ other. absurd (eqb-false (suc k.seen) (s.sessions c).last_push other (sym is)))

  body_case : (r : Record) → record_of s.durable.register c ≡ Some r → OfCase (case_of_body s c r (said.Request (record { epoch = k.epoch; seen = k.seen; body = b })))
  body_case r e = if_case OfCase (nat_eq k.epoch s.durable.epoch) _ _
      (λ yes. if_case OfCase (is_recovering s.missing) Ignored _ (λ bad. absurd (not_both _ bad serves))
      (λ fine. if_case OfCase (nat_eq k.seen (s.sessions c).last_push) _ _
      (λ at. hears r e refl (sym (eqb-true k.seen (s.sessions c).last_push at)))
      (λ past. late_case (s.sessions c).unacked refl past)))
      (λ other. absurd (eqb-false k.epoch s.durable.epoch other now))

  abbrev the_request : ToServer
  the_request = request_from c k.incarnation k.epoch k.seen b

  record_case : (o : Option Record) → record_of s.durable.register c ≡ o → OfCase (case_of_record s the_request o)
  record_case None e = absurd (let x = st.some in let y = ap incarnation_or_0 e in let z = own in omega (arith, x, y, z))
  record_case (Some r) e =
      let y : r.incarnation ≡ k.incarnation = sym (ap incarnation_or_0 e) ∙ own in
      if_case OfCase (nat_lt r.incarnation k.incarnation) _ _
      (λ lt. absurd (let x = ltb-true r.incarnation k.incarnation lt in omega (arith, x, y)))
      (λ ge. if_case OfCase (nat_lt k.incarnation r.incarnation || r.left) Ignored _
      (λ bad. absurd (not_both _ bad (ap (λ x. x || r.left) (le-ltb k.incarnation r.incarnation (omega (arith, y))) ∙ st.here r e y)))
      (λ fine. body_case r e))

  pub request_hears : Hears s c k b (case_of s the_request)
  request_hears = if_case OfCase (is_malformed the_request) Ignored _
      (λ bad. absurd (not_both _ bad (all_false (nat_lt c max_clients) (nat_eq k.incarnation 0) (nat_lt END k.incarnation) below
      (ne_eqb k.incarnation 0 (λ e. let x = st.some in omega (arith, x, e)))
      (le-ltb END k.incarnation (within_end u ru c k runs)))))
      (λ fine. record_case (record_of s.durable.register c) refl)

-- One client, which has not accepted the server's last push

module _ (c inc epoch seen0 : ℕ) (some : 1 ≤ epoch) (room : seen0 < END) (n : ℕ) where
  pub record Live (u : State) : Type 0 where
    pub at : At c inc epoch n u
    pub joined : Joined c epoch u
    pub serves : Serves u

  pub live_kept : (u v : State) (s : Step) (answer : Answer) → loses_a_node s ≡ false → Live u → Takes u s answer v → Live v
  live_kept u v s answer calm h t = record {
    at = at_kept c inc epoch n u v s answer calm h.at t;
    joined = joined_kept c inc epoch n u v s answer calm h.at h.joined t;
    serves = serves_kept u v s answer calm h.at.server h.at.up h.serves t;
  }

  pub now_in : (u : State) → Live u → (k : Client) → client_of u c ≡ Some k → k.epoch ≡ epoch
  now_in u h k e =
      let st = standing u h.at.server c k h.at.reachable h.at.up e in
      let low = h.joined k e in let high = st.epoch in let same = h.at.now in omega (arith, low, high, same)

  mine : (u : State) (h : Live u) → incarnation_of h.at.server c ≡ inc
  mine u h = let st = standing u h.at.server c h.at.client h.at.reachable h.at.up h.at.runs in st.joined (let x = now_in u h h.at.client h.at.runs in omega (arith, x, some)) ∙ h.at.same

  -- the server has made the push of this number; if the client has accepted it, that is what is to be shown
  abbrev pub Made : State → Type 0
  Made u = (s : Server) → u.server ≡ Up s → suc seen0 ≤ (s.sessions c).last_push

  made_later : (s t : Server) → Later s t c → incarnation_of t c ≡ incarnation_of s c → suc seen0 ≤ (s.sessions c).last_push → suc seen0 ≤ (t.sessions c).last_push
  made_later s t (anew lt) e h = absurd (omega (arith, lt, e))
  made_later s t (kept i l q) e h = omega (arith, l, h)
  made_later s t (more i l) e h = omega (arith, l, h)

  pub made_kept : (u v : State) (s : Step) (answer : Answer) → loses_a_node s ≡ false → Live u → Made u → Takes u s answer v → Made v
  made_kept u v s answer calm h made t x e = by_way (way u v s answer t.1)
    where
      g : Live v
      g = live_kept u v s answer calm h t

      by_way : Way u v s → suc seen0 ≤ (x.sessions c).last_push
      by_way (stays f) = made x (sym f ∙ e)
      by_way (reads old new m outs f k at step) =
          let same_new = same_up new x (sym k ∙ e) in let same_old = same_up old h.at.server (sym f ∙ h.at.up) in let same_g = same_up new g.at.server (sym k ∙ g.at.up) in
          subst (λ (y : Server). suc seen0 ≤ (y.sessions c).last_push) same_new
          (made_later old new (step_later old new m outs c step) (ap (λ y. incarnation_of y c) same_g ∙ mine v g ∙ sym (mine u h) ∙ sym (ap (λ y. incarnation_of y c) same_old)) (made old f))
      by_way (stops old f a k) = absurd (let y : loses_a_node step.CrashServer ≡ false = subst (λ y. loses_a_node y ≡ false) f calm in cc)
      by_way (begins d f k) = absurd (let y : Down d ≡ Up h.at.server = sym f ∙ h.at.up in cc)

  abbrev pub Risen : State → Type 0
  Risen u = (k : Client) → client_of u c ≡ Some k → seen0 < k.seen

  abbrev pub Stays : State → Type 0
  Stays u = (k : Client) → client_of u c ≡ Some k → k.seen ≡ seen0

  pub record Going (u : State) : Type 0 where
    pub live : Live u
    pub made : Made u

  pub going_kept : (u v : State) (s : Step) (answer : Answer) → loses_a_node s ≡ false → Going u → Takes u s answer v → Going v
  going_kept u v s answer calm h t = record { live = live_kept u v s answer calm h.live t; made = made_kept u v s answer calm h.live h.made t }

  stays_or_rises : (u v : State) (s : Step) (answer : Answer) → loses_a_node s ≡ false → Live u → Takes u s answer v → (k l : Client) → client_of u c ≡ Some k → client_of v c ≡ Some l → (k.seen < l.seen) ⊎ (l.seen ≡ k.seen)
  stays_or_rises u v s answer calm h t k l i j =
      let m = subst (λ b. Moves b u v) calm (moves u v s answer t) in
      ⊎_elim (λ (x : k.seen < l.seen). inl x) (λ (x : (l.seen ≡ k.seen) × ((outstanding k.written ≡ None) ⊎ ((l.written ≡ k.written) × (l.writes ≡ k.writes)))). inr x.0)
      (client_follows u v c k l m i j (now_in v (live_kept u v s answer calm h t) l j ∙ sym (now_in u h k i)))

  risen_kept : (u v : State) (s : Step) (answer : Answer) → loses_a_node s ≡ false → Live u → Risen u → Takes u s answer v → Risen v
  risen_kept u v s answer calm h r t l j =
      let k = h.at.client in let low = r h.at.client h.at.runs in
      ⊎_elim (λ (x : h.at.client.seen < l.seen). omega (arith, x, low)) (λ (x : l.seen ≡ h.at.client.seen). omega (arith, x, low)) (stays_or_rises u v s answer calm h t h.at.client l h.at.runs j)

  stays_kept : (u v : State) (s : Step) (answer : Answer) → loses_a_node s ≡ false → Live u → Stays u → Takes u s answer v → Risen v ⊎ Stays v
  stays_kept u v s answer calm h w t =
      let k = h.at.client in
      let old = w h.at.client h.at.runs in
      let g = live_kept u v s answer calm h t in
      ⊎_elim (λ (x : h.at.client.seen < g.at.client.seen). inl (λ y e. subst (λ (z : Client). seen0 < z.seen) (some_is g.at.client y (sym g.at.runs ∙ e)) (omega (arith, x, old))))
      (λ (x : g.at.client.seen ≡ h.at.client.seen). inr (λ y e. subst (λ (z : Client). z.seen ≡ seen0) (some_is g.at.client y (sym g.at.runs ∙ e)) (x ∙ old)))
      (stays_or_rises u v s answer calm h t h.at.client g.at.client h.at.runs g.at.runs)

  -- the client accepted the push, or this
  abbrev pub Or : (State → Type 0) → State → Type 0
  Or X u = Going u × (Risen u ⊎ (Stays u × X u))

  abbrev pub Lasts : (State → Type 0) → Type 0
  Lasts X = (u v : State) (s : Step) (answer : Answer) → loses_a_node s ≡ false → X u → Takes u s answer v → X v

  pub or_kept : (X : State → Type 0) → Lasts X → (u v : State) (s : Step) (answer : Answer) → loses_a_node s ≡ false → Or X u → Takes u s answer v → Or X v
  or_kept X x u v s answer calm h t = (going_kept u v s answer calm h.0 t, by_case h.1)
    where
      by_case : Risen u ⊎ (Stays u × X u) → Risen v ⊎ (Stays v × X v)
      by_case (inl r) = inl (risen_kept u v s answer calm h.0.live r t)
      by_case (inr w) = ⊎_elim (λ (a : Risen v). inl a) (λ (a : Stays v). inr (a, x u v s answer calm w.1 t)) (stays_kept u v s answer calm h.0.live w.0 t)

  abbrev pub Hits : (State → Type 0) → Step → (State → Type 0) → Type 0
  Hits X s0 Y = (u v : State) (answer : Answer) → Going u → Stays u → X u → Takes u s0 answer v → Risen v ⊎ Y v

  or_hits : (X Y : State → Type 0) (s0 : Step) → Lasts X → loses_a_node s0 ≡ false → Hits X s0 Y → (u v : State) (answer : Answer) → Or X u → Takes u s0 answer v → Or Y v
  or_hits X Y s0 x calm hits u v answer h t = (going_kept u v s0 answer calm h.0 t, by_case h.1)
    where
      by_case : Risen u ⊎ (Stays u × X u) → Risen v ⊎ (Stays v × Y v)
      by_case (inl r) = inl (risen_kept u v s0 answer calm h.0.live r t)
      by_case (inr w) = ⊎_elim (λ (a : Risen v). inl a) (λ (a : Stays v). ⊎_elim (λ (b : Risen v). inl b) (λ (b : Y v). inr (a, b)) (hits u v answer h.0 w.0 w.1 t)) (stays_kept u v s0 answer calm h.0.live w.0 t)

  pub one : (X Y : State → Type 0) (s0 : Step) → Lasts X → Lasts Y → loses_a_node s0 ≡ false → Hits X s0 Y → (u v : State) (steps : List Step) → ((s : Step) → In s steps → loses_a_node s ≡ false) → In s0 steps → Or X u → Runs u steps v → Or Y v
  one X Y s0 x y calm hits u v steps all i h r = run_hits (Or X) (Or Y) s0 (or_kept X x) (or_kept Y y) (or_hits X Y s0 x calm hits) steps u v all i h r

  -- The request that a tick sends

  -- the message comes after number n
  pub record Sent (m : Message) (u : State) : Type 0 where
    pub index : ℕ
    pub above : n < index
    pub sent : message_at u.sent index ≡ Some m

  pub sent_lasts : (m : Message) → Lasts (Sent m)
  sent_lasts m u v s answer calm h t = record { index = h.index; above = h.above; sent = still_sent (loses_a_node s) u v h.index m (moves u v s answer t) h.sent }

  abbrev pub said_by : RequestBody → Message
  said_by b = message.ToServer (request_from c inc epoch seen0 b)

  pub record Asked (u : State) : Type 0 where
    pub body : RequestBody
    pub sent : Sent (said_by body) u

  pub asked_lasts : Lasts Asked
  asked_lasts u v s answer calm h t = record { body = h.body; sent = sent_lasts (said_by h.body) u v s answer calm h.sent t }

  -- what a client waits for, its tick asks for
  locks_again : (k : Client) (a : LockRequest) → is_waiting a ≡ true → (b : RequestBody) × In (requests k b) (lock_again k a)
  locks_again k NotAsked w = absurd (cc)
  locks_again k Granted w = absurd (cc)
  locks_again k Absent w = absurd (cc)
  locks_again k Dropped w = absurd (cc)
  locks_again k (Waiting point hi g) w = (asked.Lock k.req point hi g, inl refl)

  writes_again : (k : Client) (o : Option WriteOp) → is_some o ≡ true → (b : RequestBody) × In (requests k b) (write_again k o)
  writes_again k None w = absurd (cc)
  writes_again k (Some op) w = (asked.Write k.writes op k.seizes, inl refl)

  asks_again : (k : Client) (p : PushBody) → IsAwaited k p → (b : RequestBody) × In (requests k b) (lock_again k k.asked ++ write_again k (outstanding k.written))
  asks_again k (push.Grant req hs) a = let x = locks_again k k.asked a.0 in (x.0, in_left (lock_again k k.asked) (write_again k (outstanding k.written)) (requests k x.0) x.1)
  asks_again k (push.Absent req point) a = let x = locks_again k k.asked a.0 in (x.0, in_left (lock_again k k.asked) (write_again k (outstanding k.written)) (requests k x.0) x.1)
  asks_again k (push.Answer number o h) a = let x = writes_again k (outstanding k.written) a.0 in (x.0, in_right (lock_again k k.asked) (write_again k (outstanding k.written)) (requests k x.0) x.1)

  says_request : (k : Client) (ps : Pieces) (p : PushBody) → k.epoch ≡ epoch → IsAwaited k p → (b : RequestBody) × In (requests k b) (tick ps k)
  says_request k ps p now a = if_case (λ xs. (b : RequestBody) × In (requests k b) xs) (nat_lt 0 k.epoch) _ (says_hello k ∷ [])
      (λ j. let x = asks_again k p a in (x.0, inr x.1))
      (λ j. absurd (let x = ltb-false 0 k.epoch j in omega (arith, x, now, some)))

  -- the push that the client has yet to accept
  pending : (u : State) → Going u → Stays u → (k : Client) → client_of u c ≡ Some k → (p : PushBody) × IsAwaited k p
  pending u h w k i = by_push (h.live.at.server.sessions c).unacked refl
    where
      s : Server
      s = h.live.at.server

      here : k.epoch ≡ h.live.at.server.durable.epoch
      here = now_in u h.live k i ∙ sym h.live.at.now

      known : Current (h.live.at.server.sessions c) h.live.at.server.rows c k
      known = ((agrees u h.live.at.reachable).knows h.live.at.server c k h.live.at.up i).now here

      next : (h.live.at.server.sessions c).last_push ≡ suc k.seen
      next = let low = h.made h.live.at.server h.live.at.up in let high = known.high in let e = w k i in omega (arith, low, high, e)

      by_push : (o : Option PushBody) → (h.live.at.server.sessions c).unacked ≡ o → (p : PushBody) × IsAwaited k p
      by_push None e = absurd (let a = known.acked e in omega (arith, a, next))
      by_push (Some p) e = (p, (awaits u h.live.at.reachable).pending h.live.at.server c k h.live.at.up i here p e next)

  request_is : (k : Client) (b : RequestBody) → k.number ≡ c → k.incarnation ≡ inc → k.epoch ≡ epoch → k.seen ≡ seen0 → requests k b ≡ request_from c inc epoch seen0 b
  request_is k b e f g h i = record { client = e i; incarnation = f i; body = said.Request (record { epoch = g i; seen = h i; body = b }) }

  pub hit_tick : Hits (λ u. Unit {0}) (step.Tick c) Asked
  hit_tick u v answer h w x t =
      let d = t.1.1 in
      let st = standing u h.live.at.server c d.0 h.live.at.reachable h.live.at.up d.1 in
      let p = pending u h w d.0 d.1 in
      let same : d.0.incarnation ≡ inc = ap (λ (y : Client). y.incarnation) (some_is d.0 h.live.at.client (sym d.1 ∙ h.live.at.runs)) ∙ h.live.at.same in
      let says = says_request d.0 d.2.0 p.0 (now_in u h.live d.0 d.1) p.1 in
      let is = request_is d.0 says.0 st.number same (now_in u h.live d.0 d.1) (w d.0 d.1) in
      let there = position_in u.sent (from_clients (tick d.2.0 d.0)) (said_by says.0) (to_clients (request_from c inc epoch seen0 says.0) (tick d.2.0 d.0) (subst (λ y. In y (tick d.2.0 d.0)) is says.1)) in
      inr (record { body = says.0; sent = record { index = suc there.0; above = (let a = there.1 in let b = h.live.at.long in omega (arith, a, b)); sent = subst (λ xs. slice_get xs there.0 ≡ Some (said_by says.0)) (sym (ap (λ (y : State). y.sent) d.2.2)) there.2 } })

  -- The push that the server sends again

  abbrev pub pushed : PushBody → Message
  pushed b = message.ToClient (record { client = c; incarnation = inc; body = told.Push epoch (suc seen0) b })

  pub record Pushed (u : State) : Type 0 where
    pub body : PushBody
    pub fits : fits body ≡ true
    pub sent : Sent (pushed body) u

  pub pushed_lasts : Lasts Pushed
  pushed_lasts u v s answer calm h t = record { body = h.body; fits = h.fits; sent = sent_lasts (pushed h.body) u v s answer calm h.sent t }

  pub hit_request : (i : ℕ) (b : RequestBody) → Hits (λ u. message_at u.sent i ≡ Some (said_by b)) (step.Deliver i) Pushed
  hit_request i b u v answer h w sent t = inr (by_case (request_hears u s c k h.live.at.reachable h.live.at.up h.live.at.runs here (h.live.serves s h.live.at.up) (near c inc epoch n u h.live.at) b))
    where
      s : Server
      s = h.live.at.server

      k : Client
      k = h.live.at.client

      here : k.epoch ≡ s.durable.epoch
      here = now_in u h.live k h.live.at.runs ∙ sym h.live.at.now

      m : ToServer
      m = request_from c inc epoch seen0 b

      d : ServerReads u (Up s) m v
      d = subst (λ x. ServerReads u x m v) h.live.at.up (subst (λ o. Delivers u o v) sent t.1.1)

      same : request_from c k.incarnation k.epoch k.seen b ≡ m
      same j = request_from c (h.live.at.same j) (now_in u h.live k h.live.at.runs j) (w k h.live.at.runs j) b

      by_case : Hears s c k b (case_of s (request_from c k.incarnation k.epoch k.seen b)) → Pushed v
      by_case (hears r e x l) = absurd (let low = h.made s h.live.at.up in let f = w k h.live.at.runs in omega (arith, low, l, f))
      by_case (again p x e l) = record { body = p; fits = fits_p; sent = record { index = suc there.0; above = (let a = there.1 in let z = h.live.at.long in omega (arith, a, z)); sent = subst (λ xs. slice_get xs there.0 ≡ Some (pushed p)) (sym (ap (λ (y : State). y.sent) d.3)) there.2 } }
        where
          case : case_of s m ≡ Repeats p
          case = ap (case_of s) (sym same) ∙ x

          outs : d.1 ≡ push_to s c (s.sessions c).last_push p ∷ []
          outs = ends_idle (effect s m (case_of s m)) (following (case_of s m)) d.0 d.1 (ap following case) d.2 ∙ ap (λ y. (effect s m y).outs) case

          is_push : push_to s c (s.sessions c).last_push p ≡ record { client = c; incarnation = inc; body = told.Push epoch (suc seen0) p }
          is_push j = record { client = c; incarnation = mine u h.live j; body = told.Push (h.live.at.now j) ((l ∙ ap (λ y. suc y) (w k h.live.at.runs)) j) p }

          fits_p : fits p ≡ true
          fits_p = all_pushes_fit u s h.live.at.reachable h.live.at.up c p e

          there : (j : ℕ) × (length u.sent ≤ j) × (slice_get (u.sent ++ from_server d.1) j ≡ Some (pushed p))
          there = position_in u.sent (from_server d.1) (pushed p) (subst (λ xs. In (pushed p) (from_server xs)) (sym outs) (inl (ap (λ (y : ToClient). message.ToClient y) (sym is_push))))

  -- The client accepts it

  accepts_next : (k : Client) (b : PushBody) → k.epoch ≡ epoch → k.seen ≡ seen0 → fits b ≡ true → receiver.client_case_of k (record { client = k.number; incarnation = k.incarnation; body = told.Push epoch (suc seen0) b }) ≡ receiver.Accepts b
  accepts_next k b e f g = if_case (λ x. x ≡ receiver.Accepts b) (nat_eq k.number k.number && nat_eq k.incarnation k.incarnation) _ receiver.Ignores
      (λ own. if_case (λ x. x ≡ receiver.Accepts b) (nat_eq epoch k.epoch && fits b) _ receiver.Ignores
      (λ now. if_case (λ x. x ≡ receiver.Accepts b) (nat_eq (suc seen0) (suc k.seen) && nat_le (suc seen0) END) (receiver.Accepts b) _ (λ next. refl)
      (λ bad. absurd (not_both _ (both _ _ (eq-eqb (suc seen0) (suc k.seen) (ap (λ x. suc x) (sym f))) (le-leb (suc seen0) END room)) bad)))
      (λ bad. absurd (not_both _ (both _ _ (eq-eqb epoch k.epoch (sym e)) g) bad)))
      (λ bad. absurd (not_both _ (both _ _ (eq-eqb k.number k.number refl) (eq-eqb k.incarnation k.incarnation refl)) bad))
    where
      both : (a b : Bool) → a ≡ true → b ≡ true → (a && b) ≡ true
      both a b e f = ap (λ x. x && b) e ∙ f

  pub hit_push : (i : ℕ) (b : PushBody) → fits b ≡ true → Hits (λ u. message_at u.sent i ≡ Some (pushed b)) (step.Deliver i) (λ u. ⊥)
  hit_push i b fit u v answer h w sent t = inl (λ l j.
      let k = h.live.at.client in
      let st = standing u h.live.at.server c h.live.at.client h.live.at.reachable h.live.at.up h.live.at.runs in
      let d : ClientReads u (Some k) (record { client = c; incarnation = inc; body = told.Push epoch (suc seen0) b }) v = subst (λ o. ClientReads u o (record { client = c; incarnation = inc; body = told.Push epoch (suc seen0) b }) v) h.live.at.runs (subst (λ o. Delivers u o v) sent t.1.1) in
      let x = w k h.live.at.runs in
      let own : record { client = c; incarnation = inc; body = told.Push epoch (suc seen0) b } ≡ record { client = k.number; incarnation = k.incarnation; body = told.Push epoch (suc seen0) b } = λ z. (let y : ToClient = record { client = sym st.number z; incarnation = sym h.live.at.same z; body = told.Push epoch (suc seen0) b } in y) in
      let case = ap (receiver.client_case_of k) own ∙ accepts_next k b (now_in u h.live k h.live.at.runs) x fit in
      let new : client_of v c ≡ Some (accepted k b) = ap (λ y. client_of y c) d.2 ∙ ap (λ (y : Bool). (if y then (record { last_incarnation = (u.places c).last_incarnation; client = Some (receiver.after k (receiver.client_case_of k (record { client = c; incarnation = inc; body = told.Push epoch (suc seen0) b }))) }) else u.places c).client) (eq-eqb c c refl) ∙ ap (λ y. Some (receiver.after k y)) case in
      let same = some_is (accepted k b) l (sym new ∙ j) in
      let a = (accepted_seen k b).0 in
      subst (λ (y : Client). seen0 < y.seen) same (omega (arith, a, x)))
