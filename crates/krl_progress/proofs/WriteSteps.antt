-- What each step makes of a client whose write is outstanding.
use Rattle.krl_progress.proofs.Names.{◌≡◌, ℕ, zero, suc, ◌≤◌, ◌<◌, ◌∙◌, ◌⊎◌, inl, inr, ⊎_elim, Bool, true, false, not, ◌&&◌, ◌||◌, Option, Some, None, is_some, List, [], ◌∷◌, ◌++◌, length, slice_get, refl, sym, ap, subst, arith, nat_eq, nat_lt, nat_le, if◌then◌else◌, eqb-true, eqb-false, ltb-true, ltb-false, eq-eqb, ne_eqb, lt-ltb, le-ltb, END}
use Rattle.krl_progress.proofs.Names.{ToServer, ToClient, In, Client, Message, Pieces, Record, Server, is_recovering, Step, Answer, Up, Down, State, client_of, message_at, Delivers, ServerReads, ClientReads, Runs, Takes, ServerStep, Case, Ignored, Repeats, case_of, effect, from_clients, from_server, record_of, Following, Nothing, following, Ends, at_once, recovers, serves, Done}
use Rattle.std.proofs.Common.{le-leb}
use Rattle.krl_modes.proofs.Basics.{not_both}
use Rattle.krl_messages.proofs.Members.{in_right}
use Rattle.krl_messages.specs.declared.write_op.WriteOp.{WriteOp}
use Rattle.krl_messages.specs.declared.outcome.Outcome.{Outcome}
use Rattle.krl_messages.specs.declared.outcome.Outcome.TheVariants as outcome
use Rattle.krl_messages.specs.declared.to_server.ToServerBody.{ToServerBody}
use Rattle.krl_messages.specs.declared.to_server.ToServerBody.TheVariants as said
use Rattle.krl_messages.specs.declared.to_server.RequestBody.TheVariants as asked
use Rattle.krl_messages.specs.declared.to_client.ToClientBody.TheVariants as told
use Rattle.krl_messages.specs.declared.to_client.PushBody.{PushBody}
use Rattle.krl_messages.specs.declared.to_client.PushBody.TheVariants as push
use Rattle.krl_messages.specs.Writes.{op_key}
use Rattle.krl_server.specs.Servers.{incarnation_of, incarnation_or_0}
use Rattle.krl_server.specs.Cases.{is_malformed, case_of_record, case_of_body, case_of_write, case_of_new_write, case_of_repeated_write, Judges, SeizesLock, case_of_late, is_bad_write, judged}
use Rattle.krl_server.specs.Effects.{push_to}
use Rattle.krl_server.specs.Outputs.{answered_write, IsAnswered}
use Rattle.krl_server.specs.Seizing.{may_seize}
use Rattle.std.specs.Prelude.{IfSome}
use Rattle.krl_modes.specs.Constants.{max_clients}
use Rattle.krl_server.proofs.Tests.{if_case, if_both}
use Rattle.krl_server.proofs.Functions.StepClauses.{answers_said}
use Rattle.krl_server.proofs.Functions.Standing.{pushes_stand}
use Rattle.krl_client.specs.Ticks.{tick, says_hello, lock_again, write_again}
use Rattle.krl_client.specs.Clients.{outstanding}
use Rattle.krl_client.specs.Messages as receiver
use Rattle.krl_client.specs.Messages.{fits, accepted}
use Rattle.krl_steps.specs.declared.step.Step.TheVariants as step
use Rattle.krl_world.specs.declared.message.Message.TheVariants as message
use Rattle.krl_world.proofs.Refinement.ServerMoves.{Way, stays, reads, stops, begins, way}
use Rattle.krl_progress.specs.Rounds.{loses_a_node}
use Rattle.krl_progress.proofs.Moves.{Moves, moves, still_sent, client_follows, some_is, within_end, write_within}
use Rattle.krl_progress.proofs.Standings.{HasStanding, standing}
use Rattle.krl_progress.proofs.Hearing.{all_false}
use Rattle.krl_progress.proofs.Recovers.{same_up, At, at_kept, run_hits, Joined, joined_kept, near}
use Rattle.krl_progress.proofs.GivesWay.{step_serves}
use Rattle.krl_progress.proofs.Fits.{SessionsFit, step_fits, all_pushes_fit}
use Rattle.krl_progress.proofs.CallsBack.{in_order}

-- A server that serves

abbrev pub Serves : State → Type 0
Serves u = (s : Server) → u.server ≡ Up s → is_recovering s.missing ≡ false

pub serves_kept : (u v : State) (taken : Step) (answer : Answer) → loses_a_node taken ≡ false → (s : Server) → u.server ≡ Up s → Serves u → Takes u taken answer v → Serves v
serves_kept u v taken answer calm s up h t x e = by_way (way u v taken answer t.1)
  where
    by_way : Way u v taken → is_recovering x.missing ≡ false
    by_way (stays f) = h x (sym f ∙ e)
    by_way (reads old new m outs f g at step) = subst (λ (y : Server). is_recovering y.missing ≡ false) (same_up new x (sym g ∙ e)) (step_serves old new m outs (h old f) step)
    by_way (stops old f a g) = absurd (let y : loses_a_node step.CrashServer ≡ false = subst (λ y. loses_a_node y ≡ false) f calm in cc)
    by_way (begins d f g) = absurd (let y : Down d ≡ Up s = sym f ∙ up in cc)

-- Lists

pub in_at : {A : Type 0} (xs : List A) (x : A) → In x xs → (i : ℕ) × (slice_get xs i ≡ Some x)
in_at [] x h = absurd h
in_at (y ∷ xs) x (inl e) = (zero, ap (λ z. Some z) (sym e))
in_at (y ∷ xs) x (inr h) = let r = in_at xs x h in (suc r.0, r.1)

pub position_in : {A : Type 0} (xs ys : List A) (x : A) → In x ys → (i : ℕ) × (length xs ≤ i) × (slice_get (xs ++ ys) i ≡ Some x)
position_in [] ys x h = let r = in_at ys x h in (r.0, omega arith, r.1)
position_in (z ∷ xs) ys x h = let r = position_in xs ys x h in let l : length (z ∷ xs) ≡ suc (length xs) = refl in (suc r.0, (let a = r.1 in omega (arith, a, l)), r.2)

pub to_server : (o : ToClient) (outs : List ToClient) → In o outs → In (message.ToClient o) (from_server outs)
to_server o [] i = absurd i
to_server o (x ∷ outs) (inl e) = inl (ap (λ y. message.ToClient y) e)
to_server o (x ∷ outs) (inr i) = inr (to_server o outs i)

pub to_clients : (m : ToServer) (ms : List ToServer) → In m ms → In (message.ToServer m) (from_clients ms)
to_clients m [] h = absurd h
to_clients m (x ∷ ms) (inl e) = inl (ap (λ y. message.ToServer y) e)
to_clients m (x ∷ ms) (inr h) = inr (to_clients m ms h)

-- what a step of a case that does not act sends, and what any step sends first
pub ends_idle : (done : Done) (kind : Following) (t : Server) (outs : List ToClient) → kind ≡ Nothing → Ends done kind t outs → outs ≡ done.outs
ends_idle done kind t outs e (at_once i) = refl
ends_idle done kind t outs e (recovers g) = refl
ends_idle done kind t outs e (serves u answers n g a) = absurd (n e)

-- One client and its write

module _ (c inc epoch seen0 number : ℕ) (op : WriteOp) (some : 1 ≤ epoch) (room : seen0 < END) (n : ℕ) where
  pub record Live (u : State) : Type 0 where
    pub at : At c inc epoch n u
    pub joined : Joined c epoch u
    pub serves : Serves u

  pub live_kept : (u v : State) (s : Step) (answer : Answer) → loses_a_node s ≡ false → Live u → Takes u s answer v → Live v
  live_kept u v s answer calm h t = record {
    at = at_kept c inc epoch n u v s answer calm h.at t;
    joined = joined_kept c inc epoch n u v s answer calm h.at h.joined t;
    serves = serves_kept u v s answer calm h.at.server h.at.up h.serves t;
  }

  -- the client is in the server's epoch
  pub now : (u : State) → Live u → (k : Client) → client_of u c ≡ Some k → k.epoch ≡ epoch
  now u h k e =
      let st = standing u h.at.server c k h.at.reachable h.at.up e in
      let low = h.joined k e in let high = st.epoch in let same = h.at.now in omega (arith, low, high, same)

  abbrev pub Risen : State → Type 0
  Risen u = (k : Client) → client_of u c ≡ Some k → seen0 < k.seen

  abbrev pub Waits : State → Type 0
  Waits u = (k : Client) → client_of u c ≡ Some k → (k.seen ≡ seen0) × (outstanding k.written ≡ Some op) × (k.writes ≡ number)

  pub follows : (u v : State) (s : Step) (answer : Answer) → loses_a_node s ≡ false → Live u → Takes u s answer v → (k l : Client) → client_of u c ≡ Some k → client_of v c ≡ Some l → (k.seen < l.seen) ⊎ ((l.seen ≡ k.seen) × ((outstanding k.written ≡ None) ⊎ ((l.written ≡ k.written) × (l.writes ≡ k.writes))))
  follows u v s answer calm h t k l i j =
      let m = subst (λ b. Moves b u v) calm (moves u v s answer t) in
      client_follows u v c k l m i j (now v (live_kept u v s answer calm h t) l j ∙ sym (now u h k i))

  pub risen_kept : (u v : State) (s : Step) (answer : Answer) → loses_a_node s ≡ false → Live u → Risen u → Takes u s answer v → Risen v
  risen_kept u v s answer calm h r t l j =
      let low = r h.at.client h.at.runs in
      ⊎_elim (λ (x : h.at.client.seen < l.seen). omega (arith, x, low)) (λ (x : (l.seen ≡ h.at.client.seen) × ((outstanding h.at.client.written ≡ None) ⊎ ((l.written ≡ h.at.client.written) × (l.writes ≡ h.at.client.writes)))). let e = x.0 in omega (arith, e, low))
      (follows u v s answer calm h t h.at.client l h.at.runs j)

  pub waits_kept : (u v : State) (s : Step) (answer : Answer) → loses_a_node s ≡ false → Live u → Waits u → Takes u s answer v → Risen v ⊎ Waits v
  waits_kept u v s answer calm h w t =
      let k = h.at.client in
      let old = w k h.at.runs in
      let g = live_kept u v s answer calm h t in
      let l = g.at.client in
      let other : (x : Client) → client_of v c ≡ Some x → l ≡ x = λ x e. some_is l x (sym g.at.runs ∙ e) in
      ⊎_elim (λ (x : k.seen < l.seen). inl (λ y e. subst (λ (z : Client). seen0 < z.seen) (other y e) (let a = old.0 in omega (arith, x, a))))
      (λ (x : (l.seen ≡ k.seen) × ((outstanding k.written ≡ None) ⊎ ((l.written ≡ k.written) × (l.writes ≡ k.writes)))).
      ⊎_elim (λ (y : outstanding k.written ≡ None). absurd (let bad : Some op ≡ None = sym old.1 ∙ y in cc))
      (λ (y : (l.written ≡ k.written) × (l.writes ≡ k.writes)). inr (λ z e. subst (λ (a : Client). (a.seen ≡ seen0) × (outstanding a.written ≡ Some op) × (a.writes ≡ number)) (other z e) (x.0 ∙ old.0, ap outstanding y.0 ∙ old.1, y.1 ∙ old.2))) x.1)
      (follows u v s answer calm h t k l h.at.runs g.at.runs)

  -- the client accepted a push, or this
  abbrev pub Or : (State → Type 0) → State → Type 0
  Or X u = Live u × (Risen u ⊎ (Waits u × X u))

  abbrev pub Lasts : (State → Type 0) → Type 0
  Lasts X = (u v : State) (s : Step) (answer : Answer) → loses_a_node s ≡ false → X u → Takes u s answer v → X v

  pub or_kept : (X : State → Type 0) → Lasts X → (u v : State) (s : Step) (answer : Answer) → loses_a_node s ≡ false → Or X u → Takes u s answer v → Or X v
  or_kept X x u v s answer calm h t = (live_kept u v s answer calm h.0 t, by_case h.1)
    where
      by_case : Risen u ⊎ (Waits u × X u) → Risen v ⊎ (Waits v × X v)
      by_case (inl r) = inl (risen_kept u v s answer calm h.0 r t)
      by_case (inr w) = ⊎_elim (λ (a : Risen v). inl a) (λ (a : Waits v). inr (a, x u v s answer calm w.1 t)) (waits_kept u v s answer calm h.0 w.0 t)

  -- one step that hits, in a run from what lasts until then
  pub or_hits : (X Y : State → Type 0) (s0 : Step) → Lasts X → loses_a_node s0 ≡ false → ((u v : State) (answer : Answer) → Live u → Waits u → X u → Takes u s0 answer v → Risen v ⊎ Y v) → (u v : State) (answer : Answer) → Or X u → Takes u s0 answer v → Or Y v
  or_hits X Y s0 x calm hits u v answer h t = (live_kept u v s0 answer calm h.0 t, by_case h.1)
    where
      by_case : Risen u ⊎ (Waits u × X u) → Risen v ⊎ (Waits v × Y v)
      by_case (inl r) = inl (risen_kept u v s0 answer calm h.0 r t)
      by_case (inr w) = ⊎_elim (λ (a : Risen v). inl a) (λ (a : Waits v). ⊎_elim (λ (b : Risen v). inl b) (λ (b : Y v). inr (a, b)) (hits u v answer h.0 w.0 w.1 t)) (waits_kept u v s0 answer calm h.0 w.0 t)

  pub one : (X Y : State → Type 0) (s0 : Step) → Lasts X → Lasts Y → loses_a_node s0 ≡ false → ((u v : State) (answer : Answer) → Live u → Waits u → X u → Takes u s0 answer v → Risen v ⊎ Y v) → (u v : State) (steps : List Step) → ((s : Step) → In s steps → loses_a_node s ≡ false) → In s0 steps → Or X u → Runs u steps v → Or Y v
  one X Y s0 x y calm hits u v steps all i h r = run_hits (Or X) (Or Y) s0 (or_kept X x) (or_kept Y y) (or_hits X Y s0 x calm hits) steps u v all i h r

  -- The Write that a tick sends, which takes its lock or not

  abbrev pub write_body : Bool → ToServerBody
  write_body seizes = said.Request (record { epoch = epoch; seen = seen0; body = asked.Write number op seizes })

  abbrev pub the_write : Bool → ToServer
  the_write seizes = record { client = c; incarnation = inc; body = write_body seizes }

  abbrev pub write_said : Bool → Message
  write_said seizes = message.ToServer (the_write seizes)

  -- the message comes after number n
  pub record Sent (m : Message) (u : State) : Type 0 where
    pub index : ℕ
    pub above : n < index
    pub sent : message_at u.sent index ≡ Some m

  pub sent_lasts : (m : Message) → Lasts (Sent m)
  sent_lasts m u v s answer calm h t = record { index = h.index; above = h.above; sent = still_sent (loses_a_node s) u v h.index m (moves u v s answer t) h.sent }

  pub record WriteSent (u : State) : Type 0 where
    pub seizes : Bool
    pub sent : Sent (write_said seizes) u

  pub write_lasts : Lasts WriteSent
  write_lasts u v s answer calm h t = record { seizes = h.seizes; sent = sent_lasts (write_said h.seizes) u v s answer calm h.sent t }

  pub tick_says : (k : Client) (ps : Pieces) → k.number ≡ c → k.incarnation ≡ inc → k.epoch ≡ epoch → k.seen ≡ seen0 → outstanding k.written ≡ Some op → k.writes ≡ number → In (the_write k.seizes) (tick ps k)
  tick_says k ps a b e f o w = if_case (λ xs. In (the_write k.seizes) xs) (nat_lt 0 k.epoch) _ (says_hello k ∷ [])
      (λ j. inr (in_right (lock_again k k.asked) (write_again k (outstanding k.written)) _
      (subst (λ x. In (the_write k.seizes) (write_again k x)) (sym o)
      (inl (λ i. record { client = sym a i; incarnation = sym b i; body = said.Request (record { epoch = sym e i; seen = sym f i; body = asked.Write (sym w i) op k.seizes }) })))))
      (λ j. absurd (let x = ltb-false 0 k.epoch j in omega (arith, x, e, some)))

  pub hit_tick : (u v : State) (answer : Answer) → Live u → Waits u → Takes u (step.Tick c) answer v → Risen v ⊎ WriteSent v
  hit_tick u v answer h w t =
      let d = t.1.1 in
      let st = standing u h.at.server c d.0 h.at.reachable h.at.up d.1 in
      let x = w d.0 d.1 in
      let same : d.0.incarnation ≡ inc = ap (λ (y : Client). y.incarnation) (some_is d.0 h.at.client (sym d.1 ∙ h.at.runs)) ∙ h.at.same in
      let says = tick_says d.0 d.2.0 st.number same (now u h d.0 d.1) x.0 x.1 x.2 in
      let p = position_in u.sent (from_clients (tick d.2.0 d.0)) (write_said d.0.seizes) (to_clients _ (tick d.2.0 d.0) says) in
      inr (record { seizes = d.0.seizes; sent = record { index = suc p.0; above = (let a = p.1 in let b = h.at.long in omega (arith, a, b)); sent = subst (λ xs. slice_get xs p.0 ≡ Some (write_said d.0.seizes)) (sym (ap (λ (y : State). y.sent) d.2.2)) p.2 } })

  -- What the server makes of it

  -- the server answers the write, or sends again the push that the client has not accepted
  pub data Does (s : Server) (x : Case) : Type 0 where
    answers : (o : Outcome) → answered_write x ≡ Some (number, o) → (s.sessions c).last_push ≡ seen0 → Does s x
    again : (b : PushBody) → x ≡ Repeats b → (s.sessions c).unacked ≡ Some b → (s.sessions c).last_push ≡ suc seen0 → Does s x

  module _ (seizes : Bool) (u : State) (h : Live u) (w : Waits u) where
    s : Server
    s = h.at.server

    k : Client
    k = h.at.client

    st : HasStanding u h.at.server c h.at.client
    st = standing u h.at.server c h.at.client h.at.reachable h.at.up h.at.runs

    in_epoch : h.at.client.epoch ≡ h.at.server.durable.epoch
    in_epoch = now u h h.at.client h.at.runs ∙ sym h.at.now

    joined_now : 1 ≤ h.at.client.epoch
    joined_now = let x = now u h h.at.client h.at.runs in omega (arith, x, some)

    own : incarnation_of h.at.server c ≡ h.at.client.incarnation
    own = st.joined joined_now

    -- the number is the next write's, or the last one's
    write_case : (r : Record) → record_of h.at.server.durable.register c ≡ Some r → (h.at.server.sessions c).last_push ≡ seen0 → Does h.at.server (case_of_write h.at.server c r number op seizes)
    write_case r e l =
        let x = w h.at.client h.at.runs in
        let good = write_within u h.at.reachable c h.at.client h.at.runs op x.1 in
        let one_up : 1 ≤ number = ⊎_elim (λ (a : 1 ≤ h.at.client.writes). let b = x.2 in omega (arith, a, b)) (λ (a : outstanding h.at.client.written ≡ None). absurd (let bad : Some op ≡ None = sym x.1 ∙ a in cc)) st.numbered in
        let top : number ≤ END = (let a = good.1 in let b = x.2 in omega (arith, a, b)) in
        let counted = st.counted r e (sym (ap incarnation_or_0 e) ∙ own) in
        if_case (Does h.at.server) (is_bad_write number op) _ _
        (λ bad. absurd (not_both _ bad (all_false (nat_lt (op_key op) END) (nat_eq number 0) (nat_lt END number) (lt-ltb (op_key op) END good.0) (ne_eqb number 0 (λ z. omega (arith, z, one_up))) (le-ltb END number top))))
        (λ fine. if_case (Does h.at.server) (nat_eq number (suc r.last)) _ _
        (λ next. new_case l)
        (λ not_next. if_case (Does h.at.server) (nat_eq number r.last) (case_of_repeated_write number op r.outcome) _
        (λ last. last_case r e r.outcome refl l (eqb-true number r.last last) one_up)
        (λ not_last. absurd (let a = counted.0 in let b = counted.1 in let y = x.2 in let p = eqb-false number (suc r.last) not_next in let q = eqb-false number r.last not_last in omega (arith, a, b, y, p, q)))))
      where
        new_case : (h.at.server.sessions c).last_push ≡ seen0 → Does h.at.server (case_of_new_write h.at.server c number op seizes)
        new_case l = if_both (Does h.at.server) (seizes && may_seize h.at.server c op) (SeizesLock number op) (Judges number op (judged h.at.server c op)) (answers outcome.Applied refl l) (answers (judged h.at.server c op) refl l)

        last_case : (r : Record) → record_of h.at.server.durable.register c ≡ Some r → (o : Option Outcome) → r.outcome ≡ o → (h.at.server.sessions c).last_push ≡ seen0 → number ≡ r.last → 1 ≤ number → Does h.at.server (case_of_repeated_write number op o)
        last_case r e (Some o) f l is some = answers o refl l
        last_case r e None f l is some = absurd (let order = (in_order u h.at.server h.at.reachable h.at.up).1 in
            let has = order.outcomes c r e in
            let zero_is : nat_eq r.last 0 ≡ false = ne_eqb r.last 0 (λ z. omega (arith, z, is, some)) in
            let bad : false ≡ true = ap is_some (sym f) ∙ has ∙ ap not zero_is in cc)

    late_case : (o : Option PushBody) → (h.at.server.sessions c).unacked ≡ o → nat_eq seen0 (h.at.server.sessions c).last_push ≡ false → Does h.at.server (case_of_late seen0 (h.at.server.sessions c).last_push o)
    late_case None e f = absurd (let a = st.acked joined_now in_epoch e in let x = (w h.at.client h.at.runs).0 in eqb-false seen0 (h.at.server.sessions c).last_push f (sym x ∙ sym a))
    late_case (Some b) e f =
        let up = st.upper joined_now in_epoch in
        let low = st.seen joined_now in_epoch in
        let x = (w h.at.client h.at.runs).0 in
        let ne = eqb-false seen0 (h.at.server.sessions c).last_push f in
        let is : (h.at.server.sessions c).last_push ≡ suc seen0 = omega (arith, up, low, x, ne) in
        if_case (Does h.at.server) (nat_eq (suc seen0) (h.at.server.sessions c).last_push) (Repeats b) Ignored (λ yes. again b refl e is) (λ other. absurd (eqb-false (suc seen0) (h.at.server.sessions c).last_push other (sym is)))

    body_case : (r : Record) → record_of h.at.server.durable.register c ≡ Some r → Does h.at.server (case_of_body h.at.server c r (write_body seizes))
    body_case r e = if_case (Does h.at.server) (nat_eq epoch h.at.server.durable.epoch) _ _
        (λ yes. if_case (Does h.at.server) (is_recovering h.at.server.missing) Ignored _ (λ bad. absurd (not_both _ bad (h.serves h.at.server h.at.up)))
        (λ fine. if_case (Does h.at.server) (nat_eq seen0 (h.at.server.sessions c).last_push) _ _
        (λ at. write_case r e (sym (eqb-true seen0 (h.at.server.sessions c).last_push at)))
        (λ past. late_case (h.at.server.sessions c).unacked refl past)))
        (λ other. absurd (eqb-false epoch h.at.server.durable.epoch other (sym h.at.now)))

    abbrev write : ToServer
    write = the_write seizes

    record_case : (o : Option Record) → record_of h.at.server.durable.register c ≡ o → Does h.at.server (case_of_record h.at.server write o)
    record_case None e = absurd (let x = st.some in let y = ap incarnation_or_0 e in let z = own in omega (arith, x, y, z))
    record_case (Some r) e =
        let y : r.incarnation ≡ inc = sym (ap incarnation_or_0 e) ∙ own ∙ h.at.same in
        if_case (Does h.at.server) (nat_lt r.incarnation inc) _ _
        (λ lt. absurd (let x = ltb-true r.incarnation inc lt in omega (arith, x, y)))
        (λ ge. if_case (Does h.at.server) (nat_lt inc r.incarnation || r.left) Ignored _
        (λ bad. absurd (not_both _ bad (ap (λ b. b || r.left) (le-ltb inc r.incarnation (omega (arith, y))) ∙ st.here r e (y ∙ sym h.at.same))))
        (λ fine. body_case r e))

    write_does : Does h.at.server (case_of h.at.server write)
    write_does = if_case (Does h.at.server) (is_malformed write) Ignored _
        (λ bad. absurd (not_both _ bad (all_false (nat_lt c max_clients) (nat_eq inc 0) (nat_lt END inc) (near c inc epoch n u h.at)
        (ne_eqb inc 0 (λ e. let x = st.some in let y = h.at.same in omega (arith, x, e, y)))
        (le-ltb END inc (let x = within_end u h.at.reachable c h.at.client h.at.runs in let y = h.at.same in omega (arith, x, y))))))
        (λ fine. record_case (record_of h.at.server.durable.register c) refl)

  abbrev pub pushed : PushBody → Message
  pushed b = message.ToClient (record { client = c; incarnation = inc; body = told.Push epoch (suc seen0) b })

  pub record Pushed (u : State) : Type 0 where
    pub body : PushBody
    pub fits : fits body ≡ true
    pub sent : Sent (pushed body) u

  pub pushed_lasts : Lasts Pushed
  pushed_lasts u v s answer calm h t = record { body = h.body; fits = h.fits; sent = sent_lasts (pushed h.body) u v s answer calm h.sent t }

  -- the push is among what the step sends
  pub hit_write : (seizes : Bool) (i : ℕ) (u v : State) (answer : Answer) → Live u → Waits u → message_at u.sent i ≡ Some (write_said seizes) → Takes u (step.Deliver i) answer v → Risen v ⊎ Pushed v
  hit_write seizes i u v answer h w sent t =
      inr (by_does (write_does seizes u h w) d.2)
    where
      d : ServerReads u (Up h.at.server) (the_write seizes) v
      d = subst (λ x. ServerReads u x (the_write seizes) v) h.at.up (subst (λ o. Delivers u o v) sent t.1.1)

      g : Live v
      g = live_kept u v (step.Deliver i) answer refl h t

      -- the server after the step
      same : d.0 ≡ g.at.server
      same = same_up d.0 g.at.server (sym (ap (λ (y : State). y.server) d.3) ∙ g.at.up)

      fit : SessionsFit d.0
      fit = let order = in_order u h.at.server h.at.reachable h.at.up in step_fits h.at.server d.0 (the_write seizes) d.1 order.0 order.1 (all_pushes_fit u h.at.server h.at.reachable h.at.up) d.2

      inc_after : incarnation_of g.at.server c ≡ inc
      inc_after = let st = standing v g.at.server c g.at.client g.at.reachable g.at.up g.at.runs in st.joined (let x = now v g g.at.client g.at.runs in omega (arith, x, some)) ∙ g.at.same

      -- a push of the server after the step
      is_push : (x : Server) (b : PushBody) → incarnation_of x c ≡ inc → x.durable.epoch ≡ epoch → push_to x c (suc seen0) b ≡ record { client = c; incarnation = inc; body = told.Push epoch (suc seen0) b }
      is_push x b e f = λ j. record { client = c; incarnation = e j; body = told.Push (f j) (suc seen0) b }

      found : (b : PushBody) → In (push_to g.at.server c (suc seen0) b) d.1 → Pushed v
      found b at =
          let e = is_push g.at.server b inc_after g.at.now in
          let here = subst (λ y. In (message.ToClient y) (from_server d.1)) e (to_server (push_to g.at.server c (suc seen0) b) d.1 at) in
          let p = position_in u.sent (from_server d.1) (pushed b) here in
          let stands = pushes_stand h.at.server d.0 (the_write seizes) d.1 d.2 (push_to g.at.server c (suc seen0) b) g.at.server.durable.epoch (suc seen0) b at refl in record {
            body = b;
            fits = fit c b stands.1;
            sent = record { index = suc p.0; above = (let x = p.1 in let y = h.at.long in omega (arith, x, y)); sent = subst (λ xs. slice_get xs p.0 ≡ Some (pushed b)) (sym (ap (λ (y : State). y.sent) d.3)) p.2 };
          }

      by_does : Does h.at.server (case_of h.at.server (the_write seizes)) → ServerStep h.at.server (the_write seizes) d.0 d.1 → Pushed v
      by_does (answers o e l) step =
          let said = answers_said h.at.server d.0 (the_write seizes) d.1 step in
          let is : IsAnswered h.at.server c d.0 d.1 (number, o) = subst (λ x. IfSome x (IsAnswered h.at.server c d.0 d.1)) e said in
          let one_answer = is.once (subst (λ x. x < END) (sym l) room) in
          let b : PushBody = push.Answer number o one_answer.holding in
          let first : d.1 ≡ push_to g.at.server c (suc seen0) b ∷ one_answer.others = one_answer.first ∙ ap (λ x. push_to x c (suc (h.at.server.sessions c).last_push) b ∷ one_answer.others) same ∙ ap (λ x. push_to g.at.server c (suc x) b ∷ one_answer.others) l in
          found b (subst (λ xs. In (push_to g.at.server c (suc seen0) b) xs) (sym first) (inl refl))
      by_does (again b e f l) step =
          let outs : d.1 ≡ push_to h.at.server c (h.at.server.sessions c).last_push b ∷ [] = ends_idle (effect h.at.server (the_write seizes) (case_of h.at.server (the_write seizes))) (following (case_of h.at.server (the_write seizes))) d.0 d.1 (ap following e) step ∙ ap (λ x. (effect h.at.server (the_write seizes) x).outs) e in
          let st = standing u h.at.server c h.at.client h.at.reachable h.at.up h.at.runs in
          let own_inc : incarnation_of h.at.server c ≡ inc = st.joined (let x = now u h h.at.client h.at.runs in omega (arith, x, some)) ∙ h.at.same in
          let old : push_to h.at.server c (h.at.server.sessions c).last_push b ≡ record { client = c; incarnation = inc; body = told.Push epoch (suc seen0) b } = λ j. record { client = c; incarnation = own_inc j; body = told.Push (h.at.now j) (l j) b } in
          let first : d.1 ≡ push_to g.at.server c (suc seen0) b ∷ [] = outs ∙ ap (λ x. x ∷ []) (old ∙ sym (is_push g.at.server b inc_after g.at.now)) in
          found b (subst (λ xs. In (push_to g.at.server c (suc seen0) b) xs) (sym first) (inl refl))

  -- The client accepts the push

  pub accepts : (k : Client) (b : PushBody) → k.epoch ≡ epoch → k.seen ≡ seen0 → fits b ≡ true → receiver.client_case_of k (record { client = k.number; incarnation = k.incarnation; body = told.Push epoch (suc seen0) b }) ≡ receiver.Accepts b
  accepts k b e f g = if_case (λ x. x ≡ receiver.Accepts b) (nat_eq k.number k.number && nat_eq k.incarnation k.incarnation) _ receiver.Ignores
      (λ own. if_case (λ x. x ≡ receiver.Accepts b) (nat_eq epoch k.epoch && fits b) _ receiver.Ignores
      (λ now. if_case (λ x. x ≡ receiver.Accepts b) (nat_eq (suc seen0) (suc k.seen) && nat_le (suc seen0) END) (receiver.Accepts b) _ (λ next. refl)
      (λ bad. absurd (not_both _ (both _ _ (eq-eqb (suc seen0) (suc k.seen) (ap (λ x. suc x) (sym f))) (le-leb (suc seen0) END room)) bad)))
      (λ bad. absurd (not_both _ (both _ _ (eq-eqb epoch k.epoch (sym e)) g) bad)))
      (λ bad. absurd (not_both _ (both _ _ (eq-eqb k.number k.number refl) (eq-eqb k.incarnation k.incarnation refl)) bad))
    where
      both : (a b : Bool) → a ≡ true → b ≡ true → (a && b) ≡ true
      both a b e f = ap (λ x. x && b) e ∙ f

  pub seen_next : (k : Client) (b : PushBody) → (accepted k b).seen ≡ suc k.seen
  seen_next k (push.Grant req hs) = refl
  seen_next k (push.Absent req point) = refl
  seen_next k (push.Answer x o h) = refl

  pub hit_push : (i : ℕ) (b : PushBody) → fits b ≡ true → (u v : State) (answer : Answer) → Live u → Waits u → message_at u.sent i ≡ Some (pushed b) → Takes u (step.Deliver i) answer v → Risen v
  hit_push i b fit u v answer h w sent t l j =
      let k = h.at.client in
      let st = standing u h.at.server c h.at.client h.at.reachable h.at.up h.at.runs in
      let m : ToClient = record { client = c; incarnation = inc; body = told.Push epoch (suc seen0) b } in
      let d : ClientReads u (Some k) (record { client = c; incarnation = inc; body = told.Push epoch (suc seen0) b }) v = subst (λ o. ClientReads u o (record { client = c; incarnation = inc; body = told.Push epoch (suc seen0) b }) v) h.at.runs (subst (λ o. Delivers u o v) sent t.1.1) in
      let x = w k h.at.runs in
      let mine : record { client = c; incarnation = inc; body = told.Push epoch (suc seen0) b } ≡ record { client = k.number; incarnation = k.incarnation; body = told.Push epoch (suc seen0) b } = λ z. (let y : ToClient = record { client = sym st.number z; incarnation = sym h.at.same z; body = told.Push epoch (suc seen0) b } in y) in
      let case = ap (receiver.client_case_of k) mine ∙ accepts k b (now u h k h.at.runs) x.0 fit in
      let new : client_of v c ≡ Some (accepted k b) = ap (λ y. client_of y c) d.2 ∙ ap (λ (y : Bool). (if y then (record { last_incarnation = (u.places c).last_incarnation; client = Some (receiver.after k (receiver.client_case_of k (record { client = c; incarnation = inc; body = told.Push epoch (suc seen0) b }))) }) else u.places c).client) (eq-eqb c c refl) ∙ ap (λ y. Some (receiver.after k y)) case in
      let same = some_is (accepted k b) l (sym new ∙ j) in
      let a = seen_next k b in let e = x.0 in
      subst (λ (y : Client). seen0 < y.seen) same (omega (arith, a, e))

  -- Rounds

  pub nothing : Lasts (λ u. Unit {0})
  nothing u v s answer calm x t = tt
