-- In each reachable world server and client know the same of a lock request.
use Rattle.krl_progress.proofs.Names.{◌≡◌, ℕ, zero, suc, ◌≤◌, ◌⊎◌, inl, inr, ⊎_elim, ◌∙◌, Option, Some, None, List, [], ◌∷◌, ◌++◌, refl, sym, ap, subst, arith, nat_eq, if◌then◌else◌, same_Some, In, in_both}
use Rattle.krl_progress.proofs.Names.{ToServer, ToClient, Client, Record, Server, is_recovering, lists, Durable, record_of, case_of, Done, effect, answer_first, AnswersWaiters, stops, goes_on, Following, following, Ends, at_once, recovers, serves, ServerStep, nudge, nudge_known, nudge_served, slots, callbacks_of, callbacks_from, callbacks_for, callbacks_of_among, max_clients}
use Rattle.krl_progress.proofs.Names.{Up, State, client_of, IsReachable, from_clients, from_server}
use Rattle.krl_messages.specs.declared.to_server.ToServerBody.TheVariants as said
use Rattle.krl_messages.specs.declared.to_server.Request.{Request}
use Rattle.krl_messages.specs.declared.to_client.ToClientBody.TheVariants as told
use Rattle.krl_messages.specs.declared.to_client.PushBody.{PushBody}
use Rattle.krl_queue.specs.declared.waiter.Waiter.{Waiter}
use Rattle.krl_client.specs.Messages.{joined}
use Rattle.krl_server.specs.Servers.{incarnation_of}
use Rattle.krl_server.specs.Soundness.{IsSound}
use Rattle.krl_server.specs.Invariant.{IsOrdered}
use Rattle.krl_server.proofs.Tests.{if_both}
use Rattle.krl_server.proofs.Invariant.Kept.{server_keeps}
use Rattle.krl_server.proofs.Functions.Standing.{pushes_stand}
use Rattle.krl_world.specs.declared.message.Message.TheVariants as message
use Rattle.krl_world.proofs.Refinement.Mirrors.{in_from_clients, in_from_server}
use Rattle.krl_progress.proofs.Standings.{HasStanding, standing}
use Rattle.krl_progress.proofs.Heard.{HasSaid, HasTold, has_told}
use Rattle.krl_progress.proofs.Doings.{request_of, request_said, Goes, same, locks, adopts, accepts, accepted_same}
use Rattle.krl_progress.proofs.Knowing.{Knows, Heard, effect_knows, turn_knows, effect_epoch}
use Rattle.krl_progress.proofs.Later.{Later, anew, kept, more}
use Rattle.krl_modes.specs.Modes.{cap}
use Rattle.krl_durable.specs.Index.{span_of}
use Rattle.krl_table.specs.Calls.{wanted}
use Rattle.krl_table.specs.Replies.{asks_absent}
use Rattle.krl_server.specs.Callbacks.{is_compatible}
use Rattle.krl_server.specs.Effects.{callback_to, epoch_to}
use Rattle.krl_server.specs.Steps.{nudge_missing}
use Rattle.krl_progress.proofs.Seated.{alike, asks_now, accepts_now, joins_now}

-- A message

answered_knows : (s t : Server) (outs : List ToClient) (c : ℕ) (k : Client) → AnswersWaiters s t outs → IsOrdered s → Knows s c k → Knows t c k
answered_knows s t outs c k (stops x e) o h = h
answered_knows s t outs c k (goes_on x y turn later e rest) o h = answered_knows (answer_first x turn).server y later c k rest (server_keeps.ordered_turn x turn e o) (turn_knows x turn c k e o.table h)

ends_knows : (done : Done) (kind : Following) (t : Server) (outs : List ToClient) (c : ℕ) (k : Client) → Ends done kind t outs → IsOrdered done.server → Knows done.server c k → Knows t c k
ends_knows done kind t outs c k (at_once i) o h = h
ends_knows done kind t outs c k (recovers g) o h = h
ends_knows done kind t outs c k (serves u answers n e a) o h = answered_knows done.server u answers c k a o h

pub step_knows : (s t : Server) (m : ToServer) (outs : List ToClient) (c : ℕ) (k : Client) → IsSound s → IsOrdered s → ServerStep s m t outs → (m.client ≡ c → Heard s m k) → Knows s c k → Knows t c k
step_knows s t m outs c k i o step f h = ends_knows (effect s m (case_of s m)) (following (case_of s m)) t outs c k step (server_keeps.ordered_effect s m i o) (effect_knows s m c k i f h)

-- A world

abbrev pub AllKnow : State → Type 0
AllKnow u = (s : Server) (c : ℕ) (k : Client) → u.server ≡ Up s → client_of u c ≡ Some k → Knows s c k

-- no lock request that was sent in the client's epoch has a number above its last one
abbrev pub Within : State → ℕ → Client → Type 0
Within u c k = (m : ToServer) → m.client ≡ c → In (message.ToServer m) u.sent → m.incarnation ≡ k.incarnation → 1 ≤ k.epoch → (r : Request) → m.body ≡ said.Request r → r.epoch ≡ k.epoch → request_of r.body ≤ k.req

abbrev pub AllWithin : State → Type 0
AllWithin u = (c : ℕ) (k : Client) → client_of u c ≡ Some k → Within u c k

-- the last push to a client is the one that is not acknowledged, wherever it was sent
abbrev pub Same : State → Server → ℕ → Type 0
Same u s c = (m : ToClient) → m.client ≡ c → In (message.ToClient m) u.sent → m.incarnation ≡ incarnation_of s c → (b b1 : PushBody) → m.body ≡ told.Push s.durable.epoch (s.sessions c).last_push b → (s.sessions c).unacked ≡ Some b1 → b ≡ b1

abbrev pub AllSame : State → Type 0
AllSame u = (s : Server) (c : ℕ) → u.server ≡ Up s → Same u s c

-- A client's step

module _ (u v : State) (ru : IsReachable u) (rv : IsReachable v) (s : Server) (up : u.server ≡ Up s) (still : v.server ≡ Up s) (d : ℕ) (k : Client) (runs : client_of u d ≡ Some k) (sameness : Same u s d) (h : Knows s d k) where
  st : HasStanding u s d k
  st = standing u s d k ru up runs

  toldu : HasTold u s d
  toldu = has_told u s d ru up

  pub goes_knows : (l : Client) (ms : List ToServer) → client_of v d ≡ Some l → Goes u d k l ms → Knows s d l
  goes_knows _ _ i (same l ms inc epoch seen req asked most) = record {
    early = λ e lt. h.early (e ∙ inc) (omega (arith, epoch, lt));
    now = λ e. alike (s.sessions d) s.rows d k (h.now (sym epoch ∙ e)) l seen req asked;
  }
  goes_knows _ _ i (locks point hi g free reach) = record { early = λ e lt. h.early e lt; now = λ e. asks_now (s.sessions d) s.rows d k (h.now e) point hi g free }
  goes_knows _ _ i (adopts e ms m at own inc is lt most) = record {
    early = λ f less. h.early f (omega (arith, lt, less));
    now = λ f. let t = (toldu.epochs m own at e is).0 in let reg = st.reg in
        let fresh = h.early (omega (arith, t, reg, inc)) (omega (arith, lt, f)) in
        let after = standing v s d (joined k e) rv still i in
        joins_now (s.sessions d) s.rows d k e fresh (after.acked (omega (arith, lt)) f fresh.none_pushed);
  }
  goes_knows _ _ i (accepts b ms m at own inc is most) = let a = accepted_same k b in record {
    early = λ e lt. h.early (e ∙ a.1) (let q = a.2 in omega (arith, q, lt));
    now = λ e. let here : k.epoch ≡ s.durable.epoch = sym a.2 ∙ e in
        let begun_now = st.begun in
        let mine : m.incarnation ≡ incarnation_of s d = inc ∙ sym (st.joined (omega (arith, here, begun_now))) in
        let low = (toldu.pushes m own at k.epoch (suc k.seen) b is).2 mine here in
        let old = h.now here in let high = old.high in
        let next : (s.sessions d).last_push ≡ suc k.seen = omega (arith, low, high) in
        accepts_now (s.sessions d) s.rows d k old b next (λ b1 f. sameness m own at mine b b1 (is ∙ (λ j. told.Push (here j) (sym next j) b)) f) b refl;
  }

-- numbers of lock requests stay within the client's
pub goes_within : (u v : State) (d : ℕ) (k l : Client) (ms : List ToServer) → HasSaid u d k → Within u d k → v.sent ≡ u.sent ++ from_clients ms → Goes u d k l ms → Within v d l
goes_within u v d k l ms hs h e g m own at inc some r is now = by_goes l ms g (⊎_elim (λ (x : In (message.ToServer m) u.sent). inl x) (λ (x : In (message.ToServer m) (from_clients ms)). inr (in_from_clients m ms x)) (in_both u.sent (from_clients ms) (message.ToServer m) (subst (In (message.ToServer m)) e at))) inc some now
  where
    said_is : request_said m.body ≡ request_of r.body
    said_is = ap request_said is

    by_goes : (l : Client) (ms : List ToServer) → Goes u d k l ms → In (message.ToServer m) u.sent ⊎ In m ms → m.incarnation ≡ l.incarnation → 1 ≤ l.epoch → r.epoch ≡ l.epoch → request_of r.body ≤ l.req
    by_goes _ _ (same l ms i f seen req asked most) (inl x) inc some now = let y = h m own x (inc ∙ i) (omega (arith, some, f)) r is (now ∙ f) in omega (arith, y, req)
    by_goes _ _ (same l ms i f seen req asked most) (inr x) inc some now = let y = (most m x).1 in omega (arith, y, said_is, req)
    by_goes _ _ (locks point hi g free reach) (inl x) inc some now = let y = h m own x inc some r is now in omega (arith, y)
    by_goes _ _ (locks point hi g free reach) (inr (inl x)) inc some now = let y = ap (λ (z : ToServer). request_said z.body) x in omega (arith, y, said_is)
    by_goes _ _ (locks point hi g free reach) (inr (inr x)) inc some now = absurd x
    by_goes _ _ (adopts e ms n a o i b lt most) (inl x) inc some now = absurd (let y = (hs.requests m own x inc r is).0 in omega (arith, y, lt, now))
    by_goes _ _ (adopts e ms n a o i b lt most) (inr x) inc some now = let y = (most m x).1 in omega (arith, y, said_is)
    by_goes _ _ (accepts b ms n a o i p most) (inl x) inc some now = let q = accepted_same k b in let q1 = q.2 in let q2 = q.3 in let y = h m own x (inc ∙ q.1) (omega (arith, some, q1)) r is (now ∙ q1) in omega (arith, y, q2)
    by_goes _ _ (accepts b ms n a o i p most) (inr x) inc some now = let y = (most m x).1 in omega (arith, y, said_is)

-- another client's messages are its own
pub goes_mine : (u : State) (d : ℕ) (k l : Client) (ms : List ToServer) (m : ToServer) → Goes u d k l ms → In m ms → m.client ≡ k.number
goes_mine u d k _ _ m (same l ms i f seen req asked most) at = (most m at).0
goes_mine u d k _ _ m (locks point hi g free reach) (inl e) = ap (λ (z : ToServer). z.client) e
goes_mine u d k _ _ m (locks point hi g free reach) (inr x) = absurd x
goes_mine u d k _ _ m (adopts e ms n a o i b lt most) at = (most m at).0
goes_mine u d k _ _ m (accepts b ms n a o i p most) at = (most m at).0

-- Nudges

abbrev NoPush : List ToClient → Type 0
NoPush outs = (o : ToClient) → In o outs → (e n : ℕ) (b : PushBody) → o.body ≡ told.Push e n b → ⊥

none_push : NoPush []
none_push o at e n b is = absurd at

both_none : (xs ys : List ToClient) → NoPush xs → NoPush ys → NoPush (xs ++ ys)
both_none xs ys h g o at e n b is = ⊎_elim (λ (a : In o xs). h o a e n b is) (λ (a : In o ys). g o a e n b is) (in_both xs ys o at)

one_more : (x : ToClient) (xs : List ToClient) → ((e n : ℕ) (b : PushBody) → x.body ≡ told.Push e n b → ⊥) → NoPush xs → NoPush (x ∷ xs)
one_more x xs f h o (inl g) e n b is = f e n b (sym (ap (λ (z : ToClient). z.body) g) ∙ is)
one_more x xs f h o (inr at) e n b is = h o at e n b is

callbacks_no_push : (s : Server) (n : ℕ) (u : Waiter) (d j : ℕ) → NoPush (callbacks_from s n u d j)
callbacks_no_push s n u d zero = none_push
callbacks_no_push s n u d (suc j) = if_both NoPush (is_compatible s n u d) (callbacks_from s n u (suc d) j) (callback_to s d (span_of s.durable.index n) (cap (wanted (s.rows n) u)) ∷ callbacks_from s n u (suc d) j)
    (callbacks_no_push s n u (suc d) j)
    (one_more (callback_to s d (span_of s.durable.index n) (cap (wanted (s.rows n) u))) (callbacks_from s n u (suc d) j) (λ e m b is. absurd (cc)) (callbacks_no_push s n u (suc d) j))

of_no_push : (s : Server) (c n : ℕ) (us : List Waiter) → NoPush (callbacks_of c s n us)
of_no_push s c n [] = none_push
of_no_push s c n (u ∷ us) = if_both NoPush (nat_eq u.client c) (callbacks_for s n u) [] (if_both NoPush (asks_absent s.durable.index u) [] (callbacks_from s n u 0 max_clients) none_push (callbacks_no_push s n u 0 max_clients)) none_push

among_no_push : (s : Server) (c : ℕ) (ns : List ℕ) → NoPush (callbacks_of_among c s ns)
among_no_push s c [] = none_push
among_no_push s c (n ∷ ns) = both_none (callbacks_of c s n (s.rows n).queue) (callbacks_of_among c s ns) (of_no_push s c n (s.rows n).queue) (among_no_push s c ns)

-- a push of a nudge is the one that is not acknowledged
abbrev Unacked : Server → List ToClient → Type 0
Unacked s outs = (o : ToClient) → In o outs → (e n : ℕ) (b : PushBody) → o.body ≡ told.Push e n b → (s.sessions o.client).unacked ≡ Some b

no_push_unacked : (s : Server) (outs : List ToClient) → NoPush outs → Unacked s outs
no_push_unacked s outs h o at e n b is = absurd (h o at e n b is)

pub nudge_unacked : (s : Server) (c : ℕ) → Unacked s (nudge s c)
nudge_unacked s c = by_record (record_of s.durable.register c)
  where
    served_unacked : (o : Option PushBody) → (s.sessions c).unacked ≡ o → Unacked s (nudge_served s c o)
    served_unacked None f o at e n b is = absurd (among_no_push s c (slots s.durable.index) o at e n b is)
    served_unacked (Some body) f o (inl g) e n b is =
        let x : told.Push s.durable.epoch (s.sessions c).last_push body ≡ told.Push e n b = sym (ap (λ (z : ToClient). z.body) g) ∙ is in
        let same_body : body ≡ b = cc in
        ap (λ d. (s.sessions d).unacked) (ap (λ (z : ToClient). z.client) g) ∙ f ∙ ap (λ y. Some y) same_body
    served_unacked (Some body) f o (inr at) e n b is = absurd at

    by_record : (o : Option Record) → Unacked s (nudge_known s c o)
    by_record None = no_push_unacked s [] none_push
    by_record (Some r) = if_both (Unacked s) r.left [] (if is_recovering s.missing then nudge_missing s c else nudge_served s c (s.sessions c).unacked) (no_push_unacked s [] none_push)
        (if_both (Unacked s) (is_recovering s.missing) (nudge_missing s c) (nudge_served s c (s.sessions c).unacked)
        (if_both (Unacked s) (lists s.missing c) (epoch_to s c ∷ []) [] (no_push_unacked s (epoch_to s c ∷ []) (one_more (epoch_to s c) [] (λ e n b is. absurd (cc)) none_push)) (no_push_unacked s [] none_push))
        (served_unacked (s.sessions c).unacked refl))

-- Pushes of a step

module _ (u v : State) (s t : Server) (c : ℕ) (m : ToServer) (outs : List ToClient) (told_it : HasTold u s c) (h : Same u s c) (step : ServerStep s m t outs) (later : Later s t c) where
  epoch : t.durable.epoch ≡ s.durable.epoch
  epoch = ap (λ (d : Durable). d.epoch) (server_keeps.step_durable s t m outs step) ∙ effect_epoch s m (case_of s m)

  old_push : (o : ToClient) → o.client ≡ c → In (message.ToClient o) u.sent → o.incarnation ≡ incarnation_of t c → (b b1 : PushBody) → o.body ≡ told.Push t.durable.epoch (t.sessions c).last_push b → (t.sessions c).unacked ≡ Some b1 → b ≡ b1
  old_push o own at inc b b1 is e = by_later later
    where
      by_later : Later s t c → b ≡ b1
      by_later (anew lt) = absurd (let x = (told_it.pushes o own at _ _ b is).0 in omega (arith, x, lt, inc))
      by_later (kept i l q) = h o own at (inc ∙ i) b b1 (is ∙ (λ j. told.Push (epoch j) (l j) b)) (q b1 e)
      by_later (more i lt) = absurd (let x = (told_it.pushes o own at _ _ b is).2 (inc ∙ i) epoch in omega (arith, x, lt))

  pub step_same : v.sent ≡ u.sent ++ from_server outs → Same v t c
  step_same sent o own at inc b b1 is e = ⊎_elim (λ (x : In (message.ToClient o) u.sent). old_push o own x inc b b1 is e)
      (λ (x : In (message.ToClient o) (from_server outs)). let y = pushes_stand s t m outs step o _ _ b (in_from_server o outs x) is in same_Some b b1 (sym y.1 ∙ ap (λ d. (t.sessions d).unacked) own ∙ e))
      (in_both u.sent (from_server outs) (message.ToClient o) (subst (In (message.ToClient o)) sent at))
