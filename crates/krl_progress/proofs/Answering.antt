-- An outstanding write is answered within six good rounds: at most one other push comes before its answer.
use Rattle.krl_progress.proofs.Names.{◌≡◌, ℕ, zero, suc, ◌≤◌, ◌<◌, ◌⊎◌, inl, inr, ⊎_elim, ◌∙◌, Bool, true, false, ◌&&◌, Option, Some, None, List, [], ◌∷◌, length, is_some, refl, sym, ap, subst, arith, nat_eq, if◌then◌else◌, eq-eqb, END, In}
use Rattle.krl_progress.proofs.Names.{ToServer, ToClient, Client, Server, is_recovering, Step, Up, Down, State, ServerPlace, client_of, Runs, IsReachable, is_serving}
use Rattle.krl_messages.specs.declared.write_op.WriteOp.{WriteOp}
use Rattle.krl_messages.specs.declared.outcome.Outcome.{Outcome}
use Rattle.krl_messages.specs.declared.to_client.ToClientBody.TheVariants as told
use Rattle.krl_messages.specs.declared.to_client.PushBody.{PushBody}
use Rattle.krl_messages.specs.declared.to_client.PushBody.TheVariants as push
use Rattle.krl_client.specs.Clients.{is_waiting, outstanding, LastWrite, Unwritten, Outstanding, Judged, LockRequest, Granted, Absent, begun}
use Rattle.krl_client.specs.Messages as receiver
use Rattle.krl_client.specs.Messages.{accepted, asked_after}
use Rattle.krl_server.specs.Servers.{incarnation_of}
use Rattle.krl_modes.proofs.Basics.{not_both}
use Rattle.krl_world.specs.declared.message.Message.TheVariants as message
use Rattle.krl_progress.specs.Requests.{IsAwaited}
use Rattle.krl_progress.specs.Rounds.{loses_a_node, Rounds}
use Rattle.krl_progress.specs.Writes.{WritesAreAnsweredIn}
use Rattle.krl_progress.proofs.Moves.{some_is, moves, longer}
use Rattle.krl_progress.proofs.Standings.{HasStanding, standing}
use Rattle.krl_progress.proofs.Heard.{has_told}
use Rattle.krl_progress.proofs.Recovers.{same_up}
use Rattle.krl_progress.proofs.Doings.{Goes, same, locks, adopts, accepts, WriteGoes, Does, rests, goes, starts, ends, reads, nudges, stops, begins, does}
use Rattle.krl_progress.proofs.Agreed.{Agrees, agrees, by_place, new_place}
use Rattle.krl_progress.proofs.Awaited.{awaits}
use Rattle.krl_progress.proofs.WriteSteps.{Live, live_kept, now}
use Rattle.krl_progress.proofs.WritesMove.{serving_now, nobody_listed, writes_move_on}

-- What a client whose write is outstanding has become

-- it has asked for another lock, or made another write, or its write is answered
abbrev IsOver : ℕ → ℕ → Client → Type 0
IsOver req number k = (req < k.req) ⊎ ((number < k.writes) ⊎ ((k.writes ≡ number) × (outstanding k.written ≡ None)))

-- or it has accepted no push, or the reply to its lock request
abbrev IsOnItsWay : ℕ → ℕ → ℕ → Client → Type 0
IsOnItsWay seen req number k = (k.req ≡ req) × (k.writes ≡ number) × ((k.seen ≡ seen) ⊎ ((k.seen ≡ suc seen) × (is_waiting k.asked ≡ false)))

abbrev Follows : ℕ → ℕ → ℕ → Client → Type 0
Follows seen req number k = IsOver req number k ⊎ IsOnItsWay seen req number k

-- the push that the client accepts
pub judged_now : (k : Client) (number : ℕ) (o : Outcome) (x : LastWrite) → is_some (outstanding x) ≡ true → number ≡ k.writes → outstanding (receiver.judged_as k number o x) ≡ None
judged_now k number o Unwritten some is = absurd (cc)
judged_now k number o (Outstanding change) some is = ap (λ n. outstanding (if nat_eq n k.writes then Judged o else Outstanding change)) is ∙ ap (λ b. outstanding (if b then Judged o else Outstanding change)) (eq-eqb k.writes k.writes refl)
judged_now k number o (Judged old) some is = absurd (cc)

pub replied : (k : Client) (req : ℕ) (reply : LockRequest) → is_waiting reply ≡ false → is_waiting k.asked ≡ true → req ≡ k.req → is_waiting (asked_after k req k.asked reply) ≡ false
replied k req reply free w is = ap (λ b. is_waiting (if b && nat_eq req k.req then reply else k.asked)) w ∙ ap (λ b. is_waiting (if b then reply else k.asked)) (eq-eqb req k.req is) ∙ free

accepts_awaited : (seen req number : ℕ) (k : Client) (b : PushBody) → IsAwaited k b → IsOnItsWay seen req number k → Follows seen req number (accepted k b)
accepts_awaited seen req number k (push.Grant r hs) a h = by_seen h.2
  where
    by_seen : (k.seen ≡ seen) ⊎ ((k.seen ≡ suc seen) × (is_waiting k.asked ≡ false)) → Follows seen req number (accepted k (push.Grant r hs))
    by_seen (inl e) = inr (h.0, h.1, inr (ap (λ n. suc n) e, replied k r Granted refl a.0 a.1))
    by_seen (inr e) = absurd (not_both (is_waiting k.asked) a.0 e.1)
accepts_awaited seen req number k (push.Absent r point) a h = by_seen h.2
  where
    by_seen : (k.seen ≡ seen) ⊎ ((k.seen ≡ suc seen) × (is_waiting k.asked ≡ false)) → Follows seen req number (accepted k (push.Absent r point))
    by_seen (inl e) = inr (h.0, h.1, inr (ap (λ n. suc n) e, replied k r Absent refl a.0 a.1))
    by_seen (inr e) = absurd (not_both (is_waiting k.asked) a.0 e.1)
accepts_awaited seen req number k (push.Answer n o y) a h = inl (inr (inr (h.1, judged_now k n o k.written a.0 a.1)))

accepted_counts : (k : Client) (b : PushBody) → ((accepted k b).req ≡ k.req) × ((accepted k b).writes ≡ k.writes)
accepted_counts k (push.Grant r hs) = (refl, refl)
accepted_counts k (push.Absent r point) = (refl, refl)
accepted_counts k (push.Answer n o y) = (refl, refl)

-- what is over stays over, while the client's lock requests count on
over_stays : (req number : ℕ) (k l : Client) (ms : List ToServer) → k.req ≤ l.req → WriteGoes k l ms → IsOver req number k → IsOver req number l
over_stays req number k l ms le x (inl a) = inl (omega (arith, a, le))
over_stays req number k l ms le x (inr (inl a)) = inr (inl (⊎_elim (λ (y : l.writes ≡ k.writes). omega (arith, a, y)) (λ (y : l.writes ≡ suc k.writes). omega (arith, a, y)) x.number))
over_stays req number k l ms le x (inr (inr a)) = inr (⊎_elim (λ (y : l.writes ≡ k.writes). inr (y ∙ a.0, x.ends y a.1)) (λ (y : l.writes ≡ suc k.writes). inl (let z = a.0 in omega (arith, y, z))) x.number)

-- the push that is accepted is the one that the server has not heard acknowledged
pub came : (u : State) (s : Server) (c : ℕ) (k : Client) (b : PushBody) (m : ToClient) → IsReachable u → u.server ≡ Up s → client_of u c ≡ Some k → k.epoch ≡ s.durable.epoch → In (message.ToClient m) u.sent → m.client ≡ c → m.incarnation ≡ k.incarnation → m.body ≡ told.Push k.epoch (suc k.seen) b → IsAwaited k b
came u s c k b m ru up runs here at own inc is = by_push (s.sessions c).unacked refl
  where
    st : HasStanding u s c k
    st = standing u s c k ru up runs

    old : Agrees u
    old = agrees u ru

    mine : m.incarnation ≡ incarnation_of s c
    mine = inc ∙ sym (st.joined (let x = st.begun in omega (arith, here, x)))

    next : (s.sessions c).last_push ≡ suc k.seen
    next = let low = ((has_told u s c ru up).pushes m own at k.epoch (suc k.seen) b is).2 mine here in let high = ((old.knows s c k up runs).now here).high in omega (arith, low, high)

    by_push : (o : Option PushBody) → (s.sessions c).unacked ≡ o → IsAwaited k b
    by_push None e = absurd (let a = ((old.knows s c k up runs).now here).acked e in omega (arith, a, next))
    by_push (Some b1) e = subst (IsAwaited k) (sym (old.same s c up m own at mine b b1 (is ∙ (λ j. told.Push (here j) (sym next j) b)) e)) ((awaits u ru).pending s c k up runs here b1 e next)

-- While the server serves and the client is in its epoch

module _ (c inc epoch seen0 req0 number : ℕ) (op : WriteOp) (some : 1 ≤ epoch) (room : seen0 < END) (n : ℕ) where
  abbrev LiveAt : State → Type 0
  LiveAt u = Live c inc epoch seen0 number op some room n u

  abbrev Steps : (Client → Type 0) → Type 0
  Steps X = (u : State) → LiveAt u → (k l : Client) (ms : List ToServer) → client_of u c ≡ Some k → l.epoch ≡ k.epoch → Goes u c k l ms → WriteGoes k l ms → X k → X l

  over_steps : Steps (IsOver req0 number)
  over_steps u h k _ _ i e (same l ms inc2 ep seen req asked most) x f = over_stays req0 number k l ms (omega (arith, req)) x f
  over_steps u h k _ _ i e (locks point hi g free reach) x f = over_stays req0 number k _ _ (omega arith) x f
  over_steps u h k _ _ i e (adopts ep ms m at own inc2 is lt most) x f = absurd (omega (arith, lt, e))
  over_steps u h k _ _ i e (accepts b ms m at own inc2 is most) x f = over_stays req0 number k (accepted k b) ms (let y = (accepted_counts k b).0 in omega (arith, y)) x f

  way_steps : (u : State) → LiveAt u → (k l : Client) (ms : List ToServer) → client_of u c ≡ Some k → l.epoch ≡ k.epoch → Goes u c k l ms → WriteGoes k l ms → IsOnItsWay seen0 req0 number k → Follows seen0 req0 number l
  way_steps u h k _ _ i e (same l ms inc2 ep seen req asked most) x a = ⊎_elim
      (λ (w : l.writes ≡ k.writes). inr (req ∙ a.0, w ∙ a.1, ⊎_elim (λ (y : k.seen ≡ seen0). inl (seen ∙ y)) (λ (y : (k.seen ≡ suc seen0) × (is_waiting k.asked ≡ false)). inr (seen ∙ y.0, ap is_waiting asked ∙ y.1)) a.2))
      (λ (w : l.writes ≡ suc k.writes). inl (inr (inl (let z = a.1 in omega (arith, z, w))))) x.number
  way_steps u h k _ _ i e (locks point hi g free reach) x a = inl (inl (let z = a.0 in omega (arith, z)))
  way_steps u h k _ _ i e (adopts ep ms m at own inc2 is lt most) x a = absurd (omega (arith, lt, e))
  way_steps u h k _ _ i e (accepts b ms m at own inc2 is most) x a = accepts_awaited seen0 req0 number k b
      (came u h.at.server c k b m h.at.reachable h.at.up i (now c inc epoch seen0 number op some room n u h k i ∙ sym h.at.now) at own inc2 is) a

  follows_steps : Steps (Follows seen0 req0 number)
  follows_steps u h k l ms i e g x (inl f) = inl (over_steps u h k l ms i e g x f)
  follows_steps u h k l ms i e g x (inr a) = way_steps u h k l ms i e g x a

  module _ (X : Client → Type 0) (steps_on : Steps X) where
    abbrev Holds : State → Type 0
    Holds u = (k : Client) → client_of u c ≡ Some k → X k

    -- a client that runs afterwards is in the epoch
    does_on : (u v : State) → LiveAt u → ((k : Client) → client_of v c ≡ Some k → k.epoch ≡ epoch) → Does u v → Holds u → Holds v
    does_on u _ hu hv rests h k1 at = h k1 at
    does_on u _ hu hv (goes d k l ms i g x) h k1 at = by_place u d _ c k1 (X k1)
        (λ e f. let here : client_of u c ≡ Some k = ap (client_of u) e ∙ i in
        subst X (some_is l k1 f) (steps_on u hu k l ms here
        (ap (λ (y : Client). y.epoch) (some_is l k1 f) ∙ hv k1 at ∙ sym (now c inc epoch seen0 number op some room n u hu k here)) (subst (λ y. Goes u y k l ms) (sym e) g) x (h k here)))
        (λ ne f. h k1 f) at
    does_on u _ hu hv (starts d down) h k1 at = by_place u d (new_place u d) c k1 (X k1)
        (λ e f. absurd (let z : 0 ≡ k1.epoch = ap (λ (y : Client). y.epoch) (some_is (begun d (suc (u.places d).last_incarnation)) k1 f) in let y = hv k1 at in omega (arith, z, y, some)))
        (λ ne f. h k1 f) at
    does_on u _ hu hv (ends d number ms most silent) h k1 at = by_place u d _ c k1 (X k1) (λ e f. absurd (let bad : None ≡ Some k1 = f in cc)) (λ ne f. h k1 f) at
    does_on u _ hu hv (reads old new m outs writes up sent step) h k1 at = h k1 at
    does_on u _ hu hv (nudges s d up) h k1 at = h k1 at
    does_on u _ hu hv (stops s up) h k1 at = h k1 at
    does_on u _ hu hv (begins d up) h k1 at = h k1 at

    abbrev Both : State → Type 0
    Both u = LiveAt u × Holds u

    run_on : (steps : List Step) (u v : State) → ((s : Step) → In s steps → loses_a_node s ≡ false) → Both u → Runs u steps v → Both v
    run_on [] u v calm h r = subst Both (sym r) h
    run_on (s ∷ steps) u v calm h r =
        let live = live_kept c inc epoch seen0 number op some room n u r.1 s r.0 (calm s (inl refl)) h.0 r.2 in
        run_on steps r.1 v (λ x i. calm x (inr i)) (live, does_on u r.1 h.0 (λ k i. now c inc epoch seen0 number op some room n r.1 live k i) (does u r.1 s r.0 r.2) h.1) r.3

    rounds_on : (m from : ℕ) (w v : State) → Both w → Rounds m from w v → Both v
    rounds_on zero from w v h r = subst Both (sym r) h
    rounds_on (suc m) from w v h r = rounds_on m (length w.sent) r.1 v (run_on r.0 w r.1 r.2.stays h r.3) r.4

-- Three rounds, and three more

pub runs_longer : (steps : List Step) (u v : State) → Runs u steps v → length u.sent ≤ length v.sent
runs_longer [] u v r = let x = ap (λ (y : State). length y.sent) r in omega (arith, x)
runs_longer (s ∷ steps) u v r = let a = longer (loses_a_node s) u r.1 (moves u r.1 s r.0 r.2) in let b = runs_longer steps r.1 v r.3 in omega (arith, a, b)

pub later_rounds : (m from more : ℕ) (w v : State) → from ≤ more → Rounds m from w v → Rounds m more w v
later_rounds zero from more w v le r = r
later_rounds (suc m) from more w v le r = (r.0, r.1, record { stays = r.2.stays; ticked = r.2.ticked; handed = λ i lt within. r.2.handed i (omega (arith, lt, le)) within }, r.3, r.4)

record Halves (w v : State) : Type 0 where
  mid : State
  first : Rounds 3 (length w.sent) w mid
  second : Rounds 3 (length mid.sent) mid v

halves : (w v : State) → Rounds 6 (length w.sent) w v → Halves w v
halves w v r = let r2 = r.4 in let r3 = r2.4 in record {
  mid = r3.1;
  first = (r.0, r.1, r.2, r.3, (r2.0, r2.1, r2.2, r2.3, (r3.0, r3.1, r3.2, r3.3, refl)));
  second = later_rounds 3 (length r2.1.sent) (length r3.1.sent) r3.1 v (runs_longer r3.0 r2.1 r3.1 r3.3) r3.4;
}

over_now : (req number : ℕ) (l : Client) → l.req ≡ req → l.writes ≡ number → IsOver req number l → outstanding l.written ≡ None
over_now req number l e f (inl a) = absurd (omega (arith, a, e))
over_now req number l e f (inr (inl a)) = absurd (omega (arith, a, f))
over_now req number l e f (inr (inr a)) = a.1

module _ (w v : State) (s : Server) (c : ℕ) (k l : Client) (op : WriteOp) (h : IsReachable w) (e : w.server ≡ Up s) (up : is_recovering s.missing ≡ false) (serving : is_serving w.server ≡ true) (runs : client_of w c ≡ Some k) (out : outstanding k.written ≡ Some op) (room : suc k.seen < END) (there : client_of v c ≡ Some l) where
  st : HasStanding w s c k
  st = standing w s c k h e runs

  in_epoch : k.epoch ≡ s.durable.epoch
  in_epoch = st.writing (nobody_listed s.missing c up) op out

  low : k.seen < END
  low = omega (arith, room)

  abbrev LiveHere : State → Type 0
  LiveHere u = Live c k.incarnation s.durable.epoch k.seen k.writes op st.begun low (length w.sent) u

  live : LiveHere w
  live = record {
    at = record { reachable = h; server = s; up = e; now = refl; client = k; runs = runs; same = refl; long = omega arith };
    joined = λ x y. subst (λ (z : Client). s.durable.epoch ≤ z.epoch) (some_is k x (sym runs ∙ y)) (omega (arith, in_epoch));
    serves = λ x y. subst (λ (z : Server). is_recovering z.missing ≡ false) (same_up s x (sym e ∙ y)) up;
  }

  -- from a world on that it holds in, to the end
  on : (X : Client → Type 0) → Steps c k.incarnation s.durable.epoch k.seen k.req k.writes op st.begun low (length w.sent) X → (m from : ℕ) (u x : State) → LiveHere u → ((y : Client) → client_of u c ≡ Some y → X y) → Rounds m from u x → LiveHere x × ((y : Client) → client_of x c ≡ Some y → X y)
  on X steps_on m from u x live_u holds r = rounds_on c k.incarnation s.durable.epoch k.seen k.req k.writes op st.begun low (length w.sent) X steps_on m from u x (live_u, holds) r

  only : (X : Client → Type 0) (u : State) (a : Client) → client_of u c ≡ Some a → X a → (y : Client) → client_of u c ≡ Some y → X y
  only X u a i x y j = subst X (some_is a y (sym i ∙ j)) x

  over : Rounds 6 (length w.sent) w v → IsOver k.req k.writes l
  over r = by_mid (mid_holds.1 k3 mid_holds.0.at.runs)
    where
      parts : Halves w v
      parts = halves w v r

      mid_holds : LiveHere parts.mid × ((y : Client) → client_of parts.mid c ≡ Some y → Follows k.seen k.req k.writes y)
      mid_holds = on (Follows k.seen k.req k.writes) (follows_steps c k.incarnation s.durable.epoch k.seen k.req k.writes op st.begun low (length w.sent)) 3 (length w.sent) w parts.mid live (only (Follows k.seen k.req k.writes) w k runs (inr (refl, refl, inl refl))) parts.first

      k3 : Client
      k3 = mid_holds.0.at.client

      risen : k.seen < k3.seen
      risen = writes_move_on w parts.mid c k k3 op h serving runs out low parts.first mid_holds.0.at.runs

      from_over : IsOver k.req k.writes k3 → IsOver k.req k.writes l
      from_over a = (on (IsOver k.req k.writes) (over_steps c k.incarnation s.durable.epoch k.seen k.req k.writes op st.begun low (length w.sent)) 3 (length parts.mid.sent) parts.mid v mid_holds.0 (only (IsOver k.req k.writes) parts.mid k3 mid_holds.0.at.runs a) parts.second).1 l there

      serving_mid : is_serving parts.mid.server ≡ true
      serving_mid = let live3 = mid_holds.0 in ap is_serving live3.at.up ∙ ap (λ (b : Bool). if b then false else true) (live3.serves live3.at.server live3.at.up)

      at_end : Follows k.seen k.req k.writes l
      at_end = (on (Follows k.seen k.req k.writes) (follows_steps c k.incarnation s.durable.epoch k.seen k.req k.writes op st.begun low (length w.sent)) 3 (length parts.mid.sent) parts.mid v mid_holds.0 mid_holds.1 parts.second).1 l there

      by_out : (o : Option WriteOp) → outstanding k3.written ≡ o → k3.seen ≡ suc k.seen → k3.writes ≡ k.writes → IsOver k.req k.writes l
      by_out None f seen number = from_over (inr (inr (number, f)))
      by_out (Some op3) f seen number =
          let more = writes_move_on parts.mid v c k3 l op3 mid_holds.0.at.reachable serving_mid mid_holds.0.at.runs f (omega (arith, seen, room)) parts.second there in
          ⊎_elim (λ (a : IsOver k.req k.writes l). a)
          (λ (a : IsOnItsWay k.seen k.req k.writes l). absurd (⊎_elim (λ (y : l.seen ≡ k.seen). omega (arith, y, more, seen)) (λ (y : (l.seen ≡ suc k.seen) × (is_waiting l.asked ≡ false)). let z = y.0 in omega (arith, z, more, seen)) a.2)) at_end

      by_mid : Follows k.seen k.req k.writes k3 → IsOver k.req k.writes l
      by_mid (inl a) = from_over a
      by_mid (inr a) = ⊎_elim (λ (y : k3.seen ≡ k.seen). absurd (omega (arith, y, risen))) (λ (y : (k3.seen ≡ suc k.seen) × (is_waiting k3.asked ≡ false)). by_out (outstanding k3.written) refl y.0 a.1) a.2

pub writes_are_answered : WritesAreAnsweredIn 6
writes_are_answered w v c k l op h serving runs out room r there req writes = by_node w.server refl serving
  where
    by_node : (x : ServerPlace) → w.server ≡ x → is_serving x ≡ true → outstanding l.written ≡ None
    by_node (Down d) e f = absurd (cc)
    by_node (Up s) e f = over_now k.req k.writes l req writes (over w v s c k l op h e (serving_now s f) serving runs out room there r)
