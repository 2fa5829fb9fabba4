-- Undisturbed rounds can be made: ticks and deliveries ask for no more, and bring a client no more pushes than it is owed.
use Rattle.krl_progress.proofs.Names.{◌≡◌, ◌≢◌, ℕ, zero, suc, ◌+◌, ◌≤◌, ◌<◌, inl, inr, ◌∙◌, false, Option, Some, None, is_some, List, [], ◌∷◌, length, refl, sym, ap, subst, arith, nat_eq, if◌then◌else◌, eq-eqb, ne_eqb, END, In, all_follow}
use Rattle.krl_progress.proofs.Names.{ToServer, ToClient, Client, Message, Server, Step, Answer, ServerPlace, Up, Down, State, ClientPlace, client_of, with_client, message_at, ServerReads, ClientReads, Delivers, Runs, Takes, IsReachable}
use Rattle.krl_modes.specs.Spans.{Bounds}
use Rattle.krl_messages.specs.declared.to_client.PushBody.{PushBody}
use Rattle.krl_messages.specs.declared.to_client.PushBody.TheVariants as push
use Rattle.krl_messages.specs.declared.to_client.ToClientBody.TheVariants as told
use Rattle.krl_client.specs.Clients.{is_waiting, outstanding, meets_pin}
use Rattle.krl_client.specs.Messages as receiver
use Rattle.krl_client.specs.Messages.{ClientCase, Ignores, AcksAgain, Adopts, Accepts, Lowers, accepted, joined}
use Rattle.krl_world.specs.declared.message.Message.TheVariants as message
use Rattle.krl_world.proofs.Progress.CanGoOn.{can_go_on}
use Rattle.krl_world.proofs.Refinement.Taken.{at_in}
use Rattle.krl_progress.specs.Requests.{IsAwaited}
use Rattle.krl_progress.specs.Blocks.{Throughout, RoundsWhile}
use Rattle.krl_progress.specs.Locks.{IsUndisturbed, IsManned, AsksNoMore, HasRoom, UndisturbedRoundsCanBeMade}
use Rattle.krl_progress.proofs.Standings.{standing}
use Rattle.krl_progress.proofs.Seated.{not_waiting_on}
use Rattle.krl_progress.proofs.Doings.{Goes, same, locks, adopts, accepts, WriteGoes, client_goes, reads_write, reads_number, accepted_same}
use Rattle.krl_progress.proofs.Awaited.{accepted_seen}
use Rattle.krl_progress.proofs.Answering.{came}
use Rattle.krl_progress.proofs.Owing.{count, count_low, no_more, accepted_pays, at_place}
use Rattle.krl_progress.proofs.Recovers.{same_up, next_reachable}
use Rattle.krl_progress.proofs.MakesRounds.{Quiet, ticked, handed, quiet_stays, Good, good_quiet, good_allowed, good_kept, round_steps, all_good, is_round}
use Rattle.krl_progress.proofs.Manned.{Lasts, first, lasts_on, undisturbed}

-- A message that a client reads leaves its pins, and asks for no lock

read_pins : (k : Client) (x : ClientCase) (span : Bounds) → meets_pin (receiver.after k x) span ≡ meets_pin k span
read_pins k Ignores span = refl
read_pins k AcksAgain span = refl
read_pins k (Adopts epoch) span = refl
read_pins k (Accepts (push.Grant req hs)) span = refl
read_pins k (Accepts (push.Absent req point)) span = refl
read_pins k (Accepts (push.Answer number o h)) span = refl
read_pins k (Lowers s keep) span = refl

read_request : (k : Client) (x : ClientCase) → (receiver.after k x).req ≤ k.req
read_request k Ignores = omega arith
read_request k AcksAgain = omega arith
read_request k (Adopts epoch) = omega arith
read_request k (Accepts (push.Grant req hs)) = omega arith
read_request k (Accepts (push.Absent req point)) = omega arith
read_request k (Accepts (push.Answer number o h)) = omega arith
read_request k (Lowers s keep) = omega arith

module _ (e : ℕ) (reqs writes : ℕ → ℕ) where
  -- what stays so of a client: in this epoch it asks for no more, and what it has accepted and is owed is within END
  record Stays (c : ℕ) (k : Client) : Type 0 where
    request : k.epoch ≡ e → k.req ≡ reqs c
    early : k.epoch ≢ e → reqs c ≡ 0
    written : k.writes ≡ writes c
    unpinned : (span : Bounds) → meets_pin k span ≡ false
    room : k.epoch ≡ e → k.seen + (count (is_waiting k.asked) + count (is_some (outstanding k.written))) < END

  abbrev AllStay : State → Type 0
  AllStay u = (c : ℕ) (k : Client) → client_of u c ≡ Some k → Stays c k

  module _ (u : State) (d : ℕ) (k : Client) (h : Stays d k) (awaited : k.epoch ≡ e → (b : PushBody) (m : ToClient) → In (message.ToClient m) u.sent → m.client ≡ d → m.incarnation ≡ k.incarnation → m.body ≡ told.Push k.epoch (suc k.seen) b → IsAwaited k b) where
    goes_on : (l : Client) (ms : List ToServer) → Goes u d k l ms → WriteGoes k l ms → l.req ≤ k.req → l.writes ≡ k.writes → ((span : Bounds) → meets_pin l span ≡ meets_pin k span) → l.epoch ≤ e → Stays d l
    goes_on _ _ (same l ms inc epoch seen req asked most) x low wrote pins below = record {
      request = λ f. req ∙ h.request (sym epoch ∙ f);
      early = λ away. h.early (λ f. away (epoch ∙ f));
      written = wrote ∙ h.written;
      unpinned = λ span. pins span ∙ h.unpinned span;
      room = λ f. let old = h.room (sym epoch ∙ f) in let waits = ap (λ y. count (is_waiting y)) asked in let more = no_more k l ms x wrote in omega (arith, old, waits, more, seen);
    }
    goes_on _ _ (locks point hi g free reach) x low wrote pins below = absurd (omega (arith, low))
    goes_on _ _ (adopts epoch ms m at own inc is lt most) x low wrote pins below =
        let away : k.epoch ≢ e = λ f. omega (arith, f, lt, below) in record {
          request = λ f. sym (h.early away);
          early = λ gone. h.early away;
          written = wrote ∙ h.written;
          unpinned = λ span. pins span ∙ h.unpinned span;
          room = λ f. let waits = ap count (not_waiting_on k.asked) in let more = count_low (is_some (outstanding k.written)) in omega (arith, waits, more);
        }
    goes_on _ _ (accepts b ms m at own inc is most) x low wrote pins below =
        let epoch = (accepted_seen k b).1 in record {
          request = λ f. (accepted_same k b).3 ∙ h.request (sym epoch ∙ f);
          early = λ away. h.early (λ f. away (epoch ∙ f));
          written = wrote ∙ h.written;
          unpinned = λ span. pins span ∙ h.unpinned span;
          room = λ f.
              let here = sym epoch ∙ f in
              let old = h.room here in
              let seen = (accepted_seen k b).0 in
              let less = (accepted_pays k b (awaited here b m at own inc is)).less in
              omega (arith, old, seen, less);
        }

  -- A step of a round

  module _ (u v : State) (h : Lasts u) (now : h.server.durable.epoch ≡ e) (g : Lasts v) (later : g.server.durable.epoch ≡ e) (all : AllStay u) where
    same_stay : v ≡ u → AllStay v
    same_stay f = subst AllStay (sym f) all

    place_stay : (d : ℕ) (l : Client) (ms : List ToServer) → v ≡ with_client u d (Some l) ms → Stays d l → AllStay v
    place_stay d l ms f there = subst AllStay (sym f) (λ c k i. at_place u d (record { last_incarnation = (u.places d).last_incarnation; client = Some l }) c (λ old new. ((y : Client) → old ≡ Some y → Stays c y) → (y : Client) → new ≡ Some y → Stays c y)
        (λ own before y is. subst (λ z. Stays z y) (sym own) (subst (Stays d) (Rattle.krl_progress.proofs.Moves.some_is l y is) there))
        (λ o before. before)
        (all c) k i)

    client_stays : (m : ToClient) (o : Option Client) → client_of u m.client ≡ o → In (message.ToClient m) u.sent → ClientReads u o m v → AllStay v
    client_stays m None i at d = same_stay d
    client_stays m (Some k) i at d =
        let l = receiver.after k (receiver.client_case_of k m) in
        let ms = receiver.sends d.0 k (receiver.client_case_of k m) in
        let there : client_of v m.client ≡ Some l = ap (λ (y : State). client_of y m.client) d.2 ∙ ap (λ b. (if b then (let z : ClientPlace = record { last_incarnation = (u.places m.client).last_incarnation; client = Some l } in z) else u.places m.client).client) (eq-eqb m.client m.client refl) in
        place_stay m.client l ms d.2
        (goes_on u m.client k (all m.client k i)
        (λ here b n sent own inc is. came u h.server m.client k b n h.reached h.up i (here ∙ sym now) sent own inc is)
        l ms (client_goes u d.0 k m at) (reads_write d.0 k m) (read_request k (receiver.client_case_of k m)) (reads_number k (receiver.client_case_of k m)) (read_pins k (receiver.client_case_of k m))
        (let most = (standing v g.server m.client l g.reached g.up there).epoch in omega (arith, most, later)))

    read_stays : (m : ToServer) (n : ServerPlace) → ServerReads u n m v → AllStay v
    read_stays m (Up s) d = subst AllStay (sym d.3) all
    read_stays m (Down x) d = same_stay d

    delivers_stay : (o : Option Message) → ((m : Message) → o ≡ Some m → In m u.sent) → Delivers u o v → AllStay v
    delivers_stay None at d = absurd d
    delivers_stay (Some (message.ToServer m)) at d = read_stays m u.server d
    delivers_stay (Some (message.ToClient m)) at d = client_stays m (client_of u m.client) refl (at (message.ToClient m) refl) d

    step_stay : (s : Step) (answer : Answer) → Quiet s → Takes u s answer v → AllStay v
    step_stay _ answer (ticked c) t = let d = t.1.1 in place_stay c d.0 _ d.2.2 (all c d.0 d.1)
    step_stay _ answer (handed i) t = delivers_stay (message_at u.sent i) (at_in u.sent i) t.1.1

  -- a client that stays so asks for no more
  asks_no_more : (u : State) (h : Lasts u) → h.server.durable.epoch ≡ e → AllStay u → AsksNoMore reqs writes u
  asks_no_more u h now all s c k up runs here =
      let x = all c k runs in
      let own : k.epoch ≡ e = here ∙ ap (λ (y : Server). y.durable.epoch) (same_up s h.server (sym up ∙ h.up)) ∙ now in
      record { asked = x.request own; written = x.written; unpinned = x.unpinned; room = (let y = x.room own in omega (arith, y)) }

  -- A world that stays undisturbed in quiet steps

  pub record Rests (u : State) : Type 0 where
    lasts : Lasts u
    now : lasts.server.durable.epoch ≡ e
    all : AllStay u

  same_epoch : (u v : State) (h : Lasts u) (g : Lasts v) → Rattle.krl_progress.proofs.Recovers.GoesOn h.server v → h.server.durable.epoch ≡ e → g.server.durable.epoch ≡ e
  same_epoch u v h g x now = ap (λ (y : Server). y.durable.epoch) (same_up g.server x.after (sym g.up ∙ x.up)) ∙ x.epoch ∙ now

  pub rests_on : (u v : State) (s : Step) (answer : Answer) → Quiet s → Rests u → Takes u s answer v → Rests v
  rests_on u v s answer quiet h t =
      let calm = quiet_stays s quiet in
      let next = lasts_on u v s answer calm t h.lasts in
      let later = same_epoch u v h.lasts next (Rattle.krl_progress.proofs.Recovers.server_goes_on u v h.lasts.server s calm h.lasts.up (Rattle.krl_world.proofs.Refinement.ServerMoves.way u v s answer t.1)) h.now in
      record { lasts = next; now = later; all = step_stay u v h.lasts h.now next later h.all s answer quiet t }

  pub is_undisturbed : (u : State) → Rests u → IsUndisturbed reqs writes u
  is_undisturbed u h = undisturbed reqs writes u h.lasts (asks_no_more u h.lasts h.now h.all)

  -- Rounds

  record Made (steps : List Step) (u : State) : Type 0 where
    end : State
    run : Runs u steps end
    quiet : Throughout (IsUndisturbed reqs writes) u steps end run
    rests : Rests end

  makes : (steps : List Step) (u : State) → Rests u → ((s : Step) → In s steps → Good u s) → Made steps u
  makes [] u h g = record { end = u; run = refl; quiet = refl; rests = h }
  makes (s ∷ steps) u h g =
      let here = g s (inl refl) in
      let quiet = good_quiet u s here in
      let t = can_go_on all_follow u h.lasts.reached s (good_allowed u s h.lasts.reached here) in
      let next = rests_on u t.1 s t.0 quiet h t.2 in
      let rest = makes steps t.1 next (λ x i. good_kept u t.1 s x t.0 (quiet_stays s quiet) t.2 (g x (inr i))) in
      record {
        end = rest.end;
        run = (t.0, t.1, t.2, rest.run);
        quiet = (is_undisturbed t.1 next, rest.quiet);
        rests = rest.rests;
      }

  rounds : (n from : ℕ) (u : State) → Rests u → (v : State) × RoundsWhile (IsUndisturbed reqs writes) n from u v
  rounds zero from u h = (u, refl)
  rounds (suc n) from u h =
      let made = makes (round_steps u) u h (all_good u) in
      let rest = rounds n (length u.sent) made.end made.rests in
      (rest.0, (round_steps u, made.end, is_round u from h.lasts.reached, made.run, made.quiet, rest.1))

-- The first world

pub request_by : ℕ → Option Client → ℕ
request_by e None = 0
request_by e (Some k) = if nat_eq k.epoch e then k.req else 0

pub writes_by : Option Client → ℕ
writes_by None = 0
writes_by (Some k) = k.writes

first_stays : (w : State) (e : ℕ) (h : Lasts w) → h.server.durable.epoch ≡ e → HasRoom w → AllStay e (λ c. request_by e (client_of w c)) (λ c. writes_by (client_of w c)) w
unfolding request_by writes_by
first_stays w e h now free c k i =
    let x = free h.server c k h.up i in record {
      request = λ here. sym (ap (request_by e) i ∙ ap (λ b. if b then k.req else 0) (eq-eqb k.epoch e here));
      early = λ away. ap (request_by e) i ∙ ap (λ b. if b then k.req else 0) (ne_eqb k.epoch e away);
      written = sym (ap writes_by i);
      unpinned = x.0;
      room = λ here. let two = x.1 (here ∙ sym now) in let a = count_low (is_waiting k.asked) in let b = count_low (is_some (outstanding k.written)) in omega (arith, two, a, b);
    }

pub first_rests : (w : State) → IsReachable w → (h : IsManned w) → HasRoom w → let e = h.server.durable.epoch in Rests e (λ c. request_by e (client_of w c)) (λ c. writes_by (client_of w c)) w
first_rests w reach h free =
    let lasts = first w reach h in
    let now = ap (λ (y : Server). y.durable.epoch) (same_up lasts.server h.server (sym lasts.up ∙ h.up)) in
    record { lasts = lasts; now = now; all = first_stays w h.server.durable.epoch lasts now free }

pub undisturbed_rounds_can_be_made : UndisturbedRoundsCanBeMade
undisturbed_rounds_can_be_made w n reach h free =
    let e = h.server.durable.epoch in
    let reqs = λ (c : ℕ). request_by e (client_of w c) in
    let writes = λ (c : ℕ). writes_by (client_of w c) in
    let rests = first_rests w reach h free in
    let made = rounds e reqs writes n (length w.sent) w rests in
    (reqs, writes, made.0, is_undisturbed e reqs writes w rests, made.1)
