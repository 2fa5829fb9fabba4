-- From each world of hosts that is reached, in which the host runs, good rounds can be made.
use Rattle.krl_progress.proofs.Names.{◌≡◌, ℕ, zero, suc, ◌+◌, ◌≤◌, ◌∙◌, ◌⊎◌, inl, inr, ⊎_elim, false, Option, Some, None, List, [], ◌∷◌, ◌++◌, length, slice_get, refl, sym, ap, subst, arith, same_Some, append-nil, all_follow}
use Rattle.krl_progress.proofs.Names.{In, in_both, ToServer, ToClient, Client, Pieces, Describes, Message, AppliedWrite, Step, Answer, ClientPlace, Up, State, client_of, with_client, from_clients, from_server, message_at, ClientReads, Takes, IsReachable, case_of}
use Rattle.std.specs.Prelude.{take, drop}
use Rattle.krl_messages.proofs.Members.{in_left, in_right}
use Rattle.krl_client.specs.Messages as receiver
use Rattle.krl_client.specs.Ticks.{tick}
use Rattle.krl_server.specs.Changes.{change_of}
use Rattle.krl_server.proofs.Outputs.Ends.{step_ends}
use Rattle.krl_world.specs.declared.message.Message.TheVariants as message
use Rattle.krl_steps.specs.declared.step.Step.TheVariants as step
use Rattle.krl_steps.specs.declared.answer.Answer.TheVariants as answered
use Rattle.krl_world.specs.Steps.{refusal_of}
use Rattle.krl_world.proofs.Progress.CanGoOn.{can_go_on}
use Rattle.krl_world.proofs.Refinement.Taken.{at_in}
use Rattle.krl_host_laws.specs.Hosts.{Said, said_after, Host, HostWorld, Moves, IsReached, moved, acts, judges, keeps, releases, notes_of, stepped, kept}
use Rattle.krl_host_laws.proofs.Clients.{Has, beside}
use Rattle.krl_host_laws.proofs.Shown.{in_host}
use Rattle.krl_host_laws.proofs.Promised.{reached_shown, batches_are_worlds}
use Rattle.krl_progress.specs.Rounds.{loses_a_node}
use Rattle.krl_progress.specs.HostRounds.{unsent_by, under_way, DoesAs, HostRuns, ends, moves, HostRounds, GoodRounds, anything}
use Rattle.krl_progress.specs.HostLaws.{HostRoundsCanBeMade}
use Rattle.krl_progress.proofs.Moves as world
use Rattle.krl_progress.proofs.Moves.{get_left, client_goes_on}
use Rattle.krl_progress.proofs.MakesRounds.{Quiet, Good, good_quiet, ticks, delivers, good_allowed, client_near, round_steps, all_good, round_of}
use Rattle.krl_progress.proofs.HostActs.{nth_of, delivers_one, message_left}
use Rattle.krl_progress.proofs.HostProgress.{in_waiting, begins, nothing_else}
use Rattle.krl_progress.proofs.HostShows.{Seen, stays_through}

-- Messages

from_said : (n : ℕ) (outs : List ToClient) (y : Message) → In y (from_server outs) → (x : Said) × In x (said_after n outs) × (y ≡ message.ToClient x.message)
from_said n [] y i = absurd i
from_said n (m ∷ ms) y (inl e) = (record { after = n; message = m }, inl refl, e)
from_said n (m ∷ ms) y (inr i) = let r = from_said n ms y i in (r.0, inr r.1, r.2)

-- the message has left, or waits
abbrev IsThere : HostWorld → Host → Message → Type 0
IsThere w h y = In y w.world.sent ⊎ ((x : Said) × In x h.unsent × (y ≡ message.ToClient x.message))

record Near (w : HostWorld) (made : List Message) : Type 0 where
  pub reached : IsReached w
  pub host : Host
  pub up : w.host ≡ Some host
  pub all : (y : Message) → In y made → IsThere w host y

-- Clients

-- a world of krl_world has the clients of this one
abbrev client_world : (w : HostWorld) → IsReached w → (v : State) × IsReachable v × ((c : ℕ) → client_of v c ≡ client_of w.world c)
client_world w r = let a = (batches_are_worlds w r).now in (record w.world { server = a.server; sent = a.sent }, a.reachable, λ c. refl)

near_number : (w : HostWorld) (c : ℕ) (k : Client) → IsReached w → client_of w.world c ≡ Some k → c ≤ 63
near_number w c k r e = let v = client_world w r in client_near v.0 c k v.1 (v.2 c ∙ e)

described : (w : HostWorld) (c : ℕ) (k : Client) → IsReached w → client_of w.world c ≡ Some k → (ps : Pieces) × Describes ps k.belief
described w c k r e =
    let v = client_world w r in
    let on = v.2 c ∙ e in
    let t = can_go_on all_follow v.0 v.1 (step.Tick c) (good_allowed v.0 (step.Tick c) v.1 (ticks c k on)) in
    let d = t.2.1.1 in
    subst (λ (x : Client). (ps : Pieces) × Describes ps x.belief) (same_Some d.0 k (sym d.1 ∙ on)) (d.2.0, d.2.1)

-- One step

-- what a move makes as this step
record Made (w : HostWorld) (made : List Message) (s : Step) : Type 0 where
  pub after : HostWorld
  pub new : List Message
  pub move : Moves w after
  pub does : DoesAs w after move made (s ∷ []) (made ++ new)
  pub near : Near after (made ++ new)
  pub grows : Has w.world.sent after.world.sent
  pub clients : (c : ℕ) (k : Client) → client_of w.world c ≡ Some k → (l : Client) × (client_of after.world c ≡ Some l)

client_there : (w : HostWorld) (made : List Message) (n : Near w made) (v : State) (s : Step) (answer : Answer) (new : List Message) → (m : Moves w (record w { world = v })) → Takes w.world s answer v → loses_a_node s ≡ false → v.sent ≡ w.world.sent ++ new →
    Near (record w { world = v }) (made ++ new) × Has w.world.sent v.sent × ((c : ℕ) (k : Client) → client_of w.world c ≡ Some k → (l : Client) × (client_of v c ≡ Some l))
client_there w made n v s answer new m t safe e =
    let grows : Has w.world.sent v.sent = λ y i. subst (λ ms. In y ms) (sym e) (in_left w.world.sent new y i) in (
      record {
        reached = moved w (record w { world = v }) n.reached m;
        host = n.host;
        up = n.up;
        all = λ y i. ⊎_elim (λ (a : In y made). ⊎_elim (λ (b : In y w.world.sent). inl (grows y b)) (λ (b : (x : Said) × In x n.host.unsent × (y ≡ message.ToClient x.message)). inr b) (n.all y a))
            (λ (b : In y new). inl (subst (λ ms. In y ms) (sym e) (in_right w.world.sent new y b))) (in_both made new y i);
      },
      grows,
      λ c k on. let l = client_goes_on w.world v c k (subst (λ b. world.Moves b w.world v) safe (world.moves w.world v s answer t)) on in (l.0, l.1),
    )

ticks_one : (w : HostWorld) (made : List Message) (c : ℕ) (k : Client) → Near w made → client_of w.world c ≡ Some k → Made w made (step.Tick c)
ticks_one w made c k n on =
    let ps = described w c k n.reached on in
    let v = with_client w.world c (Some k) (tick ps.0 k) in
    let new = from_clients (tick ps.0 k) in
    let free = allowed n.reached in
    let t : Takes w.world (step.Tick c) answered.Done v = (free, (refl, (k, on, (ps.0, ps.1, refl)))) in
    let m : Moves w (record w { world = v }) = acts (step.Tick c) answered.Done v (λ e. cc) t in
    let x = client_there w made n v (step.Tick c) answered.Done new m t refl refl in
    record { after = record w { world = v }; new = new; move = m; does = (new, refl, refl, refl); near = x.0; grows = x.1; clients = x.2 }
  where
    allowed : IsReached w → refusal_of w.world (step.Tick c) ≡ None
    allowed r = let u = client_world w r in good_allowed u.0 (step.Tick c) u.1 (ticks c k (u.2 c ∙ on))

-- a message reaches the client
hears_one : (w : HostWorld) (made : List Message) (j : ℕ) (m : ToClient) → Near w made → message_at made j ≡ Some (message.ToClient m) → In (message.ToClient m) w.world.sent → Made w made (step.Deliver j)
hears_one w made j m n e at = by_client (client_of w.world m.client) refl
  where
    i : (i : ℕ) × (slice_get w.world.sent i ≡ Some (message.ToClient m))
    i = nth_of w.world.sent (message.ToClient m) at

    done : (v : State) (new : List Message) → ClientReads w.world (client_of w.world m.client) m v → v.sent ≡ w.world.sent ++ new → Made w made (step.Deliver j)
    done v new reads sent =
        let t = delivers_one w.world v (suc i.0) (message.ToClient m) i.1 reads in
        let x : Moves w (record w { world = v }) = acts (step.Deliver (suc i.0)) answered.Done v (λ e. cc) t in
        let y = client_there w made n v (step.Deliver (suc i.0)) answered.Done new x t refl sent in
        record { after = record w { world = v }; new = new; move = x; does = (j, m, new, i.1, e, refl, sent, refl); near = y.0; grows = y.1; clients = y.2 }

    by_client : (o : Option Client) → client_of w.world m.client ≡ o → Made w made (step.Deliver j)
    by_client None is = done w.world [] (subst (λ p. ClientReads w.world p m w.world) (sym is) refl) (sym (append-nil w.world.sent))
    by_client (Some k) is =
        let ps = described w m.client k n.reached is in
        let ms = receiver.sends ps.0 k (receiver.client_case_of k m) in
        let v = with_client w.world m.client (Some (receiver.after k (receiver.client_case_of k m))) ms in
        done v (from_clients ms) (subst (λ p. ClientReads w.world p m v) (sym is) (ps.0, ps.1, refl)) refl

-- or the server, which keeps all that it sends
judges_one : (w : HostWorld) (made : List Message) (j : ℕ) (m : ToServer) → Near w made → message_at made j ≡ Some (message.ToServer m) → In (message.ToServer m) w.world.sent → Made w made (step.Deliver j)
judges_one w made j m n e at =
    let h = n.host in
    let x = step_ends h.memory m in
    let notes = notes_of (change_of m (case_of h.memory m)) in
    let next = stepped h x.0 notes x.1 in
    let u : HostWorld = record w { host = Some next } in
    let number = h.kept + length (h.unkept ++ notes) in
    let move : Moves w u = judges h x.0 m x.1 x.1 n.up at x.2 (λ y i. i) in
    record {
      after = u;
      new = from_server x.1;
      move = move;
      does = (j, e, refl, refl);
      near = record {
        reached = moved w u n.reached move;
        host = next;
        up = refl;
        all = λ y i. ⊎_elim (λ (a : In y made). ⊎_elim (λ (b : In y w.world.sent). inl b)
            (λ (b : (z : Said) × In z h.unsent × (y ≡ message.ToClient z.message)). inr (b.0, in_left h.unsent (said_after number x.1) b.0 b.1, b.2)) (n.all y a))
            (λ (b : In y (from_server x.1)). let z = from_said number x.1 y b in inr (z.0, in_right h.unsent (said_after number x.1) z.0 z.1, z.2)) (in_both made (from_server x.1) y i);
      };
      grows = λ y i. i;
      clients = λ c k on. (k, on);
    }

-- Steps

-- a step that can be taken: its message has left
data CanTake (w : HostWorld) (made : List Message) : Step → Type 0 where
  ticking : (c : ℕ) (k : Client) → client_of w.world c ≡ Some k → CanTake w made (step.Tick c)
  handing : (j : ℕ) (y : Message) → message_at made j ≡ Some y → In y w.world.sent → CanTake w made (step.Deliver j)

one : (w : HostWorld) (made : List Message) (s : Step) → Near w made → CanTake w made s → Made w made s
one w made _ n (ticking c k on) = ticks_one w made c k n on
one w made _ n (handing j (message.ToServer m) e at) = judges_one w made j m n e at
one w made _ n (handing j (message.ToClient m) e at) = hears_one w made j m n e at

still_can : (w : HostWorld) (made : List Message) (s x : Step) (d : Made w made s) → CanTake w made x → CanTake d.after (made ++ d.new) x
still_can w made s _ d (ticking c k on) = let l = d.clients c k on in ticking c l.0 l.1
still_can w made s _ d (handing j y e at) = handing j y (message_left made d.new j y e) (d.grows y at)

record Ran (w : HostWorld) (made : List Message) (steps : List Step) : Type 0 where
  pub after : HostWorld
  pub all : List Message
  pub run : HostRuns anything w made steps after all
  pub near : Near after all

takes_all : (steps : List Step) (w : HostWorld) (made : List Message) → Near w made → ((s : Step) → In s steps → CanTake w made s) → Ran w made steps
takes_all [] w made n g = record { after = w; all = made; run = ends w made; near = n }
takes_all (s ∷ steps) w made n g =
    let d = one w made s n (g s (inl refl)) in
    let r = takes_all steps d.after (made ++ d.new) d.near (λ x i. still_can w made s x d (g x (inr i))) in
    record { after = r.after; all = r.all; run = moves w d.after r.after made (made ++ d.new) r.all (s ∷ []) steps d.move d.does tt r.run; near = r.near }

-- All that waits leaves

record Settled (w : HostWorld) (made : List Message) : Type 0 where
  pub after : HostWorld
  pub near : Near after made
  pub places : after.world.places ≡ w.world.places
  pub left : (y : Message) → In y made → In y after.world.sent
  pub run : (v : HostWorld) (all : List Message) (steps : List Step) → HostRuns anything after made steps v all → HostRuns anything w made steps v all

-- what of these waits may leave
abbrev MayLeave : Host → List Said → Type 0
MayLeave h xs = (x : Said) → In x xs → In x h.unsent × (x.after ≤ h.kept)

-- they leave, and so everything has that waited and is none of the rest
leave : (xs : List Said) (w : HostWorld) (made : List Message) (n : Near w made) → MayLeave n.host xs → ((x : Said) → In x n.host.unsent → In (message.ToClient x.message) w.world.sent ⊎ In x xs) → Settled w made
leave [] w made n may rest = record {
  after = w;
  near = n;
  places = refl;
  left = λ y i. ⊎_elim (λ (a : In y w.world.sent). a)
      (λ (b : (x : Said) × In x n.host.unsent × (y ≡ message.ToClient x.message)). subst (λ z. In z w.world.sent) (sym b.2) (⊎_elim (λ (c : In (message.ToClient b.0.message) w.world.sent). c) (λ (c : In b.0 []). absurd c) (rest b.0 b.1)))
      (n.all y i);
  run = λ v all steps r. r;
}
leave (x ∷ xs) w made n may rest =
    let first = may x (inl refl) in
    let u : HostWorld = record w { world = record w.world { sent = w.world.sent ++ message.ToClient x.message ∷ [] } } in
    let move : Moves w u = releases n.host x n.up first.0 first.1 in
    let grows : Has w.world.sent u.world.sent = λ y i. in_left w.world.sent (message.ToClient x.message ∷ []) y i in
    let near : Near u made = record {
      reached = moved w u n.reached move;
      host = n.host;
      up = n.up;
      all = λ y i. ⊎_elim (λ (a : In y w.world.sent). inl (grows y a)) (λ (b : (z : Said) × In z n.host.unsent × (y ≡ message.ToClient z.message)). inr b) (n.all y i);
    } in
    let s = leave xs u made near (λ y i. may y (inr i)) (λ y i. ⊎_elim (λ (a : In (message.ToClient y.message) w.world.sent). inl (grows (message.ToClient y.message) a)) (λ (b : In y (x ∷ xs)). gone y b) (rest y i)) in
    record {
      after = s.after;
      near = s.near;
      places = s.places;
      left = s.left;
      run = λ v all steps r. moves w u v made made all [] steps move (refl, refl) tt (s.run v all steps r);
    }
  where
    gone : (y : Said) → In y (x ∷ xs) → In (message.ToClient y.message) (w.world.sent ++ message.ToClient x.message ∷ []) ⊎ In y xs
    gone y (inl e) = inl (in_right w.world.sent (message.ToClient x.message ∷ []) (message.ToClient y.message) (inl (ap (λ (z : Said). message.ToClient z.message) e)))
    gone y (inr i) = inr i

settle : (w : HostWorld) (made : List Message) → Near w made → Settled w made
settle w made n =
    let h = n.host in
    let count = length h.unkept in
    let next : Host = record h { kept = h.kept + count; unkept = drop count h.unkept } in
    let u : HostWorld = record { world = kept w.world (take count h.unkept); host = Some next } in
    let move : Moves w u = keeps h count n.up (omega arith) in
    let near : Near u made = record { reached = moved w u n.reached move; host = next; up = refl; all = n.all } in
    let bound = (in_host w h n.up (reached_shown w n.reached)).bound in
    let s = leave h.unsent u made near (λ x i. (i, bound x i)) (λ x i. inr i) in
    record {
      after = s.after;
      near = s.near;
      places = s.places;
      left = s.left;
      run = λ v all steps r. moves w u v made made all [] steps move (refl, refl) tt (s.run v all steps r);
    }

-- Rounds

near_first : (w : HostWorld) (h : Host) → IsReached w → w.host ≡ Some h → Near w (under_way w)
near_first w h r e = record {
  reached = r;
  host = h;
  up = e;
  all = λ y i. ⊎_elim (λ (a : In y w.world.sent). inl a) (λ (b : In y (unsent_by w.host)). inr (in_waiting h.unsent y (subst (λ o. In y (unsent_by o)) e b))) (in_both w.world.sent (unsent_by w.host) y i);
}

can : (w : HostWorld) (made : List Message) (s : Settled w made) (x : Step) → Good (record w.world { sent = made }) x → CanTake s.after made x
can w made s _ (ticks c k e) = ticking c k (ap (λ (p : ℕ → ClientPlace). (p c).client) s.places ∙ e)
can w made s _ (delivers j y e) = handing j y e (s.left y (at_in made j y e))

-- in which something stays so
module _ (Q Inv : State → Type 0) (goes : (u v : State) (s : Step) (answer : Answer) → Quiet s → Inv u → Takes u s answer v → Inv v) (says : (u : State) → Inv u → Q u) (same : (u : State) (sent : List Message) (writes : List AppliedWrite) → Q u → Q (record u { sent = sent; writes = writes })) where
  made_rounds : (P S : List Message) (has : Has P S) (n from : ℕ) (w : HostWorld) (made : List Message) → Near w made → (h : Host) (new : List Message) (writes : List AppliedWrite) → Seen P S has w made h new → Inv (beside w.world (Up h.memory) (S ++ new) writes) → (v : HostWorld) × (all : List Message) × HostRounds Q n from w made v all
  made_rounds P S has zero from w made near h new writes seen i = (w, made, (refl, refl))
  made_rounds P S has (suc n) from w made near h new writes seen i =
      let here : State = record w.world { sent = made } in
      let s = settle w made near in
      let r = takes_all (round_steps here) s.after made s.near (λ x k. can w made s x (all_good here x k)) in
      let x = stays_through P S has Q Inv goes says same w r.after made r.all (round_steps here) (s.run r.after r.all (round_steps here) r.run) near.reached (λ y k. good_quiet here y (all_good here y k)) h new writes seen i in
      let rest = made_rounds P S has n (length made) r.after r.all r.near x.host x.new x.writes x.seen x.stays in
      (rest.0, rest.1, (round_steps here, r.after, r.all, round_of here from (λ c k e. near_number w c k near.reached e), x.run, rest.2))

  pub rounds_made : (w : HostWorld) (h : Host) (n : ℕ) → IsReached w → w.host ≡ Some h → ((sent : List Message) (writes : List AppliedWrite) → IsReachable (beside w.world (Up h.memory) sent writes) → Inv (beside w.world (Up h.memory) sent writes)) → (v : HostWorld) × GoodRounds Q n w v
  rounds_made w h n r e first =
      let b = begins w h r e in
      let x = made_rounds (under_way w) b.sent b.has n (length (under_way w)) w (under_way w) (near_first w h r e) h [] b.writes b.seen (first (b.sent ++ []) b.writes b.reachable) in
      (x.0, (x.1, x.2))

pub rounds_can_be_made : HostRoundsCanBeMade
rounds_can_be_made w h n r e = rounds_made anything anything (λ u v s answer quiet i t. tt) (λ u i. tt) nothing_else w h n r e (λ sent writes reach. tt)
