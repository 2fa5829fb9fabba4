-- A manned world stays so through good rounds: a client that comes to hold or wait for something runs in the server's
-- epoch. So lock requests are answered if nobody asks for more.
use Rattle.krl_progress.proofs.Names.{◌≡◌, ℕ, zero, suc, ◌≤◌, ◌<◌, ◌⊎◌, inl, inr, ⊎_elim, ◌∙◌, false, Some, List, [], ◌∷◌, length, refl, sym, subst, arith, END, In, all_follow}
use Rattle.krl_progress.proofs.Names.{ToServer, Client, Record, record_of, Server, is_recovering, Step, Answer, Up, Down, State, client_of, Runs, Takes, IsReachable, ServerStep, Stands, epoch_said}
use Rattle.krl_messages.specs.declared.to_server.ToServerBody.TheVariants as said
use Rattle.krl_messages.specs.declared.to_server.Request.{Request}
use Rattle.krl_server.specs.Servers.{incarnation_of}
use Rattle.krl_world.specs.declared.message.Message.TheVariants as message
use Rattle.krl_world.proofs.Refinement.Mirrors.{machine_of, ServerShows}
use Rattle.krl_world.proofs.Refinement.Openings.{first_of}
use Rattle.krl_world.proofs.Refinement.Reached.{world_reached}
use Rattle.krl_world.proofs.Refinement.ServerMoves.{Way, stays, reads, stops, begins, way}
use Rattle.krl_progress.specs.Rounds.{loses_a_node}
use Rattle.krl_progress.specs.Blocks.{Throughout, RoundsWhile}
use Rattle.krl_progress.specs.Standstills.{HasPart}
use Rattle.krl_progress.specs.Locks.{IsManned, IsUndisturbed, AsksNoMore, MannedWorldsAnswerIn}
use Rattle.krl_progress.specs.Requests.{RequestsAreRegistered}
use Rattle.krl_progress.proofs.Moves.{Moves, moves, client_goes_on}
use Rattle.krl_progress.proofs.Standings.{reg_is, standing}
use Rattle.krl_progress.proofs.Hearing.{step_epoch}
use Rattle.krl_progress.proofs.Recovers.{same_up, next_reachable}
use Rattle.krl_progress.proofs.WriteSteps.{serves_kept}
use Rattle.krl_progress.proofs.CallsBack.{in_order}
use Rattle.krl_progress.proofs.Calming.{IsSafe}
use Rattle.krl_progress.proofs.Registered.{always_registered}
use Rattle.krl_progress.proofs.Speaks.{speaks, IsSpoken}
use Rattle.krl_progress.proofs.Parts.{IsAsker, step_part, WasIn, step_was}
use Rattle.krl_progress.proofs.LocksAnswered.{locks_are_answered}

-- The request of an incarnation was sent when that was registered

pub requests_are_registered : RequestsAreRegistered
requests_are_registered w s m r h up at is =
    let x = (world_reached all_follow w h).1 in
    let shown : ServerShows (Up s) x.of = subst (λ n. ServerShows n x.of) up x.mirrors.server in
    let there : Stands (x.of m.client) m.incarnation (said.Request r) = subst (Stands (x.of m.client) m.incarnation) is (x.mirrors.from m at) in
    let low : m.incarnation ≤ (x.of m.client).reg = always_registered (first_of w.opening) END (machine_of w.server x.of x.log) x.reach m.client _ there.0 in
    let same = reg_is (record_of s.durable.register m.client) (x.of m.client) (shown.0.link m.client).known in
    omega (arith, low, same)

-- Manned worlds

-- the client runs, and is of this incarnation
record RunsAs (u : State) (c inc : ℕ) : Type 0 where
  client : Client
  runs : client_of u c ≡ Some client
  same : client.incarnation ≡ inc

-- the client runs in this epoch
record RunsIn (u : State) (c epoch : ℕ) : Type 0 where
  client : Client
  runs : client_of u c ≡ Some client
  now : client.epoch ≡ epoch

-- a client that has sent a request of the server's epoch, as the registered incarnation, which has not left, runs
abbrev AskersRun : State → Server → Type 0
AskersRun u s = (m : ToServer) (r : Request) (x : Record) → In (message.ToServer m) u.sent → m.body ≡ said.Request r → r.epoch ≡ s.durable.epoch → record_of s.durable.register m.client ≡ Some x → m.incarnation ≡ x.incarnation → x.left ≡ false → RunsAs u m.client m.incarnation

abbrev PartsRun : State → Server → Type 0
PartsRun u s = (c : ℕ) → HasPart s c → RunsIn u c s.durable.epoch

pub record Lasts (u : State) : Type 0 where
  pub reached : IsReachable u
  pub server : Server
  pub up : u.server ≡ Up server
  serves : is_recovering server.missing ≡ false
  here : PartsRun u server
  askers : AskersRun u server

pub first : (w : State) → IsReachable w → IsManned w → Lasts w
first w rw h = record {
  reached = rw;
  server = h.server;
  up = h.up;
  serves = h.serves;
  here = λ c p. let k = h.here c p in record { client = k.0; runs = k.1; now = k.2 };
  askers = λ m r x at is now known same here. let k = h.registered m.client x known here in record { client = k.0; runs = k.1; same = k.2 ∙ sym same };
}

-- A step that loses no node

module _ (u v : State) (step : Step) (answer : Answer) (calm : loses_a_node step ≡ false) (taken : Takes u step answer v) where
  moved : Moves false u v
  moved = subst (λ b. Moves b u v) calm (moves u v step answer taken)

  runs_as : (c inc : ℕ) → RunsAs u c inc → RunsAs v c inc
  runs_as c inc h = let l = client_goes_on u v c h.client moved h.runs in record { client = l.0; runs = l.1; same = l.2 ∙ h.same }

  module _ (h : Lasts u) (t : Server) (on : v.server ≡ Up t) (epoch : t.durable.epoch ≡ h.server.durable.epoch) where
    after : IsReachable v
    after = next_reachable u v step answer h.reached taken

    -- an epoch that a client has joined stays, since it is the server's
    runs_in : (c : ℕ) (k : Client) → client_of u c ≡ Some k → h.server.durable.epoch ≤ k.epoch → RunsIn v c t.durable.epoch
    runs_in c k runs joined =
        let l = client_goes_on u v c k moved runs in
        let most = (standing v t c l.0 after on l.1).epoch in
        let low = l.3 in
        record { client = l.0; runs = l.1; now = omega (arith, joined, low, most, epoch) }

    -- a client that asks runs in the epoch
    asker_runs : (m : ToServer) → In (message.ToServer m) u.sent → IsAsker h.server m → RunsIn v m.client t.durable.epoch
    asker_runs m at a =
        let k = h.askers m a.request a.known at a.said a.now a.from.known a.from.same a.from.here in
        let low = (standing u h.server m.client k.client h.reached h.up k.runs).said m refl (sym k.same) at in
        let joined : a.request.epoch ≤ k.client.epoch = subst (λ b. epoch_said b ≤ k.client.epoch) a.said low in
        let now = a.now in
        runs_in m.client k.client k.runs (omega (arith, joined, now))

    part_runs : (c : ℕ) → HasPart h.server c → RunsIn v c t.durable.epoch
    part_runs c p = let k = h.here c p in let now = k.now in runs_in c k.client k.runs (omega (arith, now))

    -- what becomes of parts and records
    module _ (parts : (c : ℕ) → HasPart t c → HasPart h.server c ⊎ ((m : ToServer) × (c ≡ m.client) × In (message.ToServer m) u.sent × IsAsker h.server m)) (records : (c : ℕ) → WasIn h.server.durable t.durable c) where
      here_then : PartsRun v t
      here_then c p = ⊎_elim
          (λ (x : HasPart h.server c). part_runs c x)
          (λ (x : (m : ToServer) × (c ≡ m.client) × In (message.ToServer m) u.sent × IsAsker h.server m). subst (λ d. RunsIn v d t.durable.epoch) (sym x.1) (asker_runs x.0 x.2 x.3))
          (parts c p)

      old_asker : (m : ToServer) (r : Request) (x : Record) → In (message.ToServer m) u.sent → m.body ≡ said.Request r → r.epoch ≡ t.durable.epoch → m.incarnation ≡ x.incarnation → ((y : Record) × (record_of h.server.durable.register m.client ≡ Some y) × (y.incarnation ≡ x.incarnation) × (y.left ≡ false)) ⊎ (incarnation_of h.server m.client < x.incarnation) → RunsAs v m.client m.incarnation
      old_asker m r x at is now same (inl y) = runs_as m.client m.incarnation (h.askers m r y.0 at is (now ∙ epoch) y.1 (same ∙ sym y.2) y.3)
      old_asker m r x at is now same (inr later) = absurd (let low = requests_are_registered u h.server m r h.reached h.up at is in omega (arith, low, later, same))

      new_asker : (m : ToServer) → IsSpoken u m → RunsAs v m.client m.incarnation
      new_asker m p =
          let number = (standing u h.server p.place p.speaker h.reached h.up p.runs).number in
          runs_as m.client m.incarnation (record {
            client = p.speaker;
            runs = subst (λ d. client_of u d ≡ Some p.speaker) (sym (p.of.number ∙ number)) p.runs;
            same = sym p.of.incarnation;
          })

      askers_then : AskersRun v t
      askers_then m r x at is now known same here = ⊎_elim
          (λ (old : In (message.ToServer m) u.sent). old_asker m r x old is now same (records m.client x known here))
          (λ (new : IsSpoken u m). new_asker m new)
          (speaks u v step answer taken m r is at)

      lasts_then : Lasts v
      lasts_then = record {
        reached = after;
        server = t;
        up = on;
        serves = serves_kept u v step answer calm h.server h.up (λ s e. subst (λ (y : Server). is_recovering y.missing ≡ false) (same_up h.server s (sym h.up ∙ e)) h.serves) taken t on;
        here = here_then;
        askers = askers_then;
      }

  pub lasts_on : Lasts u → Lasts v
  lasts_on h = by_way (way u v step answer taken.1)
    where
      by_way : Way u v step → Lasts v
      by_way (stays e) = lasts_then h h.server (e ∙ h.up) refl (λ c p. inl p) (λ c x known here. inl (x, known, refl, here))
      by_way (reads old new m outs e f at taken_so) =
          let same = same_up old h.server (sym e ∙ h.up) in
          let read = subst (λ (y : Server). ServerStep y m new outs) same taken_so in
          lasts_then h new f (step_epoch h.server new m outs read)
          (λ c p. ⊎_elim
          (λ (x : HasPart h.server c). inl x)
          (λ (x : (c ≡ m.client) × IsAsker h.server m). inr (m, x.0, at, x.1))
          (step_part h.server new m outs c (in_order u h.server h.reached h.up).0 h.serves read p))
          (λ c. step_was h.server new m outs c read)
      by_way (stops old e a f) = absurd (let x : loses_a_node Rattle.krl_steps.specs.declared.step.Step.TheVariants.CrashServer ≡ false = subst (λ y. loses_a_node y ≡ false) e calm in cc)
      by_way (begins d e f) = absurd (let x : Down d ≡ Up h.server = sym e ∙ h.up in cc)

-- Rounds

module _ (reqs writes : ℕ → ℕ) where
  pub undisturbed : (u : State) → Lasts u → AsksNoMore reqs writes u → IsUndisturbed reqs writes u
  undisturbed u h quiet = record {
    server = h.server;
    up = h.up;
    serves = h.serves;
    here = λ c p. let k = h.here c p in (k.client, k.runs, k.now);
    undisturbed = λ c k runs now. quiet h.server c k h.up runs now;
  }

  run_lasts : (steps : List Step) (u v : State) → IsSafe steps → Lasts u → (r : Runs u steps v) → Throughout (AsksNoMore reqs writes) u steps v r → Throughout (IsUndisturbed reqs writes) u steps v r × Lasts v
  run_lasts [] u v safe h r all = (all, subst Lasts (sym r) h)
  run_lasts (s ∷ steps) u v safe h r all =
      let next = lasts_on u r.1 s r.0 (safe s (inl refl)) r.2 h in
      let rest = run_lasts steps r.1 v (λ z i. safe z (inr i)) next r.3 all.1 in
      ((undisturbed r.1 next all.0, rest.0), rest.1)

  pub rounds_last : (n from : ℕ) (u v : State) → Lasts u → RoundsWhile (AsksNoMore reqs writes) n from u v → RoundsWhile (IsUndisturbed reqs writes) n from u v
  rounds_last zero from u v h r = r
  rounds_last (suc n) from u v h r =
      let one = run_lasts r.0 u r.1 r.2.stays h r.3 r.4 in
      (r.0, r.1, r.2, r.3, one.0, rounds_last n (length u.sent) r.1 v one.1 r.5)

pub manned_worlds_answer : MannedWorldsAnswerIn 1161
manned_worlds_answer reqs writes w v s c k rw h quiet r up runs now =
    let all = first w rw h in
    locks_are_answered reqs writes w v s c k rw (undisturbed reqs writes w all quiet) (rounds_last reqs writes 1161 (length w.sent) w v all r) up runs now
