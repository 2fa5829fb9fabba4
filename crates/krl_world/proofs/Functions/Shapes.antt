-- A step changes one place, or the server, and what was sent; so it keeps what the world began with, and places nobody above 63.
use Rattle.krl_world.proofs.Names.{◌≡◌, ℕ, ◌≤◌, ◌∙◌, Bool, true, false, cond, Option, Some, None, List, [], ◌∷◌, refl, sym, ap, subst, arith, nat_eq, nat_lt, if◌then◌else◌, ltb-false, eqb-true}
use Rattle.krl_world.proofs.Names.{Result, Ok, Err, Durable, ToServer, ToClient, Client, Message, AppliedWrite, Step, Command, Answer, Refused, ServerPlace, Up, Down, ClientPlace, State, client_of}
use Rattle.krl_world.proofs.Names.{range_believed, key_believed, set_place, opened, message_at, of_client, CanOpen, ServerReads, ClientReads, Delivers, Obeys, nudged, started, crashed, Takes, Steps}
use Rattle.krl_world.proofs.Names.{Runs, RunsWith, IsReachable, IsReachedByRun, ReachableStays, NobodyAbove63}
use Rattle.krl_world.specs.Steps.{opens, takes, resizes}
use Rattle.krl_world.proofs.Reaching.{by_reaching, by_run}
use Rattle.krl_modes.specs.declared.part.RangePart.TheVariants as range
use Rattle.krl_modes.specs.declared.part.KeyPart.TheVariants as key
use Rattle.krl_world.specs.declared.message.Message.TheVariants as message
use Rattle.krl_steps.specs.declared.step.Step.TheVariants as step
use Rattle.krl_steps.specs.declared.step.Command.TheVariants as command
use Rattle.krl_steps.specs.declared.refused.Refused.TheVariants as refused

-- nobody runs with a number above 63
abbrev pub HasNobody : State → Type 0
HasNobody w = (c : ℕ) → 64 ≤ c → client_of w c ≡ None

-- what a step leaves
pub data Left (w : State) : State → Type 0 where
  as_it_was : Left w w
  at_place : (c : ℕ) (x : ClientPlace) (sent : List Message) → (64 ≤ c → x.client ≡ None) → Left w (record w { places = set_place w.places c x; sent = sent })
  at_server : (n : ServerPlace) (sent : List Message) (writes : List AppliedWrite) → Left w (record w { server = n; sent = sent; writes = writes })

-- a client's number that isn't refused
in_range : (c : ℕ) (r : Option Refused) (A : Type 0) → of_client c r ≡ None → 64 ≤ c → A
in_range c r A e l = by_test (nat_lt 63 c) refl e
  where
    by_test : (t : Bool) → nat_lt 63 c ≡ t → cond t (Some refused.BadClient) r ≡ None → A
    by_test true i f = absurd (cc)
    by_test false i f = let x = ltb-false 63 c i in absurd (omega arith)

place_left : (w v : State) (c : ℕ) (x : ClientPlace) (sent : List Message) → (64 ≤ c → x.client ≡ None) → v ≡ record w { places = set_place w.places c x; sent = sent } → Left w v
place_left w v c x sent n e = subst (Left w) (sym e) (at_place c x sent n)

server_left : (w v : State) (n : ServerPlace) (sent : List Message) (writes : List AppliedWrite) → v ≡ record w { server = n; sent = sent; writes = writes } → Left w v
server_left w v n sent writes e = subst (Left w) (sym e) (at_server n sent writes)

same_left : (w v : State) → v ≡ w → Left w v
same_left w v e = subst (Left w) (sym e) as_it_was

obeys_left : (w v : State) (c : ℕ) (k : Client) (what : Command) (answer : Answer) (r : Option Refused) → of_client c r ≡ None → Obeys w c k what answer v → Left w v
obeys_left w v c k (command.Lock point hi m) answer r e d = place_left w v c _ _ (in_range c r _ e) d.1
obeys_left w v c k (command.Write op) answer r e d = place_left w v c _ _ (in_range c r _ e) d.1
obeys_left w v c k (command.Seize op) answer r e d = place_left w v c _ _ (in_range c r _ e) d.1
obeys_left w v c k (command.Scan lo hi) answer r e d = same_left w v d.1
obeys_left w v c k (command.Lower lo hi keep) answer r e d = place_left w v c _ _ (in_range c r _ e) d.1
obeys_left w v c k (command.Pin lo hi) answer r e d = place_left w v c _ _ (in_range c r _ e) d.3
obeys_left w v c k (command.Unpin id) answer r e d = place_left w v c _ _ (in_range c r _ e) d.1
obeys_left w v c k command.Leave answer r e d = place_left w v c _ _ (in_range c r _ e) d.1

client_left : (w v : State) (m : ToClient) (o : Option Client) → HasNobody w → client_of w m.client ≡ o → ClientReads w o m v → Left w v
client_left w v m None h i d = same_left w v d
client_left w v m (Some k) h i d = place_left w v m.client _ _ (λ l. absurd (let x = h m.client l in let y : Some k ≡ None = sym i ∙ x in cc)) d.2

reads_left : (w v : State) (m : ToServer) (n : ServerPlace) → ServerReads w n m v → Left w v
reads_left w v m (Up s) d = server_left w v _ _ _ d.3
reads_left w v m (Down x) d = same_left w v d

delivers_left : (w v : State) (o : Option Message) → HasNobody w → Delivers w o v → Left w v
delivers_left w v None h d = absurd d
delivers_left w v (Some (message.ToServer m)) h d = reads_left w v m w.server d
delivers_left w v (Some (message.ToClient m)) h d = client_left w v m (client_of w m.client) h refl d

nudged_left : (w v : State) (c : ℕ) (n : ServerPlace) → v ≡ nudged w n c → Left w v
nudged_left w v c (Up s) e = server_left w v _ _ _ e
nudged_left w v c (Down d) e = same_left w v e

started_left : (w v : State) (n : ServerPlace) → v ≡ started w n → Left w v
started_left w v (Up s) e = same_left w v e
started_left w v (Down d) e = server_left w v _ _ _ e

crashed_left : (w v : State) (n : ServerPlace) → v ≡ crashed w n → Left w v
crashed_left w v (Up s) e = server_left w v _ _ _ e
crashed_left w v (Down d) e = same_left w v e

pub takes_left : (w v : State) (s : Step) (answer : Answer) → HasNobody w → Takes w s answer v → Left w v
takes_left w v (step.Deliver i) answer h t = delivers_left w v (message_at w.sent i) h t.1.1
takes_left w v (step.Command c what) answer h t = obeys_left w v c t.1.0 what answer _ t.0 t.1.2
takes_left w v (step.Tick c) answer h t = place_left w v c _ _ (in_range c _ _ t.0) t.1.1.2.2
takes_left w v (step.Nudge c) answer h t = nudged_left w v c w.server t.1.1
takes_left w v (step.StartClient c) answer h t = place_left w v c _ _ (in_range c _ _ t.0) t.1.1
takes_left w v (step.CrashClient c) answer h t = place_left w v c _ _ (λ l. refl) t.1.1
takes_left w v step.StartServer answer h t = started_left w v w.server t.1.1
takes_left w v step.CrashServer answer h t = crashed_left w v w.server t.1.1

-- What it keeps

pub opening_left : (w v : State) → Left w v → v.opening ≡ w.opening
opening_left w _ as_it_was = refl
opening_left w _ (at_place c x sent n) = refl
opening_left w _ (at_server n sent writes) = refl

nobody_left : (w v : State) → HasNobody w → Left w v → HasNobody v
nobody_left w _ h as_it_was = h
nobody_left w _ h (at_place c x sent n) = λ d l. by_test d (nat_eq d c) refl l
  where
    by_test : (d : ℕ) (t : Bool) → nat_eq d c ≡ t → 64 ≤ d → (if t then x else w.places d).client ≡ None
    by_test d true e l = n (subst (λ y. 64 ≤ y) (eqb-true d c e) l)
    by_test d false e l = h d l
nobody_left w _ h (at_server n sent writes) = h

opened_nobody : (d : Durable) → HasNobody (opened d)
unfolding opened
opened_nobody d c l = refl

pub opened_opening : (d : Durable) → (opened d).opening ≡ d
unfolding opened
opened_opening d = refl

-- Worlds that are reached

pub reachable_nobody : (w : State) → IsReachable w → HasNobody w
reachable_nobody = by_reaching HasNobody (λ d h. opened_nobody d) (λ w v s answer r h t. nobody_left w v h (takes_left w v s answer h t)) (λ w d l r h e fits. h)

-- a step keeps what the world began with
pub reachable_opening : (w v : State) (s : Step) (answer : Answer) → IsReachable w → Takes w s answer v → v.opening ≡ w.opening
reachable_opening w v s answer h t = opening_left w v (takes_left w v s answer (reachable_nobody w h) t)

step_reachable : (w v : State) (s : Step) (r : Result Answer Refused) → IsReachable w → Steps w s r v → IsReachable v
unfolding Steps
step_reachable w v s (Ok answer) h t = takes w v s answer h t
step_reachable w v s (Err e) h t = subst IsReachable (sym t.0) h

runs_reachable : (w v : State) (steps : List Step) (results : List (Result Answer Refused)) → IsReachable w → RunsWith w steps results v → IsReachable v
runs_reachable w v [] [] h r = subst IsReachable (sym r) h
runs_reachable w v [] (x ∷ results) h r = absurd r
runs_reachable w v (s ∷ steps) [] h r = absurd r
runs_reachable w v (s ∷ steps) (x ∷ results) h r = runs_reachable r.0 v steps results (step_reachable w r.0 s x h r.1) r.2

-- Worlds that are reached by a run

run_on : (u w v : State) (steps : List Step) (s : Step) (answer : Answer) → Runs u steps w → Takes w s answer v → (more : List Step) × Runs u more v
run_on u w v [] s answer r t = (s ∷ [], (answer, v, subst (λ x. Takes x s answer v) r t, refl))
run_on u w v (x ∷ steps) s answer r t = let y = run_on r.1 w v steps s answer r.3 t in (x ∷ y.0, (r.0, r.1, r.2, y.1))

pub first_by_run : (d : Durable) → CanOpen d → IsReachedByRun (opened d)
first_by_run d h = subst (λ x. CanOpen x × (steps : List Step) × Runs (opened x) steps (opened d)) (sym (opened_opening d)) (h, [], refl)

takes_by_run : (w v : State) (s : Step) (answer : Answer) → IsReachedByRun w → Takes w s answer v → IsReachedByRun v
takes_by_run w v s answer h t =
    let e = reachable_opening w v s answer (by_run w h) t in
    let r = run_on (opened w.opening) w v h.1 s answer h.2 t in
    subst (λ d. CanOpen d × (steps : List Step) × Runs (opened d) steps v) (sym e) (h.0, r.0, r.1)

pub step_by_run : (w v : State) (s : Step) (r : Result Answer Refused) → IsReachedByRun w → Steps w s r v → IsReachedByRun v
unfolding Steps
step_by_run w v s (Ok answer) h t = takes_by_run w v s answer h t
step_by_run w v s (Err e) h t = subst IsReachedByRun (sym t.0) h

pub reachable_stays : ReachableStays
reachable_stays = record { first = opens; step = step_reachable; run = runs_reachable; resized = resizes }

pub nobody_above_63 : NobodyAbove63
nobody_above_63 w h c p l = let n = reachable_nobody w h c l in (subst (λ o. range_believed o p ≡ range.N) (sym n) refl, subst (λ o. key_believed o p ≡ key.N) (sym n) refl)
