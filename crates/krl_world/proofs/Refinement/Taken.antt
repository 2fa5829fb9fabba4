-- Each step that is taken is steps of the machine.
use Rattle.krl_world.proofs.Names.{◌≡◌, ℕ, zero, suc, Bool, true, false, cond, Option, Some, None, List, [], ◌∷◌, inl, inr, refl, sym, subst, nat_lt, is_some, slice_get, END, Value, ToServer}
use Rattle.krl_world.proofs.Names.{ToClient, In, Link, Logged, Reachable, none, can_start, Client, begun, ShowsPlace, Leads, sent_tells, Message, Step, Command, Answer, Refused, ServerPlace, Up, Down}
use Rattle.krl_world.proofs.Names.{State, client_of, with_client, span, message_at, command_refusal, named, of_client, if_runs, server_start, refusal_of, ServerReads, ClientReads, Delivers, Obeys}
use Rattle.krl_world.proofs.Names.{nudged, started, crashed, Does, refused_by_client, clears_in, step_clears, BoundStays, ServerFollows}
use Rattle.krl_refinement.proofs.Client.Simulation.{start_shows, crash_shows, commands_show, ticks_show_all, messages_show}
use Rattle.krl_world.specs.declared.message.Message.TheVariants as message
use Rattle.krl_steps.specs.declared.step.Step.TheVariants as step
use Rattle.krl_steps.specs.declared.step.Command.TheVariants as command
use Rattle.krl_steps.specs.declared.refused.Refused.TheVariants as refused
use Rattle.krl_world.proofs.Refinement.Mirrors.{machine_of, shared_of, Mirrors, Goes, place_goes}
use Rattle.krl_world.proofs.Refinement.Serves.{reads_goes, nudge_goes, crash_goes, start_goes}

-- What a refusal that isn't due shows

pub client_ok : (c : ℕ) (r : Option Refused) → of_client c r ≡ None → r ≡ None
client_ok c r e = by_test (nat_lt 63 c) e
  where
    by_test : (t : Bool) → cond t (Some refused.BadClient) r ≡ None → r ≡ None
    by_test true f = absurd (cc)
    by_test false f = f

pub not_named : {A : Type 0} (f : A → Refused) (o : Option A) → named f o ≡ None → o ≡ None
not_named f None e = refl
not_named f (Some a) e = absurd (cc)

pub runs_ok : (o : Option Client) (k : Client) (f : Client → Option Refused) → o ≡ Some k → if_runs o f ≡ None → f k ≡ None
runs_ok o k f i e = subst (λ x. if_runs x f ≡ None) i e

-- When nothing happens

rests : (w : State) (gone : ℕ → Bool) (of : ℕ → Link) (log : List Logged) → ((c : ℕ) → gone c ≡ false) → Mirrors w of log → Goes w.server w gone of log
rests w gone of log e h = record {
  after = of;
  log_after = log;
  steps = none;
  mirrors = h;
  bound = λ n c. subst (λ b. BoundStays b (of c) (of c)) (sym (e c)) (record { range = λ p. refl; key = λ p. refl });
}

-- Commands

place_at : (w : State) (of : ℕ → Link) (log : List Logged) (c : ℕ) (k : Option Client) → Mirrors w of log → client_of w c ≡ k → ShowsPlace c (w.places c).last_incarnation k (of c)
place_at w of log c k h e = subst (λ x. ShowsPlace c (w.places c).last_incarnation x (of c)) e (h.places c)

-- the client of c continues as k', and sends these
client_goes : (w v : State) (of : ℕ → Link) (log : List Logged) (c : ℕ) (k' : Option Client) (ms : List ToServer) → Mirrors w of log → Leads (shared_of w.server) (of c) c (w.places c).last_incarnation k' ms → v ≡ with_client w c k' ms → Goes w.server v (λ d. false) of log
client_goes w v of log c k' ms h g e = subst (λ x. Goes w.server x (λ d. false) of log) (sym e) (place_goes w of log c (record { last_incarnation = (w.places c).last_incarnation; client = k' }) ms h g)

obeys_goes : (w v : State) (of : ℕ → Link) (log : List Logged) (c : ℕ) (k : Client) (what : Command) (answer : Answer) → Mirrors w of log → client_of w c ≡ Some k → command_refusal k what ≡ None → Obeys w c k what answer v → Goes w.server v (λ d. false) of log
obeys_goes w v of log c k (command.Lock point hi m) answer h i e d = client_goes w v of log c _ _ h (commands_show.lock k point hi m e (shared_of w.server) (of c) c (w.places c).last_incarnation (place_at w of log c (Some k) h i)) d.1
obeys_goes w v of log c k (command.Write op) answer h i e d = client_goes w v of log c _ _ h (commands_show.write k op e (shared_of w.server) (of c) c (w.places c).last_incarnation (place_at w of log c (Some k) h i)) d.1
obeys_goes w v of log c k (command.Seize op) answer h i e d = client_goes w v of log c _ _ h (commands_show.seize k op e (shared_of w.server) (of c) c (w.places c).last_incarnation (place_at w of log c (Some k) h i)) d.1
obeys_goes w v of log c k (command.Scan lo hi) answer h i e d = subst (λ x. Goes w.server x (λ d. false) of log) (sym d.1) (rests w (λ d. false) of log (λ d. refl) h)
obeys_goes w v of log c k (command.Lower lo hi keep) answer h i e d = client_goes w v of log c _ _ h (commands_show.lower k (span lo hi) keep e (shared_of w.server) (of c) c (w.places c).last_incarnation (place_at w of log c (Some k) h i)) d.1
obeys_goes w v of log c k (command.Pin lo hi) answer h i e d = client_goes w v of log c _ _ h (commands_show.pin k (span lo hi) d.0 (shared_of w.server) (of c) c (w.places c).last_incarnation (place_at w of log c (Some k) h i)) d.3
obeys_goes w v of log c k (command.Unpin id) answer h i e d = client_goes w v of log c _ _ h (commands_show.unpin k id (shared_of w.server) (of c) c (w.places c).last_incarnation (place_at w of log c (Some k) h i)) d.1
obeys_goes w v of log c k command.Leave answer h i e d = client_goes w v of log c _ _ h (commands_show.leave k (shared_of w.server) (of c) c (w.places c).last_incarnation (place_at w of log c (Some k) h i)) d.1

-- Deliveries

nth_in : (ms : List Message) (i : ℕ) (m : Message) → slice_get ms i ≡ Some m → In m ms
nth_in [] i m e = absurd (cc)
nth_in (x ∷ ms) zero m e = inl (cc)
nth_in (x ∷ ms) (suc i) m e = inr (nth_in ms i m e)

pub at_in : (ms : List Message) (i : ℕ) (m : Message) → message_at ms i ≡ Some m → In m ms
at_in ms zero m e = absurd (cc)
at_in ms (suc i) m e = nth_in ms i m e

-- a message reaches a client, or is lost
client_reads : (w v : State) (of : ℕ → Link) (log : List Logged) (m : ToClient) (gone : ℕ → Bool) (o : Option Client) → Mirrors w of log → In (message.ToClient m) w.sent → ((c : ℕ) → gone c ≡ false) → client_of w m.client ≡ o → ClientReads w o m v → Goes w.server v gone of log
client_reads w v of log m gone None h at e i d = subst (λ x. Goes w.server x gone of log) (sym d) (rests w gone of log e h)
client_reads w v of log m gone (Some k) h at e i d =
    let g = client_goes w v of log m.client _ _ h (messages_show k d.0 m d.1 (shared_of w.server) (of m.client) m.client (w.places m.client).last_incarnation (place_at w of log m.client (Some k) h i) (λ own. sent_tells (of m.client) m.incarnation m.body (h.to m at))) d.2 in
    record { after = g.after; log_after = g.log_after; steps = g.steps; mirrors = g.mirrors; bound = λ n c. subst (λ b. BoundStays b (of c) (g.after c)) (sym (e c)) (g.bound n c) }

-- a message reaches the server, or is lost
server_reads : ServerFollows → (first : ℕ → Option Value) (w v : State) (of : ℕ → Link) (log : List Logged) (m : ToServer) (n : ServerPlace) → Mirrors w of log → w.server ≡ n → Reachable first END (machine_of n of log) → In (message.ToServer m) w.sent → ServerReads w n m v → Goes n v (clears_in n (Some (message.ToServer m))) of log
server_reads owed first w v of log m (Up s) h up reach at d = subst (λ x. Goes (Up s) x (clears_in (Up s) (Some (message.ToServer m))) of log) (sym d.3) (reads_goes owed first w s d.0 of log m d.1 h up reach at d.2)
server_reads owed first w v of log m (Down x) h up reach at d =
    subst (λ y. Goes (Down x) y (λ c. false) of log) (sym d) (subst (λ n. Goes n w (λ c. false) of log) up (rests w (λ c. false) of log (λ c. refl) h))

gone_to_client : (n : ServerPlace) (m : ToClient) (c : ℕ) → clears_in n (Some (message.ToClient m)) c ≡ false
gone_to_client (Up s) m c = refl
gone_to_client (Down d) m c = refl

deliver_goes : ServerFollows → (first : ℕ → Option Value) (w v : State) (of : ℕ → Link) (log : List Logged) (o : Option Message) → Mirrors w of log → Reachable first END (machine_of w.server of log) → ((m : Message) → o ≡ Some m → In m w.sent) → Delivers w o v → Goes w.server v (clears_in w.server o) of log
deliver_goes owed first w v of log None h reach at d = absurd d
deliver_goes owed first w v of log (Some (message.ToServer m)) h reach at d = server_reads owed first w v of log m w.server h refl reach (at (message.ToServer m) refl) d
deliver_goes owed first w v of log (Some (message.ToClient m)) h reach at d = client_reads w v of log m (clears_in w.server (Some (message.ToClient m))) (client_of w m.client) h (at (message.ToClient m) refl) (gone_to_client w.server m) refl d

-- The server's own steps

nudged_goes : ServerFollows → (first : ℕ → Option Value) (w v : State) (of : ℕ → Link) (log : List Logged) (c : ℕ) (n : ServerPlace) → Mirrors w of log → w.server ≡ n → Reachable first END (machine_of n of log) → v ≡ nudged w n c → Goes n v (λ d. false) of log
nudged_goes owed first w v of log c (Up s) h up reach e = subst (λ x. Goes (Up s) x (λ d. false) of log) (sym e) (nudge_goes owed first w s of log c h up reach)
nudged_goes owed first w v of log c (Down x) h up reach e = subst (λ y. Goes (Down x) y (λ d. false) of log) (sym e) (subst (λ n. Goes n w (λ d. false) of log) up (rests w (λ d. false) of log (λ d. refl) h))

crashed_goes : ServerFollows → (w v : State) (of : ℕ → Link) (log : List Logged) (n : ServerPlace) → Mirrors w of log → w.server ≡ n → v ≡ crashed w n → Goes n v (λ d. false) of log
crashed_goes owed w v of log (Up s) h up e = subst (λ x. Goes (Up s) x (λ d. false) of log) (sym e) (crash_goes owed w s of log h up)
crashed_goes owed w v of log (Down x) h up e = subst (λ y. Goes (Down x) y (λ d. false) of log) (sym e) (subst (λ n. Goes n w (λ d. false) of log) up (rests w (λ d. false) of log (λ d. refl) h))

started_goes : ServerFollows → (w v : State) (of : ℕ → Link) (log : List Logged) (n : ServerPlace) → Mirrors w of log → w.server ≡ n → server_start n ≡ None → v ≡ started w n → Goes n v (λ d. false) of log
started_goes owed w v of log (Up s) h up ok e = absurd (cc)
started_goes owed w v of log (Down x) h up ok e = subst (λ y. Goes (Down x) y (λ d. false) of log) (sym e) (start_goes owed w x of log h up (can (can_start x) ok))
  where
    can : (b : Bool) → cond b None (Some refused.Spent) ≡ None → b ≡ true
    can true f = refl
    can false f = absurd (cc)

-- A client that is down starts

not_running : (o : Option Client) (r : Option Refused) → cond (is_some o) (Some refused.Running) r ≡ None → o ≡ None
not_running None r e = refl
not_running (Some k) r e = absurd (cc)

-- one that runs crashes
crash_client : (w v : State) (of : ℕ → Link) (log : List Logged) (c : ℕ) (o : Option Client) → Mirrors w of log → client_of w c ≡ o → if_runs o (λ k. None) ≡ None → v ≡ with_client w c None [] → Goes w.server v (λ d. false) of log
crash_client w v of log c None h i e d = absurd (cc)
crash_client w v of log c (Some k) h i e d = client_goes w v of log c None [] h (crash_shows k (shared_of w.server) (of c) c (w.places c).last_incarnation (place_at w of log c (Some k) h i)) d

-- Each step

pub takes_goes : ServerFollows → (first : ℕ → Option Value) (w v : State) (of : ℕ → Link) (log : List Logged) (s : Step) (answer : Answer) → Mirrors w of log → Reachable first END (machine_of w.server of log) → refusal_of w s ≡ None → Does w s answer v → Goes w.server v (step_clears w s) of log
takes_goes owed first w v of log (step.Deliver i) answer h reach e d = deliver_goes owed first w v of log (message_at w.sent i) h reach (λ m. at_in w.sent i m) d.1
takes_goes owed first w v of log (step.Command c what) answer h reach e d = obeys_goes w v of log c d.0 what answer h d.1 (not_named refused_by_client (command_refusal d.0 what) (runs_ok (client_of w c) d.0 _ d.1 (client_ok c _ e))) d.2
takes_goes owed first w v of log (step.Tick c) answer h reach e d =
    client_goes w v of log c _ _ h (ticks_show_all d.1.0 d.1.2.0 d.1.2.1 (shared_of w.server) (of c) c (w.places c).last_incarnation (place_at w of log c (Some d.1.0) h d.1.1)) d.1.2.2
takes_goes owed first w v of log (step.Nudge c) answer h reach e d = nudged_goes owed first w v of log c w.server h refl reach d.1
takes_goes owed first w v of log (step.StartClient c) answer h reach e d =
    subst (λ x. Goes w.server x (λ y. false) of log) (sym d.1)
    (place_goes w of log c (record { last_incarnation = suc (w.places c).last_incarnation; client = Some (begun c (suc (w.places c).last_incarnation)) }) _ h
    (start_shows (shared_of w.server) (of c) c (w.places c).last_incarnation (place_at w of log c None h (not_running (client_of w c) _ (client_ok c _ e)))))
takes_goes owed first w v of log (step.CrashClient c) answer h reach e d = crash_client w v of log c (client_of w c) h refl (client_ok c _ e) d.1
takes_goes owed first w v of log step.StartServer answer h reach e d = started_goes owed w v of log w.server h refl e d.1
takes_goes owed first w v of log step.CrashServer answer h reach e d = crashed_goes owed w v of log w.server h refl d.1
