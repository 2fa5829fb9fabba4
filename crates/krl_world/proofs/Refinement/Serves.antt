-- Each step at the server's side is steps of the machine, by what that side owes.
use Rattle.krl_world.proofs.Names.{arith, ◌≡◌, ℕ, ◌∙◌, Bool, true, false, Option, Some, None, List, [], ◌∷◌, ◌++◌, refl, sym, ap, subst, ⊎_elim, nat_eq, if◌then◌else◌, ◌&&◌, END, Value, ToServer}
use Rattle.krl_world.proofs.Names.{ToClient, Outcome, WriteOp, In, in_both, Durable, Link, Server, is_recovering, Case, Ignored, Registers, Leaves, Tells, Alarms, Rebuilds, Repeats, Acknowledges}
use Rattle.krl_world.proofs.Names.{Lowers, Waits, Judges, SeizesLock, AnswersAgain, case_of, clears, ServerStep, nudge, start, can_start, op_of, WasSent, logged, Client, Grows, ShowsClient, ShowsPlace}
use Rattle.krl_world.proofs.Names.{AppliedWrite, ServerPlace, Up, Down, State, durable_of, is_serving, from_server, served, applies, ServerFollows, stands_stays, sent_stays}
use Rattle.krl_messages.specs.declared.outcome.Outcome.TheVariants as outcome
use Rattle.krl_messages.specs.declared.write_op.WriteOp.TheVariants as write
use Rattle.krl_machine.specs.Worlds as machine
use Rattle.krl_machine.specs.Worlds.{Logged, Steps, Reachable}
use Rattle.krl_world.specs.declared.message.Message.TheVariants as message
use Rattle.krl_world.proofs.Refinement.Growing.{steps_grow}
use Rattle.krl_world.proofs.Refinement.Calling.{AreCalled, step_called, nudge_called, epoch_rises}
use Rattle.krl_world.proofs.Refinement.Mirrors.{machine_of, ServerShows, op_back, oldest_first, Mirrors, Goes, in_from_server, not_from_server}

-- a place shows in whatever has the same client
pub place_stays : (c g : ℕ) (k : Option Client) (l m : Link) → m.client ≡ l.client → ShowsPlace c g k l → ShowsPlace c g k m
place_stays c g None l m e h = (ap (λ a. a.inc) e ∙ h.0, ap (λ a. a.up) e ∙ h.1)
place_stays c g (Some k) l m e h = (ap (λ a. a.inc) e ∙ h.0, subst (ShowsClient c k) (sym e) h.1)

-- The list of writes

pub nil_right : {A : Type 0} (xs : List A) → xs ++ [] ≡ xs
nil_right [] = refl
nil_right (x ∷ xs) = ap (λ ys. x ∷ ys) (nil_right xs)

pub back_of : (x : WriteOp) → op_back (op_of x) ≡ x
back_of (write.Insert k v) = refl
back_of (write.Put k v) = refl
back_of (write.Delete k) = refl

write_of : (m : ToServer) (number : ℕ) (x : WriteOp) → AppliedWrite
write_of m number x = record { client = m.client; incarnation = m.incarnation; number = number; op = x }

judged_log : (m : ToServer) (number : ℕ) (x : WriteOp) (o : Outcome) (log : List Logged) → oldest_first log ++ applies m (Judges number x o) ≡ oldest_first (logged m (Judges number x o) log)
unfolding write_of
judged_log m number x outcome.Applied log = ap (λ y. oldest_first log ++ (write_of m number y ∷ [])) (sym (back_of x))
judged_log m number x outcome.Exists log = nil_right (oldest_first log)
judged_log m number x outcome.Absent log = nil_right (oldest_first log)
judged_log m number x outcome.NotHeld log = nil_right (oldest_first log)
judged_log m number x outcome.Full log = nil_right (oldest_first log)

pub case_log : (m : ToServer) (k : Case) (log : List Logged) → oldest_first log ++ applies m k ≡ oldest_first (logged m k log)
case_log m Ignored log = nil_right (oldest_first log)
case_log m Registers log = nil_right (oldest_first log)
case_log m Leaves log = nil_right (oldest_first log)
case_log m Tells log = nil_right (oldest_first log)
case_log m Alarms log = nil_right (oldest_first log)
case_log m (Rebuilds pieces) log = nil_right (oldest_first log)
case_log m (Repeats body) log = nil_right (oldest_first log)
case_log m Acknowledges log = nil_right (oldest_first log)
case_log m (Lowers s keep) log = nil_right (oldest_first log)
case_log m (Waits req point hi g) log = nil_right (oldest_first log)
case_log m (Judges number x o) log = judged_log m number x o log
case_log m (SeizesLock number x) log = judged_log m number x outcome.Applied log
case_log m (AnswersAgain number x o) log = nil_right (oldest_first log)

-- Steps

-- the messages and places, if the machine continued and the clients stayed
pub mirrors_on : (w : State) (n : ServerPlace) (of to : ℕ → Link) (log log' : List Logged) (a b : machine.World) (outs : List ToClient) (writes : List AppliedWrite) → Mirrors w of log → a.links ≡ of → b.links ≡ to → Steps a b → ((o : ToClient) → In o outs → WasSent (to o.client) o.incarnation o.body) → ((c : ℕ) → (to c).client ≡ (of c).client) → ServerShows n to → oldest_first log ++ writes ≡ oldest_first log' → (durable_of w.server).epoch ≡ a.shared.epoch → b.shared.epoch ≡ (durable_of n).epoch → AreCalled (durable_of n).epoch outs → Mirrors (served w n outs writes) to log'
mirrors_on w n of to log log' a b outs writes h ea eb steps sent clients shows e old new called = record {
  places = λ c. place_stays c (w.places c).last_incarnation (w.places c).client (of c) (to c) (clients c) (h.places c);
  from = λ m i. ⊎_elim (λ (x : In (message.ToServer m) w.sent). stands_stays (of m.client) (to m.client) (grows m.client) m.incarnation m.body (h.from m x))
      (λ (y : In (message.ToServer m) (from_server outs)). absurd (not_from_server m outs y)) (in_both w.sent (from_server outs) (message.ToServer m) i);
  to = λ m i. ⊎_elim (λ (x : In (message.ToClient m) w.sent). sent_stays (of m.client) (to m.client) (grows m.client) m.incarnation m.body (h.to m x))
      (λ (y : In (message.ToClient m) (from_server outs)). sent m (in_from_server m outs y)) (in_both w.sent (from_server outs) (message.ToClient m) i);
  called = λ m i. ⊎_elim (λ (x : In (message.ToClient m) w.sent). let y = h.called m x in let z = epoch_rises a b steps in omega arith)
      (λ (y : In (message.ToClient m) (from_server outs)). called m (in_from_server m outs y)) (in_both w.sent (from_server outs) (message.ToClient m) i);
  server = shows;
  writes = ap (λ ws. ws ++ writes) h.writes ∙ e;
}
  where
    grows : (c : ℕ) → Grows (of c) (to c)
    grows c = subst (λ x. Grows (x c) (to c)) ea (subst (λ x. Grows (a.links c) (x c)) eb (steps_grow a b steps c))

pub not_serving : (t : Server) → is_serving (Up t) ≡ false → is_recovering t.missing ≡ true
not_serving t e = by_test (is_recovering t.missing) refl e
  where
    by_test : (b : Bool) → is_recovering t.missing ≡ b → (if b then false else true) ≡ false → is_recovering t.missing ≡ true
    by_test true i f = i
    by_test false i f = absurd (cc)

-- a message reaches a server that runs
pub reads_goes : ServerFollows → (first : ℕ → Option Value) (w : State) (s t : Server) (of : ℕ → Link) (log : List Logged) (m : ToServer) (outs : List ToClient) → Mirrors w of log → w.server ≡ Up s → Reachable first END (machine_of (Up s) of log) → In (message.ToServer m) w.sent → ServerStep s m t outs → Goes (Up s) (served w (Up t) outs (applies m (case_of s m))) (λ c. nat_eq c m.client && clears (case_of s m)) of log
reads_goes owed first w s t of log m outs h up reach at step =
    let shown = subst (λ n. ServerShows n of) up h.server in
    let f = owed.step first s t of log m outs reach shown.0 shown.1 (h.from m at) step in
    record {
      after = f.follows.after;
      log_after = f.follows.log_after;
      steps = f.follows.steps;
      mirrors = mirrors_on w (Up t) of f.follows.after log f.follows.log_after (machine_of (Up s) of log) (machine_of (Up t) f.follows.after f.follows.log_after) outs (applies m (case_of s m)) h refl refl f.follows.steps f.follows.sent f.follows.clients (f.follows.shows, f.follows.sound) (case_log m (case_of s m) log ∙ ap oldest_first (sym f.writes)) (ap (λ n. (durable_of n).epoch) up) refl (step_called s t m outs step);
      bound = λ e. f.bound (not_serving t e);
    }

pub nudge_goes : ServerFollows → (first : ℕ → Option Value) (w : State) (s : Server) (of : ℕ → Link) (log : List Logged) (c : ℕ) → Mirrors w of log → w.server ≡ Up s → Reachable first END (machine_of (Up s) of log) → Goes (Up s) (served w (Up s) (nudge s c) []) (λ d. false) of log
nudge_goes owed first w s of log c h up reach =
    let shown = subst (λ n. ServerShows n of) up h.server in
    let f = owed.nudge first s of log c reach shown.0 shown.1 in
    record {
      after = f.follows.after;
      log_after = f.follows.log_after;
      steps = f.follows.steps;
      mirrors = mirrors_on w (Up s) of f.follows.after log f.follows.log_after (machine_of (Up s) of log) (machine_of (Up s) f.follows.after f.follows.log_after) (nudge s c) [] h refl refl f.follows.steps f.follows.sent f.follows.clients (f.follows.shows, f.follows.sound) (nil_right (oldest_first log) ∙ ap oldest_first (sym f.writes)) (ap (λ n. (durable_of n).epoch) up) refl (nudge_called s c);
      bound = λ e. f.bound;
    }

no_outs : (to : ℕ → Link) (o : ToClient) → In o [] → WasSent (to o.client) o.incarnation o.body
no_outs to o i = absurd i

pub crash_goes : ServerFollows → (w : State) (s : Server) (of : ℕ → Link) (log : List Logged) → Mirrors w of log → w.server ≡ Up s → Goes (Up s) (served w (Down s.durable) [] []) (λ d. false) of log
crash_goes owed w s of log h up =
    let shown = subst (λ n. ServerShows n of) up h.server in
    let f = owed.crash s of log shown.0 shown.1 in
    record {
      after = of;
      log_after = log;
      steps = f.steps;
      mirrors = mirrors_on w (Down s.durable) of of log log (machine_of (Up s) of log) (machine_of (Down s.durable) of log) [] [] h refl refl f.steps (no_outs of) (λ c. refl) (f.shows, f.sound) (nil_right (oldest_first log)) (ap (λ n. (durable_of n).epoch) up) refl (λ o i. absurd i);
      bound = λ e c. record { range = λ p. refl; key = λ p. refl };
    }

pub start_goes : ServerFollows → (w : State) (d : Durable) (of : ℕ → Link) (log : List Logged) → Mirrors w of log → w.server ≡ Down d → can_start d ≡ true → Goes (Down d) (served w (Up (start d)) [] []) (λ c. false) of log
start_goes owed w d of log h down can =
    let shown = subst (λ n. ServerShows n of) down h.server in
    let f = owed.start d of log can shown.0 shown.1 in
    record {
      after = f.follows.after;
      log_after = f.follows.log_after;
      steps = f.follows.steps;
      mirrors = mirrors_on w (Up (start d)) of f.follows.after log f.follows.log_after (machine_of (Down d) of log) (machine_of (Up (start d)) f.follows.after f.follows.log_after) [] [] h refl refl f.follows.steps (no_outs f.follows.after) f.follows.clients (f.follows.shows, f.follows.sound) (nil_right (oldest_first log) ∙ ap oldest_first (sym f.writes)) (ap (λ n. (durable_of n).epoch) down) refl (λ o i. absurd i);
      bound = λ e. f.bound (not_serving (start d) e);
    }
