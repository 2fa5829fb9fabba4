-- Each step that is not refused can be taken.
use Rattle.krl_world.proofs.Names.{◌≡◌, ℕ, zero, suc, ◌+◌, ◌-◌, ◌≤◌, ◌<◌, Bool, true, false, cond, Option, Some, None, List, [], ◌∷◌, ◌⊎◌, inl, inr, refl, sym, subst, arith, is_some, nat_lt, nat_le}
use Rattle.krl_world.proofs.Names.{ltb-true, eqb_tells, and_parts, not-false, not, END, TOP, Value, WriteOp, Pieces, ToServer, ToClient, op_key, always_bounded, restarts_hold, scans_are_index}
use Rattle.krl_world.proofs.Names.{case_of, ServerFollows, Belief, is_span, is_covered, CoversAll, AreRows, Describes, Client, outstanding, is_in, is_writing_in, free_pin, begun, is_pending}
use Rattle.krl_world.proofs.Names.{finds_rows, misses, locked, says_lock, wrote, seized, says_write, says_release, belief_lowered, pinned, unpinned, says_bye, passed, Message, Step, Command, Answer, Refused}
use Rattle.krl_world.proofs.Names.{ServerPlace, Up, Down, State, index_of, client_of, with_client, seated, served, span, message_at, command_refusal, if_runs, refusal_of, applies, ServerReads}
use Rattle.krl_world.proofs.Names.{ClientReads, Delivers, ScanAnswers, Obeys, nudged, started, crashed, Takes, IsReachable, refused_by_client, CanGoOn}
use Rattle.krl_server.proofs.Outputs.Ends.{step_ends}
use Rattle.krl_client.specs.Messages as receiver
use Rattle.krl_client.specs.Ticks.{tick, says_hello}
use Rattle.krl_world.specs.declared.message.Message.TheVariants as message
use Rattle.krl_steps.specs.declared.step.Step.TheVariants as step
use Rattle.krl_steps.specs.declared.step.Command.TheVariants as command
use Rattle.krl_steps.specs.declared.answer.Answer.TheVariants as told
use Rattle.krl_steps.specs.declared.refused.Refused.TheVariants as refused
use Rattle.krl_durable.specs.Index as index
use Rattle.krl_world.proofs.Refinement.Mirrors.{machine_of}
use Rattle.krl_world.proofs.Refinement.Openings.{first_of}
use Rattle.krl_world.proofs.Refinement.Reached.{world_reached}
use Rattle.krl_world.proofs.Promises.CompatibilityAndScans.{rows_of_scan}
use Rattle.krl_world.proofs.Progress.Described.{described_world}
use Rattle.krl_world.proofs.Refinement.Taken.{client_ok, not_named}

-- some pieces describe what each client believes
abbrev AreDescribed : State → Type 0
AreDescribed w = (c : ℕ) (k : Client) → client_of w c ≡ Some k → (ps : Pieces) × Describes ps k.belief

-- a span that a client knows has rows
abbrev HaveRows : State → Type 0
HaveRows w = (c lo hi : ℕ) (k : Client) → client_of w c ≡ Some k → is_span (span lo hi) ≡ true → is_writing_in k (span lo hi) ≡ false → CoversAll k.belief (span lo hi) → AreRows k.belief (span lo hi) (index.range (index_of w) lo hi)

-- Deliveries

server_on : (w : State) (m : ToServer) (n : ServerPlace) → (v : State) × ServerReads w n m v
server_on w m (Up s) = let x = step_ends s m in (served w (Up x.0) x.1 (applies m (case_of s m)), (x.0, x.1, x.2, refl))
server_on w m (Down d) = (w, refl)

client_on : (w : State) (m : ToClient) (o : Option Client) → ((k : Client) → o ≡ Some k → (ps : Pieces) × Describes ps k.belief) → (v : State) × ClientReads w o m v
client_on w m None h = (w, refl)
client_on w m (Some k) h = let x = h k refl in
    (with_client w m.client (Some (receiver.after k (receiver.client_case_of k m))) (receiver.sends x.0 k (receiver.client_case_of k m)), (x.0, x.1, refl))

delivers_on : (w : State) (o : Option Message) → AreDescribed w → cond (is_some o) None (Some refused.NoMessage) ≡ None → (v : State) × Delivers w o v
delivers_on w None h e = absurd (cc)
delivers_on w (Some (message.ToServer m)) h e = server_on w m w.server
delivers_on w (Some (message.ToClient m)) h e = client_on w m (client_of w m.client) (h m.client)

-- Scans

-- of n points from p on either all are known, or there is a least one that is not
look : (b : Belief) (p n : ℕ) → ((q : ℕ) → p ≤ q → q < p + n → is_covered b q ≡ true) ⊎ ((q : ℕ) × (p ≤ q) × (q < p + n) × (is_covered b q ≡ false) × ((r : ℕ) → p ≤ r → r < q → is_covered b r ≡ true))
look b p zero = inl (λ q low high. absurd (omega (arith, low, high)))
look b p (suc n) = by_test (is_covered b p) refl (look b (suc p) n)
  where
    from_here : is_covered b p ≡ true → (hi : ℕ) → ((r : ℕ) → suc p ≤ r → r < hi → is_covered b r ≡ true) → (r : ℕ) → p ≤ r → r < hi → is_covered b r ≡ true
    from_here e hi later r low high = elim (eqb_tells r p) [
      | inl x ↦ subst (λ y. is_covered b y ≡ true) (sym x.1) e
      | inr x ↦ later r (omega (arith, low, x.1)) high
    ]

    by_test : (t : Bool) → is_covered b p ≡ t → ((q : ℕ) → suc p ≤ q → q < suc p + n → is_covered b q ≡ true) ⊎ ((q : ℕ) × (suc p ≤ q) × (q < suc p + n) × (is_covered b q ≡ false) × ((r : ℕ) → suc p ≤ r → r < q → is_covered b r ≡ true)) → ((q : ℕ) → p ≤ q → q < p + suc n → is_covered b q ≡ true) ⊎ ((q : ℕ) × (p ≤ q) × (q < p + suc n) × (is_covered b q ≡ false) × ((r : ℕ) → p ≤ r → r < q → is_covered b r ≡ true))
    by_test false e rest = inr (p, omega arith, omega arith, e, λ r low high. absurd (omega (arith, low, high)))
    by_test true e (inl all) = inl (λ q low high. from_here e (suc p + n) all q low (omega (arith, high)))
    by_test true e (inr m) = let low = m.1 in let high = m.2 in inr (m.0, omega arith, omega arith, m.3, from_here e m.0 m.4)

Found : Client → ℕ → ℕ → Type 0
Found k lo hi = (answer : Answer) × ScanAnswers k (span lo hi) answer

pending : (k : Client) (lo hi : ℕ) (o : Option WriteOp) → outstanding k.written ≡ o → is_in (span lo hi) o ≡ true → (answer : Answer) × ScanAnswers k (span lo hi) answer
pending k lo hi None i e = absurd (cc)
pending k lo hi (Some x) i e = (told.Pending (op_key x), is_pending x i e)

looked : (k : Client) (lo hi : ℕ) (rows : List (ℕ × Value)) → lo < hi → is_writing_in k (span lo hi) ≡ false → (CoversAll k.belief (span lo hi) → AreRows k.belief (span lo hi) rows) → ((q : ℕ) → lo ≤ q → q < lo + (hi - lo) → is_covered k.belief q ≡ true) ⊎ ((q : ℕ) × (lo ≤ q) × (q < lo + (hi - lo)) × (is_covered k.belief q ≡ false) × ((r : ℕ) → lo ≤ r → r < q → is_covered k.belief r ≡ true)) → (answer : Answer) × ScanAnswers k (span lo hi) answer
looked k lo hi rows l free are (inl all) =
    let covers : CoversAll k.belief (span lo hi) = λ p at. all p at.0 (let high = at.1 in omega arith) in
    (told.Rows rows, finds_rows rows free (covers, are covers))
looked k lo hi rows l free are (inr m) = let high = m.2 in
    (told.Miss m.0, misses m.0 free (record { point = (m.1, omega arith); uncovered = m.3; least = m.4 }))

scan_on : (k : Client) (lo hi : ℕ) (rows : List (ℕ × Value)) → is_span (span lo hi) ≡ true → (is_writing_in k (span lo hi) ≡ false → CoversAll k.belief (span lo hi) → AreRows k.belief (span lo hi) rows) → (answer : Answer) × ScanAnswers k (span lo hi) answer
scan_on k lo hi rows is are = by_test (is_writing_in k (span lo hi)) refl
  where
    by_test : (t : Bool) → is_writing_in k (span lo hi) ≡ t → (answer : Answer) × ScanAnswers k (span lo hi) answer
    by_test true e = pending k lo hi (outstanding k.written) refl e
    by_test false e = looked k lo hi rows (ltb-true lo hi (and_parts (nat_lt lo hi) (nat_le hi TOP) is).0) e (are e) (look k.belief lo (hi - lo))

-- Commands

runs_on : (o : Option Client) (f : Client → Option Refused) → if_runs o f ≡ None → (k : Client) × (o ≡ Some k) × (f k ≡ None)
runs_on None f e = absurd (cc)
runs_on (Some k) f e = (k, refl, e)

some_id : (o : Option ℕ) → not (is_some o) ≡ false → (id : ℕ) × (o ≡ Some id)
some_id None e = absurd (cc)
some_id (Some id) e = (id, refl)

obeys_on : (w : State) (c : ℕ) (k : Client) (what : Command) → client_of w c ≡ Some k → HaveRows w → command_refusal k what ≡ None → (answer : Answer) × (v : State) × Obeys w c k what answer v
obeys_on w c k (command.Lock point hi m) up h e = (told.Done, with_client w c (Some (locked k point hi m)) (says_lock (locked k point hi m) point hi m ∷ []), (refl, refl))
obeys_on w c k (command.Write op) up h e = (told.Done, with_client w c (Some (wrote k op)) (says_write (wrote k op) op ∷ []), (refl, refl))
obeys_on w c k (command.Seize op) up h e = (told.Done, with_client w c (Some (seized k op)) (says_write (seized k op) op ∷ []), (refl, refl))
obeys_on w c k (command.Scan lo hi) up h e =
    let is = not-false _ (passed _ _ _ e).0 in
    let x = scan_on k lo hi (index.range (index_of w) lo hi) is (h c lo hi k up is) in
    (x.0, w, (x.1, refl))
obeys_on w c k (command.Lower lo hi keep) up h e = (told.Done, with_client w c (Some (belief_lowered k (span lo hi) keep)) (says_release k (span lo hi) keep ∷ []), (refl, refl))
obeys_on w c k (command.Pin lo hi) up h e =
    let x = some_id (free_pin k) (passed _ _ _ (passed _ _ _ e).1).0 in
    (told.Pinned x.0, with_client w c (Some (pinned k (span lo hi) x.0)) [], (x.0, x.1, refl, refl))
obeys_on w c k (command.Unpin id) up h e = (told.Done, with_client w c (Some (unpinned k id)) [], (refl, refl))
obeys_on w c k command.Leave up h e = (told.Done, with_client w c None (says_bye k ∷ []), (refl, refl))

-- Each step

goes_on : (w : State) (s : Step) → AreDescribed w → HaveRows w → refusal_of w s ≡ None → (answer : Answer) × (v : State) × Takes w s answer v
goes_on w (step.Deliver i) d h e = let x = delivers_on w (message_at w.sent i) d e in (told.Done, x.0, (e, (refl, x.1)))
goes_on w (step.Command c what) d h e =
    let r = runs_on (client_of w c) _ (client_ok c _ e) in
    let x = obeys_on w c r.0 what r.1 h (not_named refused_by_client _ r.2) in
    (x.0, x.1, (e, (r.0, r.1, x.2)))
goes_on w (step.Tick c) d h e =
    let r = runs_on (client_of w c) _ (client_ok c _ e) in
    let x = d c r.0 r.1 in
    (told.Done, with_client w c (Some r.0) (tick x.0 r.0), (e, (refl, (r.0, r.1, (x.0, x.1, refl)))))
goes_on w (step.Nudge c) d h e = (told.Done, nudged w w.server c, (e, (refl, refl)))
goes_on w (step.StartClient c) d h e =
    let n = suc (w.places c).last_incarnation in
    (told.Done, seated w c (record { last_incarnation = n; client = Some (begun c n) }) (says_hello (begun c n) ∷ []), (e, (refl, refl)))
goes_on w (step.CrashClient c) d h e = (told.Done, with_client w c None [], (e, (refl, refl)))
goes_on w step.StartServer d h e = (told.Done, started w w.server, (e, (refl, refl)))
goes_on w step.CrashServer d h e = (told.Done, crashed w w.server, (e, (refl, refl)))

pub can_go_on : ServerFollows → (w : State) → IsReachable w → CanGoOn w
can_go_on owed w h s e =
    let r = (world_reached owed w h).1 in
    let a = machine_of w.server r.of r.log in
    let first = first_of w.opening in
    goes_on w s
    (described_world w r.of r.log r.mirrors (always_bounded first END a r.reach) (restarts_hold first END a r.reach))
    (λ c lo hi k. rows_of_scan w r.of r.log c lo hi k r.mirrors (scans_are_index first END a r.reach))
    e
