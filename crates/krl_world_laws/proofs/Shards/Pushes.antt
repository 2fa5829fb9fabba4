-- What a client knows it has known since it last accepted a push.
use Rattle.std.proofs.Common.{◌≡◌, ℕ, suc, ◌<◌, ◌∙◌, ◌⊎◌, inl, inr, Bool, true, false, ◌||◌, Option, Some, None, is_some, not, List, [], ◌∷◌, refl, sym, ap, subst, arith, nat_lt, nat_le, nat_eq, if◌then◌else◌, eqb-true, ltb-true}
use Rattle.std.proofs.lemmas.Bool.{eqb-false, not-false, and_parts}
use Rattle.krl_modes.specs.declared.point.TheConstants.{END, TOP}
use Rattle.krl_modes.specs.declared.part.RangePart.{RangePart}
use Rattle.krl_modes.specs.declared.part.KeyPart.{KeyPart}
use Rattle.krl_modes.specs.declared.mode.Mode.{Mode}
use Rattle.krl_modes.specs.Modes.{range_of, key_of}
use Rattle.krl_modes.specs.Parts.{range_meet, key_meet, reads_key, reads_gap}
use Rattle.krl_messages.specs.Values.{Value}
use Rattle.krl_messages.specs.declared.to_server.ToServer.{ToServer}
use Rattle.krl_messages.specs.declared.to_client.ToClient.{ToClient}
use Rattle.krl_messages.specs.declared.to_client.PushBody.{PushBody}
use Rattle.krl_messages.specs.declared.to_client.PushBody.TheVariants as push
use Rattle.krl_messages.specs.declared.write_op.WriteOp.{WriteOp}
use Rattle.krl_cache.specs.Beliefs.{Belief, is_covered, AreRows}
use Rattle.krl_client.specs.Clients.{Client, begun, has_joined, outstanding, is_writing_in}
use Rattle.krl_refinement.proofs.Client.Basics.{passed}
use Rattle.krl_refinement.specs.Client.Shows.{ShowsClient, ShowsPlace}
use Rattle.krl_steps.specs.declared.step.Step.{Step}
use Rattle.krl_steps.specs.declared.answer.Answer.{Answer}
use Rattle.krl_world.specs.States.{State, ClientPlace, Up, client_of, seated}
use Rattle.krl_world.specs.Steps.{span, message_at, Takes, IsReachable}
use Rattle.krl_modes.specs.declared.part.RangePart.TheVariants as range
use Rattle.krl_modes.specs.declared.part.KeyPart.TheVariants as key
use Rattle.krl_modes.specs.Spans.{Bounds, contains, IsPointOf}
use Rattle.krl_modes.proofs.ModeLaws.{reads_its_key}
use Rattle.krl_cache.specs.Beliefs.{CoversAll, is_span}
use Rattle.krl_machine.specs.Links.{Link}
use Rattle.krl_machine.specs.Worlds.{row_of}
use Rattle.krl_client.specs.declared.scan_answer.ScanAnswer.{ScanAnswer}
use Rattle.krl_client.specs.declared.scan_answer.ScanAnswer.TheVariants as scanned
use Rattle.krl_messages.specs.Writes.{op_key}
use Rattle.krl_client.specs.declared.refused.CommandRefused.TheVariants as refused
use Rattle.krl_client.specs.Splits.{is_in}
use Rattle.krl_client.specs.Commands.{ScanGives, is_pending, finds_rows, misses, locked, wrote, seized, belief_lowered, says_lock, says_write, says_release, says_bye, scan_refusal, write_refusal, seize_refusal}
use Rattle.krl_client.specs.Messages as receiver
use Rattle.krl_client.specs.Messages.{ClientCase, Ignores, AcksAgain, Adopts, Accepts, Lowers, client_case_of}
use Rattle.krl_client.specs.Ticks.{tick, says_hello}
use Rattle.krl_refinement.proofs.Server.Whole.{all_follow}
use Rattle.krl_steps.specs.declared.step.Step.TheVariants as step
use Rattle.krl_steps.specs.declared.step.Command.{Command}
use Rattle.krl_steps.specs.declared.step.Command.TheVariants as command
use Rattle.krl_steps.specs.Refusals.{refused_by_client}
use Rattle.krl_world.specs.declared.message.Message.{Message}
use Rattle.krl_world.specs.declared.message.Message.TheVariants as message
use Rattle.krl_world.specs.Steps.{Steps, Obeys, Delivers, ClientReads, of_client, if_runs, named, command_refusal}
use Rattle.krl_world.proofs.Refinement.Reached.{world_reached}
use Rattle.krl_world.proofs.Refinement.Taken.{client_ok, not_named, runs_ok}
use Rattle.krl_world.proofs.Promises.CompatibilityAndScans.{rows_agree}
use Rattle.krl_failover.proofs.Worlds.Promised.{reached_shown as fenced_shown}
use Rattle.krl_host_laws.specs.Hosts.{client_started}
use Rattle.krl_host_laws.specs.Hosts as host
use Rattle.krl_host_laws.proofs.Incarnations.{at_set}
use Rattle.krl_host_laws.proofs.Promised.{batches_are_worlds}
use Rattle.krl_fenced_hosts.specs.Processes as store
use Rattle.krl_fenced_hosts.proofs.Promised.{is_fenced}
use Rattle.krl_shards.specs.declared.part.Part.{Part}
use Rattle.krl_shards.specs.Parts.{Follow}
use Rattle.krl_world_laws.specs.Systems.{System, worlds, hosts, fenced_hosts}
use Rattle.krl_world_laws.specs.Readers.{Rows, AnswersScan, IsStill}
use Rattle.krl_world_laws.specs.Shards.Scans.{views, AreReached, AnswerAll}
use Rattle.krl_world_laws.specs.Shards.Pushes.{HasAccepted, RunsWithoutPush, begins, goes_on, AnswerSince, ScanWithoutPushes}
use Rattle.krl_world_laws.proofs.Systems.{Follows, worlds_follow, hosts_follow, fenced_hosts_follow}
use Rattle.krl_world_laws.proofs.Shards.Held.{server_reads, nudges, starts, crashes}
use Rattle.krl_world_laws.proofs.Shards.Scanned.{of_all}

-- What is lowered was known, with the same value

either : (a b : Bool) → (a || b) ≡ true → (a ≡ true) ⊎ (b ≡ true)
either true b e = inl refl
either false b e = inr e

key_was : (k keep : KeyPart) → reads_key (key_meet k keep) ≡ true → reads_key k ≡ true
key_was key.N keep e = e
key_was key.S keep e = refl
key_was key.U keep e = refl
key_was key.X keep e = refl

gap_was : (r keep : RangePart) → reads_gap (range_meet r keep) ≡ true → (reads_gap r ≡ true) × (reads_gap keep ≡ true)
gap_was range.N keep e = absurd (cc)
gap_was range.S range.N e = absurd (cc)
gap_was range.S range.S e = (refl, refl)
gap_was range.S range.I e = absurd (cc)
gap_was range.S range.X e = (refl, refl)
gap_was range.I range.N e = absurd (cc)
gap_was range.I range.S e = absurd (cc)
gap_was range.I range.I e = absurd (cc)
gap_was range.I range.X e = absurd (cc)
gap_was range.X keep e = (refl, e)

value_was : (k keep : KeyPart) (v : Option Value) → (k ≡ key.N → v ≡ None) → reads_key keep ≡ true → (if reads_key (key_meet k keep) then v else None) ≡ v
value_was key.N keep v none e = sym (none refl)
value_was key.S key.N v none e = absurd (cc)
value_was key.S key.S v none e = refl
value_was key.S key.U v none e = refl
value_was key.S key.X v none e = refl
value_was key.U key.N v none e = absurd (cc)
value_was key.U key.S v none e = refl
value_was key.U key.U v none e = refl
value_was key.U key.X v none e = refl
value_was key.X key.N v none e = absurd (cc)
value_was key.X key.S v none e = refl
value_was key.X key.U v none e = refl
value_was key.X key.X v none e = refl

or_true : (a b : Bool) → b ≡ true → (a || b) ≡ true
or_true true b e = refl
or_true false b e = e

-- a point of these parts, with this value
module _ (m : Mode) (k : KeyPart) (r : RangePart) (v : Option Value) (none : k ≡ key.N → v ≡ None) where
  inside : (reads_key (key_meet k (key_of m)) || reads_gap (range_meet r (range_of m))) ≡ true → ((reads_key k || reads_gap r) ≡ true) × ((if reads_key (key_meet k (key_of m)) then v else None) ≡ v)
  inside e = by_part (either _ _ e)
    where
      by_part : (reads_key (key_meet k (key_of m)) ≡ true) ⊎ (reads_gap (range_meet r (range_of m)) ≡ true) → ((reads_key k || reads_gap r) ≡ true) × ((if reads_key (key_meet k (key_of m)) then v else None) ≡ v)
      by_part (inl f) = (ap (λ b. b || reads_gap r) (key_was k (key_of m) f), ap (λ b. if b then v else None) f)
      by_part (inr f) = let g = gap_was r (range_of m) f in (or_true (reads_key k) (reads_gap r) g.0, value_was k (key_of m) v none (reads_its_key m g.1))

  lowered_at : (t : Bool) → (reads_key (if t then key_meet k (key_of m) else k) || reads_gap (if t then range_meet r (range_of m) else r)) ≡ true → ((reads_key k || reads_gap r) ≡ true) × ((if t then (if reads_key (key_meet k (key_of m)) then v else None) else v) ≡ v)
  lowered_at true e = inside e
  lowered_at false e = (e, refl)

-- What a client knows at a point, another one knew

record Knew (j k : Client) (p : ℕ) : Type 0 where
  covered : is_covered j.belief p ≡ true
  value : k.belief.value_at p ≡ j.belief.value_at p
  writes : (op : WriteOp) → outstanding j.written ≡ Some op → outstanding k.written ≡ Some op

-- all that it knows, if it runs
abbrev AllKnown : Option Client → Option Client → Type 0
AllKnown before after = (k : Client) (p : ℕ) → after ≡ Some k → is_covered k.belief p ≡ true → (j : Client) × (before ≡ Some j) × Knew j k p

all_same : (o : Option Client) → AllKnown o o
all_same o k p e h = (k, e, record { covered = h; value = refl; writes = λ op x. x })

still : (v w : State) (c : ℕ) → IsStill v w c → AllKnown (client_of v c) (client_of w c)
still v w c e = subst (AllKnown (client_of v c)) e (all_same (client_of v c))

later : (x y z : Option Client) → AllKnown x y → AllKnown y z → AllKnown x z
later x y z first second k p e h =
    let b = second k p e h in
    let a = first b.0 p b.1 b.2.covered in
    (a.0, a.1, record { covered = a.2.covered; value = b.2.value ∙ a.2.value; writes = λ op i. b.2.writes op (a.2.writes op i) })

gone : (o : Option Client) → AllKnown o None
gone o k p e h = absurd (cc)

anew : (o : Option Client) (c n : ℕ) → AllKnown o (Some (begun c n))
anew o c n k p e h =
    let i : begun c n ≡ k = cc in
    let known : is_covered (begun c n).belief p ≡ true = subst (λ (x : Client). is_covered x.belief p ≡ true) (sym i) h in
    absurd (cc)

one : (j k : Client) → ((p : ℕ) → is_covered k.belief p ≡ true → Knew j k p) → AllKnown (Some j) (Some k)
one j k f l p e h =
    let i : k ≡ l = cc in
    (j, refl, subst (λ x. Knew j x p) i (f p (subst (λ (x : Client). is_covered x.belief p ≡ true) (sym i) h)))

place : (v w : State) (c d : ℕ) (x : ClientPlace) (ms : List ToServer) → w ≡ seated v d x ms → (c ≡ d → AllKnown (client_of v d) x.client) → AllKnown (client_of v c) (client_of w c)
place v w c d x ms e h = subst (λ (y : State). AllKnown (client_of v c) (client_of y c)) (sym e) (by_test (nat_eq c d) refl)
  where
    by_test : (t : Bool) → nat_eq c d ≡ t → AllKnown (client_of v c) (if t then x else v.places c).client
    by_test true e = let i : c ≡ d = eqb-true c d e in subst (λ n. AllKnown (client_of v n) x.client) (sym i) (h i)
    by_test false e = all_same (client_of v c)

-- a client that runs becomes this one
becomes : (v w : State) (c d g : ℕ) (k : Client) (o : Option Client) (ms : List ToServer) → w ≡ seated v d (record { last_incarnation = g; client = o }) ms → client_of v d ≡ Some k → (c ≡ d → AllKnown (Some k) o) → AllKnown (client_of v c) (client_of w c)
becomes v w c d g k o ms e up h = place v w c d _ ms e (λ i. subst (λ x. AllKnown x o) (sym up) (h i))

-- When no entry is held, there is no value

abbrev NoEntry : Client → Type 0
NoEntry k = (p : ℕ) → k.belief.key_at p ≡ key.N → k.belief.value_at p ≡ None

shown_no_entry : (c g : ℕ) (k : Client) (l : Link) → ShowsPlace c g (Some k) l → NoEntry k
shown_no_entry c g k l place p e = by_test (nat_eq p END) refl place.1
  where
    by_test : {l : _} (t : Bool) → nat_eq p END ≡ t → ShowsClient c k l → k.belief.value_at p ≡ None
    by_test true i shows = subst (λ n. k.belief.value_at n ≡ None) (sym (eqb-true p END i)) shows.at_end
    by_test {l} false i shows = shows.value p (eqb-false p END i) ∙ ap (λ x. row_of x (l.value p)) (sym (shows.key p) ∙ e)

no_entry : (w : State) (c : ℕ) (k : Client) → IsReachable w → client_of w c ≡ Some k → NoEntry k
no_entry w c k h up =
    let r = (world_reached all_follow w h).1 in
    shown_no_entry c (w.places c).last_incarnation k (r.of c) (subst (λ x. ShowsPlace c (w.places c).last_incarnation x (r.of c)) up (r.mirrors.places c))

-- Steps

lowers : (k : Client) (s : Bounds) (keep : Mode) → NoEntry k → AllKnown (Some k) (Some (belief_lowered k s keep))
lowers k s keep none = one k (belief_lowered k s keep) (λ p h.
    let x = lowered_at keep (k.belief.key_at p) (k.belief.range_at p) (k.belief.value_at p) (none p) (contains s p) h in
    record { covered = x.0; value = x.1; writes = λ op i. i })

-- a client of the same belief and writes
changes : (j k : Client) → k.belief ≡ j.belief → ((op : WriteOp) → outstanding j.written ≡ Some op → outstanding k.written ≡ Some op) → AllKnown (Some j) (Some k)
changes j k e f = one j k (λ p h. record { covered = subst (λ b. is_covered b p ≡ true) e h; value = ap (λ (b : Belief). b.value_at p) e; writes = f })

-- a push that is accepted is counted
counted : (k : Client) (what : PushBody) → HasAccepted (Some k) (Some (receiver.accepted k what))
counted k (push.Grant req hs) = (refl, refl, omega arith)
counted k (push.Absent req point) = (refl, refl, omega arith)
counted k (push.Answer number outcome h) = (refl, refl, omega arith)

hears : (k : Client) (x : ClientCase) → NoEntry k → (HasAccepted (Some k) (Some (receiver.after k x)) → ⊥) → AllKnown (Some k) (Some (receiver.after k x))
hears k Ignores none calm = all_same (Some k)
hears k AcksAgain none calm = all_same (Some k)
hears k (Adopts epoch) none calm = changes k (receiver.joined k epoch) refl (λ op i. i)
hears k (Accepts what) none calm = absurd (calm (counted k what))
hears k (Lowers s keep) none calm = lowers k s keep none

-- what a world shows of entries
abbrev NoEntries : State → Type 0
NoEntries w = (c : ℕ) (k : Client) → client_of w c ≡ Some k → NoEntry k

-- the client accepts no push between these two
abbrev Calm : State → State → ℕ → Type 0
Calm v w c = HasAccepted (client_of v c) (client_of w c) → ⊥

client_reads : (v w : State) (c : ℕ) (o : Option Client) (m : ToClient) → NoEntries v → client_of v m.client ≡ o → Calm v w c → ClientReads v o m w → AllKnown (client_of v c) (client_of w c)
client_reads v w c None m none up calm h = still v w c (ap (λ x. client_of x c) (sym h))
client_reads v w c (Some k) m none up calm h =
    becomes v w c m.client _ k _ (receiver.sends h.0 k (client_case_of k m)) h.2 up (λ i. hears k (client_case_of k m) (none m.client k up) (λ a. calm (subst (λ n. HasAccepted (client_of v n) (client_of w n)) (sym i) (subst (λ x. HasAccepted x (client_of w m.client)) (sym up) (subst (λ x. HasAccepted (Some k) x) (sym (seat i)) a)))))
  where
    seat : c ≡ m.client → client_of w m.client ≡ Some (receiver.after k (client_case_of k m))
    seat i = ap (λ (y : State). client_of y m.client) h.2 ∙ ap (λ (x : ClientPlace). x.client) (at_set v.places m.client _)

delivers : (v w : State) (c : ℕ) (o : Option Message) → NoEntries v → Calm v w c → Delivers v o w → AllKnown (client_of v c) (client_of w c)
delivers v w c (Some (message.ToServer m)) none calm h = still v w c (server_reads v w c v.server m h)
delivers v w c (Some (message.ToClient m)) none calm h = client_reads v w c (client_of v m.client) m none refl calm h
delivers v w c None none calm h = absurd h

-- nothing is outstanding before a write
writes_first : (k : Client) (op : WriteOp) → write_refusal k op ≡ None → (x : WriteOp) → outstanding k.written ≡ Some x → outstanding (wrote k op).written ≡ Some x
writes_first k op ok x e =
    let first = passed (nat_le END (op_key op)) refused.BadPoint _ ok in
    let second = passed (not (has_joined k)) refused.NotJoined _ first.1 in
    let third = passed (is_some (outstanding k.written)) refused.Writing _ second.1 in
    let bad : false ≡ true = sym third.0 ∙ ap (λ o. is_some o) e in
    absurd (cc)

takes_first : (k : Client) (op : WriteOp) → seize_refusal k op ≡ None → (x : WriteOp) → outstanding k.written ≡ Some x → outstanding (seized k op).written ≡ Some x
takes_first k op ok x e =
    let first = passed (nat_le END (op_key op)) refused.BadPoint _ ok in
    let second = passed (not (has_joined k)) refused.NotJoined _ first.1 in
    let third = passed (is_some (outstanding k.written)) refused.Writing _ second.1 in
    let bad : false ≡ true = sym third.0 ∙ ap (λ o. is_some o) e in
    absurd (cc)

obeys : (v w : State) (c d : ℕ) (k : Client) (what : Command) (answer : Answer) → NoEntry k → client_of v d ≡ Some k → command_refusal k what ≡ None → Obeys v d k what answer w → AllKnown (client_of v c) (client_of w c)
obeys v w c d k (command.Lock point hi m) answer none up ok h = becomes v w c d _ k _ (says_lock (locked k point hi m) point hi m ∷ []) h.1 up (λ i. changes k (locked k point hi m) refl (λ op x. x))
obeys v w c d k (command.Write op) answer none up ok h = becomes v w c d _ k _ (says_write (wrote k op) op ∷ []) h.1 up (λ i. changes k (wrote k op) refl (writes_first k op ok))
obeys v w c d k (command.Seize op) answer none up ok h = becomes v w c d _ k _ (says_write (seized k op) op ∷ []) h.1 up (λ i. changes k (seized k op) refl (takes_first k op ok))
obeys v w c d k (command.Scan lo hi) answer none up ok h = still v w c (ap (λ x. client_of x c) (sym h.1))
obeys v w c d k (command.Lower lo hi keep) answer none up ok h = becomes v w c d _ k _ (says_release k (span lo hi) keep ∷ []) h.1 up (λ i. lowers k (span lo hi) keep none)
obeys v w c d k (command.Pin lo hi) answer none up ok h = becomes v w c d _ k _ [] h.3 up (λ i. changes k _ refl (λ op x. x))
obeys v w c d k (command.Unpin id) answer none up ok h = becomes v w c d _ k _ [] h.1 up (λ i. changes k _ refl (λ op x. x))
obeys v w c d k command.Leave answer none up ok h = becomes v w c d _ k None (says_bye k ∷ []) h.1 up (λ i. gone (Some k))

one_step : (v w : State) (c : ℕ) (s : Step) (answer : Answer) → NoEntries v → Takes v s answer w → Calm v w c → AllKnown (client_of v c) (client_of w c)
one_step v w c (step.Deliver i) answer none t calm = delivers v w c (message_at v.sent i) none calm t.1.1
one_step v w c (step.Command d what) answer none t calm =
    let k = t.1.0 in let up = t.1.1 in
    obeys v w c d k what answer (none d k up) up (not_named refused_by_client (command_refusal k what) (runs_ok (client_of v d) k _ up (client_ok d _ t.0))) t.1.2
one_step v w c (step.Tick d) answer none t calm = becomes v w c d _ t.1.1.0 _ (tick t.1.1.2.0 t.1.1.0) t.1.1.2.2 t.1.1.1 (λ i. all_same (Some t.1.1.0))
one_step v w c (step.Nudge d) answer none t calm = still v w c (nudges v w c d v.server t.1.1)
one_step v w c (step.StartClient d) answer none t calm = place v w c d _ (says_hello (begun d (suc (v.places d).last_incarnation)) ∷ []) t.1.1 (λ i. anew (client_of v d) d _)
one_step v w c (step.CrashClient d) answer none t calm = place v w c d _ [] t.1.1 (λ i. gone (client_of v d))
one_step v w c step.StartServer answer none t calm = still v w c (starts v w c v.server t.1.1)
one_step v w c step.CrashServer answer none t calm = still v w c (crashes v w c v.server t.1.1)

-- Moves

-- by a move of the system without a push each client knows what it knew
record Remembers (s : System) : Type 0 where
  moves : (v w : s.World) (c : ℕ) → s.IsReached v → s.Moves v w → Calm (s.view v) (s.view w) c → AllKnown (client_of (s.view v) c) (client_of (s.view w) c)

worlds_remember : Remembers worlds
worlds_remember = record { moves = λ v w c reach m calm. one_step v w c m.0 m.1 (λ d k up. no_entry v d k reach up) m.2 calm }

-- a client starts
starts_anew : (w : State) (c d n : ℕ) → AllKnown (client_of w c) (client_of (client_started w d n) c)
starts_anew w c d n = place w (client_started w d n) c d _ (says_hello (begun d n) ∷ []) refl (λ i. anew (client_of w d) d n)

host_no_entries : (w : host.HostWorld) → host.IsReached w → NoEntries w.world
host_no_entries w r c k up = let x = (batches_are_worlds w r).now in no_entry (record w.world { server = x.server; sent = x.sent }) c k x.reachable up

host_moves : (v w : host.HostWorld) (c : ℕ) → host.IsReached v → host.Moves v w → Calm v.world w.world c → AllKnown (client_of v.world c) (client_of w.world c)
host_moves v _ c r (host.acts s answer u ne t) calm = one_step v.world u c s answer (host_no_entries v r) t calm
host_moves v _ c r (host.begins d n lt off less le) calm = starts_anew v.world c d n
host_moves v _ c r (host.starts l e fits can) calm = all_same (client_of v.world c)
host_moves v _ c r (host.judges h t m outs said e at step among) calm = all_same (client_of v.world c)
host_moves v _ c r (host.nudges h d said e lt among) calm = all_same (client_of v.world c)
host_moves v _ c r (host.keeps h n e le) calm = all_same (client_of v.world c)
host_moves v _ c r (host.releases h x e i le) calm = all_same (client_of v.world c)
host_moves v _ c r (host.drops h left e among) calm = all_same (client_of v.world c)
host_moves v _ c r host.crashes calm = all_same (client_of v.world c)

hosts_remember : Remembers hosts
hosts_remember = record { moves = host_moves }

store_no_entries : (w : store.StoreWorld) → store.IsReached w → NoEntries w.world
store_no_entries w r c k up =
    let x = is_fenced w r in
    let h = fenced_shown (record { world = record w.world { server = Up x.store; sent = x.sent }; old = x.old }) x.reached in
    shown_no_entry c (w.world.places c).last_incarnation k (h.of c) (subst (λ y. ShowsPlace c (w.world.places c).last_incarnation y (h.of c)) up (h.world.places c))

store_moves : (v w : store.StoreWorld) (c : ℕ) → store.IsReached v → store.Moves v w → Calm v.world w.world c → AllKnown (client_of v.world c) (client_of w.world c)
store_moves v _ c r (store.acts s answer u ne t) calm = one_step v.world u c s answer (store_no_entries v r) t calm
store_moves v _ c r (store.begins d n lt off less le) calm = starts_anew v.world c d n
store_moves v _ c r (store.starts p l off fits can) calm = all_same (client_of v.world c)
store_moves v _ c r (store.judges p x t m outs said e at step among) calm = all_same (client_of v.world c)
store_moves v _ c r (store.nudges p x d said e lt among) calm = all_same (client_of v.world c)
store_moves v _ c r (store.keeps p x n e current some le) calm = all_same (client_of v.world c)
store_moves v _ c r (store.releases p x y e i le) calm = all_same (client_of v.world c)
store_moves v _ c r (store.drops p x left e among) calm = all_same (client_of v.world c)
store_moves v _ c r (store.crashes p) calm = all_same (client_of v.world c)

fenced_hosts_remember : Remembers fenced_hosts
fenced_hosts_remember = record { moves = store_moves }

module _ (s : System) (f : Follows s) (k : Remembers s) where
  known_since : (v : s.World) (c : ℕ) (w : s.World) → s.IsReached v → RunsWithoutPush s c v w → s.IsReached w × AllKnown (client_of (s.view v) c) (client_of (s.view w) c)
  known_since v c w reach begins = (reach, all_same (client_of (s.view v) c))
  known_since v c w reach (goes_on u x r m calm) =
      let before = known_since v c u reach r in
      (f.moves u w before.0 m, later (client_of (s.view v) c) (client_of (s.view u) c) (client_of (s.view w) c) before.1 (k.moves u w c before.0 m calm))

-- Scans

found : (k : Client) (s : Bounds) (rows : Rows) (a : ScanAnswer) → ScanGives k s a → a ≡ scanned.Rows rows → (is_writing_in k s ≡ false) × CoversAll k.belief s × AreRows k.belief s rows
found k s rows _ (is_pending change o i) e = absurd (cc)
found k s rows _ (misses p f h) e = absurd (cc)
found k s rows _ (finds_rows some f h) e = let r : some ≡ rows = cc in (f, h.0, subst (AreRows k.belief s) r h.1)

writes_none : (s : Bounds) (a b : Option WriteOp) → ((op : WriteOp) → a ≡ Some op → b ≡ Some op) → is_in s b ≡ false → is_in s a ≡ false
writes_none s None b h e = refl
writes_none s (Some op) b h e = subst (λ o. is_in s o ≡ false) (h op refl) e

-- a scan of what was known finds what it found
answered_before : (v w : State) (c lo hi : ℕ) (rows : Rows) → AllKnown (client_of v c) (client_of w c) → AnswersScan w c lo hi rows → AnswersScan v c lo hi rows
unfolding Steps
answered_before v w c lo hi rows known a = (
  subst if_scanned (sym first.1) (subst if_scanned a.1.1 a.0),
  (j, first.1, (finds_rows rows free (covers, rows_agree k.belief j.belief (span lo hi) rows (λ p at. (at_point p at).value) f.2), refl)),
)
  where
    k : Client
    k = a.1.0

    if_scanned : Option Client → Type 0
    if_scanned o = of_client c (if_runs o (λ k. named refused_by_client (command_refusal k (command.Scan lo hi)))) ≡ None

    f : (is_writing_in k (span lo hi) ≡ false) × CoversAll k.belief (span lo hi) × AreRows k.belief (span lo hi) rows
    f = found k (span lo hi) rows (scanned.Rows rows) a.1.2.0 refl

    is : is_span (span lo hi) ≡ true
    is = not-false _ (passed _ _ _ (not_named refused_by_client (scan_refusal (span lo hi)) (runs_ok (client_of w c) k _ a.1.1 (client_ok c _ a.0)))).0

    first : (j : Client) × (client_of v c ≡ Some j) × Knew j k lo
    first = let l : lo < hi = ltb-true lo hi (and_parts (nat_lt lo hi) (nat_le hi TOP) is).0 in known k lo a.1.1 (f.1 lo (omega arith, l))

    j : Client
    j = first.0

    at_point : (p : ℕ) → IsPointOf (span lo hi) p → Knew j k p
    at_point p at =
        let x = known k p a.1.1 (f.1 p at) in
        let i : x.0 ≡ j = (let y = sym x.1 ∙ first.1 in cc) in
        subst (λ y. Knew y k p) i x.2

    covers : CoversAll j.belief (span lo hi)
    covers p at = (at_point p at).covered

    free : is_writing_in j (span lo hi) ≡ false
    free = writes_none (span lo hi) (outstanding j.written) (outstanding k.written) first.2.writes f.0

module _ (s : System) (f : Follows s) (k : Remembers s) where
  answer_since : (bounds : List ℕ) (x : ℕ → s.World) (c : ℕ → ℕ) (hi lo : ℕ) (ps : List Part) (rows : Rows) → AreReached s bounds x → Follow bounds hi lo hi ps → AnswerSince s x c ps rows → AnswerAll (views s x) c ps rows
  answer_since bounds x c hi lo [] rows reach follow a = a
  answer_since bounds x c hi lo (p ∷ ps) rows reach follow a = (
    a.1,
    a.2,
    answered_before (s.view (x p.shard)) (s.view a.0) (c p.shard) p.lo p.hi a.1 (known_since s f k (x p.shard) (c p.shard) a.0 (reach p.shard follow.0.shard.there) a.3).1 a.4,
    answer_since bounds x c hi p.hi ps a.2 reach follow.1 a.5,
    a.6,
  )

  without : ScanWithoutPushes s
  without bounds x c m lo hi parts rows reach together follow a = of_all s f bounds x c m lo hi parts rows reach together follow (answer_since bounds x c hi lo parts rows reach follow a)

pub without_of_worlds : ScanWithoutPushes worlds
without_of_worlds = without worlds worlds_follow worlds_remember

pub without_of_hosts : ScanWithoutPushes hosts
without_of_hosts = without hosts hosts_follow hosts_remember

pub without_of_fenced_hosts : ScanWithoutPushes fenced_hosts
without_of_fenced_hosts = without fenced_hosts fenced_hosts_follow fenced_hosts_remember
