-- What each step does to lock requests: at a client's place, or at the server.
use Rattle.krl_progress.proofs.Names.{◌≡◌, ℕ, Bool, suc, ◌≤◌, ◌<◌, ◌⊎◌, inl, inr, ⊎_elim, ◌∙◌, true, false, not, ◌&&◌, Option, Some, None, List, [], ◌∷◌, ◌++◌, is_some, refl, sym, ap, subst, arith, same_Some, nat_eq, nat_lt, nat_le, if◌then◌else◌, and_parts, eqb-true, ltb-true, END, In, in_both}
use Rattle.krl_progress.proofs.Names.{ToServer, ToClient, Client, Message, AppliedWrite, Step, Command, Answer, ServerPlace, Up, Down, State, Server, Durable, client_of, with_client, seated, served, message_at, ServerReads, ClientReads, ServerStep, Delivers, Obeys, nudged, started, crashed, Takes, refused_by_client, Pieces, start, nudge, span, applies, case_of, command_refusal}
use Rattle.krl_client.specs.Clients.{begun, is_waiting, outstanding, LockRequest, NotAsked, Granted, Absent, Dropped, Waiting, has_joined, LastWrite, Unwritten, Outstanding, Judged}
use Rattle.krl_messages.specs.declared.outcome.Outcome.{Outcome}
use Rattle.krl_client.specs.Commands.{says_lock, locked, says_write, issued, wrote, seized, says_release, says_bye, belief_lowered, pinned, unpinned, lock_refusal}
use Rattle.krl_client.specs.declared.refused.CommandRefused.TheVariants as refused
use Rattle.krl_client.specs.Ticks.{tick, says_hello, lock_again, write_again}
use Rattle.krl_client.specs.Messages as receiver
use Rattle.krl_client.specs.Messages.{ClientCase, Ignores, AcksAgain, Adopts, Accepts, Lowers, accepted, joined, says_ack, says_report}
use Rattle.krl_messages.specs.declared.write_op.WriteOp.{WriteOp}
use Rattle.krl_messages.specs.declared.to_server.ToServerBody.{ToServerBody}
use Rattle.krl_messages.specs.declared.to_server.ToServerBody.TheVariants as said
use Rattle.krl_messages.specs.declared.to_server.RequestBody.{RequestBody}
use Rattle.krl_messages.specs.declared.to_server.RequestBody.TheVariants as asked
use Rattle.krl_messages.specs.declared.to_client.ToClientBody.{ToClientBody}
use Rattle.krl_messages.specs.declared.to_client.ToClientBody.TheVariants as told
use Rattle.krl_messages.specs.declared.to_client.PushBody.{PushBody}
use Rattle.krl_messages.specs.declared.to_client.PushBody.TheVariants as push
use Rattle.krl_modes.specs.declared.mode.Mode.{Mode}
use Rattle.krl_steps.specs.declared.step.Step.TheVariants as step
use Rattle.krl_steps.specs.declared.step.Command.TheVariants as command
use Rattle.krl_world.specs.declared.message.Message.TheVariants as message
use Rattle.krl_world.proofs.Refinement.Taken.{at_in, client_ok, not_named, runs_ok}
use Rattle.krl_server.proofs.Tests.{if_case, if_both}
use Rattle.krl_server.specs.Cases.{has_points}
use Rattle.krl_modes.specs.declared.point.TheConstants.{TOP}
use Rattle.std.proofs.lemmas.Bool.{not-false}
use Rattle.krl_progress.proofs.Moves.{passed, was_down, Follows, reads_follow, write_free, take_free}

-- the number of the lock request that is sent, or 0
abbrev pub request_of : RequestBody → ℕ
request_of (asked.Lock req point hi g) = req
request_of (asked.Write number op seizes) = 0
request_of (asked.Release s keep) = 0
request_of asked.Ack = 0

abbrev pub request_said : ToServerBody → ℕ
request_said said.Hello = 0
request_said said.Bye = 0
request_said (said.Report epoch pieces) = 0
request_said (said.Request r) = request_of r.body

-- the messages are those of a client of this number, and none asks for a lock by a greater one than n
abbrev pub AsksAtMost : ℕ → ℕ → List ToServer → Type 0
AsksAtMost number n ms = (m : ToServer) → In m ms → (m.client ≡ number) × (request_said m.body ≤ n)

pub one_asks : (number n : ℕ) (m : ToServer) → m.client ≡ number → request_said m.body ≤ n → AsksAtMost number n (m ∷ [])
one_asks number n m own h x (inl e) = subst (λ (y : ToServer). (y.client ≡ number) × (request_said y.body ≤ n)) (sym e) (own, h)
one_asks number n m own h x (inr at) = absurd at

none_asks : (number n : ℕ) → AsksAtMost number n []
none_asks number n x at = absurd at

both_ask : (number n : ℕ) (xs ys : List ToServer) → AsksAtMost number n xs → AsksAtMost number n ys → AsksAtMost number n (xs ++ ys)
both_ask number n xs ys h g x at = ⊎_elim (λ (a : In x xs). h x a) (λ (a : In x ys). g x a) (in_both xs ys x at)

-- what becomes of a client that runs
pub data Goes (u : State) (d : ℕ) (k : Client) : Client → List ToServer → Type 0 where
  same : (l : Client) (ms : List ToServer) → l.incarnation ≡ k.incarnation → l.epoch ≡ k.epoch → l.seen ≡ k.seen → l.req ≡ k.req → l.asked ≡ k.asked → AsksAtMost k.number k.req ms → Goes u d k l ms
  locks : (point hi : ℕ) (g : Mode) → is_waiting k.asked ≡ false → has_points point hi ≡ true → Goes u d k (locked k point hi g) (says_lock (locked k point hi g) point hi g ∷ [])
  adopts : (e : ℕ) (ms : List ToServer) (m : ToClient) → In (message.ToClient m) u.sent → m.client ≡ d → m.incarnation ≡ k.incarnation → m.body ≡ told.Epoch e → k.epoch < e → AsksAtMost k.number 0 ms → Goes u d k (joined k e) ms
  accepts : (b : PushBody) (ms : List ToServer) (m : ToClient) → In (message.ToClient m) u.sent → m.client ≡ d → m.incarnation ≡ k.incarnation → m.body ≡ told.Push k.epoch (suc k.seen) b → AsksAtMost k.number 0 ms → Goes u d k (accepted k b) ms

-- Writes

-- the number of the write that is sent
abbrev pub write_of : RequestBody → Option ℕ
write_of (asked.Lock req point hi g) = None
write_of (asked.Write number op seizes) = Some number
write_of (asked.Release s keep) = None
write_of asked.Ack = None

abbrev pub write_said : ToServerBody → Option ℕ
write_said said.Hello = None
write_said said.Bye = None
write_said (said.Report epoch pieces) = None
write_said (said.Request r) = write_of r.body

-- the messages hold no write but the client's outstanding one
abbrev pub SaysItsWrite : Client → List ToServer → Type 0
SaysItsWrite l ms = (m : ToServer) → In m ms → (n : ℕ) → write_said m.body ≡ Some n → (is_some (outstanding l.written) ≡ true) × (n ≡ l.writes)

abbrev pub SaysNoWrite : List ToServer → Type 0
SaysNoWrite ms = (m : ToServer) → In m ms → write_said m.body ≡ None

pub one_silent : (m : ToServer) → write_said m.body ≡ None → SaysNoWrite (m ∷ [])
one_silent m e x (inl f) = ap (λ (y : ToServer). write_said y.body) f ∙ e
one_silent m e x (inr at) = absurd at

none_silent : SaysNoWrite []
none_silent x at = absurd at

silent_says : (l : Client) (ms : List ToServer) → SaysNoWrite ms → SaysItsWrite l ms
silent_says l ms h m at n e = absurd (let bad : None ≡ Some n = sym (h m at) ∙ e in cc)

both_say : (l : Client) (xs ys : List ToServer) → SaysItsWrite l xs → SaysItsWrite l ys → SaysItsWrite l (xs ++ ys)
both_say l xs ys h g m at = ⊎_elim (λ (a : In m xs). h m a) (λ (a : In m ys). g m a) (in_both xs ys m at)

-- what becomes of a client's write, and what the client sends about it
pub record WriteGoes (k l : Client) (ms : List ToServer) : Type 0 where
  pub follows : Follows k l
  pub number : (l.writes ≡ k.writes) ⊎ (l.writes ≡ suc k.writes)
  pub ends : l.writes ≡ k.writes → outstanding k.written ≡ None → outstanding l.written ≡ None
  pub says : SaysItsWrite l ms

pub its_write : (k : Client) (op : WriteOp) → is_some (outstanding k.written) ≡ true → SaysItsWrite k (says_write k op ∷ [])
its_write k op some m (inl f) n e = (some, let x : Some k.writes ≡ Some n = sym (ap (λ (y : ToServer). write_said y.body) f) ∙ e in sym (same_Some k.writes n x))
its_write k op some m (inr at) n e = absurd at

pub data Does (u : State) : State → Type 0 where
  rests : Does u u
  goes : (d : ℕ) (k l : Client) (ms : List ToServer) → client_of u d ≡ Some k → Goes u d k l ms → WriteGoes k l ms → Does u (with_client u d (Some l) ms)
  starts : (d : ℕ) → client_of u d ≡ None → Does u (seated u d (record { last_incarnation = suc (u.places d).last_incarnation; client = Some (begun d (suc (u.places d).last_incarnation)) }) (says_hello (begun d (suc (u.places d).last_incarnation)) ∷ []))
  ends : (d number : ℕ) (ms : List ToServer) → AsksAtMost number 0 ms → SaysNoWrite ms → Does u (with_client u d None ms)
  reads : (old new : Server) (m : ToServer) (outs : List ToClient) (writes : List AppliedWrite) → u.server ≡ Up old → In (message.ToServer m) u.sent → ServerStep old m new outs → Does u (served u (Up new) outs writes)
  nudges : (s : Server) (c : ℕ) → u.server ≡ Up s → Does u (served u (Up s) (nudge s c) [])
  stops : (s : Server) → u.server ≡ Up s → Does u (served u (Down s.durable) [] [])
  begins : (d : Durable) → u.server ≡ Down d → Does u (served u (Up (start d)) [] [])

rests_at : (u v : State) → v ≡ u → Does u v
rests_at u v e = subst (Does u) (sym e) rests

-- A client reads a message

pub accepted_same : (k : Client) (b : PushBody) → ((accepted k b).number ≡ k.number) × ((accepted k b).incarnation ≡ k.incarnation) × ((accepted k b).epoch ≡ k.epoch) × ((accepted k b).req ≡ k.req)
accepted_same k (push.Grant req hs) = (refl, refl, refl, refl)
accepted_same k (push.Absent req point) = (refl, refl, refl, refl)
accepted_same k (push.Answer number o h) = (refl, refl, refl, refl)

abbrev ReadsBy : State → ℕ → Pieces → Client → ClientCase → Type 0
ReadsBy u d ps k x = Goes u d k (receiver.after k x) (receiver.sends ps k x)

pub client_goes : (u : State) (ps : Pieces) (k : Client) (m : ToClient) → In (message.ToClient m) u.sent → ReadsBy u m.client ps k (receiver.client_case_of k m)
client_goes u ps k m at = if_case (ReadsBy u m.client ps k) (nat_eq m.client k.number && nat_eq m.incarnation k.incarnation) _ Ignores (λ e. of_body (eqb-true m.incarnation k.incarnation (and_parts (nat_eq m.client k.number) (nat_eq m.incarnation k.incarnation) e).1) m.body refl) (λ e. quiet)
  where
    quiet : ReadsBy u m.client ps k Ignores
    quiet = same k [] refl refl refl refl refl (none_asks k.number k.req)

    acks : ReadsBy u m.client ps k AcksAgain
    acks = same k _ refl refl refl refl refl (one_asks k.number k.req (says_ack k) refl (omega arith))

    push_number : (e n : ℕ) (b : PushBody) → m.body ≡ told.Push e n b → e ≡ k.epoch → n ≡ suc k.seen → m.body ≡ told.Push k.epoch (suc k.seen) b
    push_number e n b is f g = is ∙ (λ j. told.Push (f j) (g j) b)

    of_body : m.incarnation ≡ k.incarnation → (b : ToClientBody) → m.body ≡ b → ReadsBy u m.client ps k (receiver.client_case_of_body k b)
    of_body inc (told.Epoch e) is = if_case (ReadsBy u m.client ps k) (nat_lt k.epoch e) (Adopts e) Ignores
        (λ lt. adopts e _ m at refl inc is (ltb-true k.epoch e lt) (one_asks k.number 0 (says_report ps (joined k e)) refl (omega arith))) (λ no. quiet)
    of_body inc (told.Push e number what) is = if_case (ReadsBy u m.client ps k) (nat_eq e k.epoch && receiver.fits what) _ Ignores
        (λ here. if_case (ReadsBy u m.client ps k) (nat_eq number (suc k.seen) && nat_le number END) (Accepts what) _
        (λ f. accepts what _ m at refl inc (push_number e number what is (eqb-true e k.epoch (and_parts (nat_eq e k.epoch) (receiver.fits what) here).0) (eqb-true number (suc k.seen) (and_parts (nat_eq number (suc k.seen)) (nat_le number END) f).0)) (one_asks k.number 0 (says_ack (accepted k what)) (accepted_same k what).0 (omega arith)))
        (λ f. if_case (ReadsBy u m.client ps k) (nat_eq number k.seen) AcksAgain Ignores (λ g. acks) (λ g. quiet)))
        (λ e. quiet)
    of_body inc (told.Callback e s keep) is = if_case (ReadsBy u m.client ps k) _ (Lowers s keep) Ignores
        (λ e. same _ _ refl refl refl refl refl (one_asks k.number k.req (says_release k s keep) refl (omega arith))) (λ e. quiet)

pub reads_number : (k : Client) (x : ClientCase) → (receiver.after k x).writes ≡ k.writes
reads_number k Ignores = refl
reads_number k AcksAgain = refl
reads_number k (Adopts epoch) = refl
reads_number k (Accepts (push.Grant req hs)) = refl
reads_number k (Accepts (push.Absent req point)) = refl
reads_number k (Accepts (push.Answer number o h)) = refl
reads_number k (Lowers s keep) = refl

judged_none : (k : Client) (number : ℕ) (o : Outcome) (x : LastWrite) → outstanding x ≡ None → outstanding (receiver.judged_as k number o x) ≡ None
judged_none k number o Unwritten e = refl
judged_none k number o (Outstanding change) e = absurd (cc)
judged_none k number o (Judged old) e = refl

reads_none : (k : Client) (x : ClientCase) → outstanding k.written ≡ None → outstanding (receiver.after k x).written ≡ None
reads_none k Ignores e = e
reads_none k AcksAgain e = e
reads_none k (Adopts epoch) e = e
reads_none k (Accepts (push.Grant req hs)) e = e
reads_none k (Accepts (push.Absent req point)) e = e
reads_none k (Accepts (push.Answer number o h)) e = judged_none k number o k.written e
reads_none k (Lowers s keep) e = e

reads_silent : (ps : Pieces) (k : Client) (x : ClientCase) → SaysNoWrite (receiver.sends ps k x)
reads_silent ps k Ignores = none_silent
reads_silent ps k AcksAgain = one_silent (says_ack k) refl
reads_silent ps k (Adopts epoch) = one_silent (says_report ps (joined k epoch)) refl
reads_silent ps k (Accepts what) = one_silent (says_ack (accepted k what)) refl
reads_silent ps k (Lowers s keep) = one_silent (says_release k s keep) refl

pub reads_write : (ps : Pieces) (k : Client) (m : ToClient) → WriteGoes k (receiver.after k (receiver.client_case_of k m)) (receiver.sends ps k (receiver.client_case_of k m))
reads_write ps k m = record {
  follows = reads_follow k m;
  number = inl (reads_number k (receiver.client_case_of k m));
  ends = λ e. reads_none k (receiver.client_case_of k m);
  says = silent_says (receiver.after k (receiver.client_case_of k m)) (receiver.sends ps k (receiver.client_case_of k m)) (reads_silent ps k (receiver.client_case_of k m));
}

-- and a tick

tick_says : (ps : Pieces) (k : Client) → SaysItsWrite k (tick ps k)
tick_says ps k = if_both (SaysItsWrite k) (has_joined k) _ (says_hello k ∷ [])
    (both_say k ((if nat_eq k.seen 0 then says_report ps k else says_ack k) ∷ []) (lock_again k k.asked ++ write_again k (outstanding k.written))
    (silent_says k ((if nat_eq k.seen 0 then says_report ps k else says_ack k) ∷ []) (one_silent (if nat_eq k.seen 0 then says_report ps k else says_ack k) (if_both (λ (m : ToServer). write_said m.body ≡ None) (nat_eq k.seen 0) (says_report ps k) (says_ack k) refl refl)))
    (both_say k (lock_again k k.asked) (write_again k (outstanding k.written)) (silent_says k (lock_again k k.asked) (locks_again k.asked)) (writes_again (outstanding k.written) refl)))
    (silent_says k (says_hello k ∷ []) (one_silent (says_hello k) refl))
  where
    locks_again : (a : LockRequest) → SaysNoWrite (lock_again k a)
    locks_again NotAsked = none_silent
    locks_again Granted = none_silent
    locks_again Absent = none_silent
    locks_again Dropped = none_silent
    locks_again (Waiting point hi g) = one_silent (says_lock k point hi g) refl

    writes_again : (o : Option WriteOp) → outstanding k.written ≡ o → SaysItsWrite k (write_again k o)
    writes_again None e = silent_says k [] none_silent
    writes_again (Some op) e = its_write k op (ap is_some e)

tick_writes : (ps : Pieces) (k : Client) → WriteGoes k k (tick ps k)
tick_writes ps k = record { follows = λ e. inr (refl, inr (refl, refl)); number = inl refl; ends = λ e f. f; says = tick_says ps k }

tick_asks : (ps : Pieces) (k : Client) → AsksAtMost k.number k.req (tick ps k)
tick_asks ps k = if_both (AsksAtMost k.number k.req) (has_joined k) _ (says_hello k ∷ [])
    (both_ask k.number k.req ((if nat_eq k.seen 0 then says_report ps k else says_ack k) ∷ []) (lock_again k k.asked ++ write_again k (outstanding k.written))
    (one_asks k.number k.req _ (if_both (λ (m : ToServer). m.client ≡ k.number) (nat_eq k.seen 0) (says_report ps k) (says_ack k) refl refl) (if_both (λ (m : ToServer). request_said m.body ≤ k.req) (nat_eq k.seen 0) (says_report ps k) (says_ack k) (omega arith) (omega arith)))
    (both_ask k.number k.req (lock_again k k.asked) (write_again k (outstanding k.written)) (locks_again k.asked) (writes_again (outstanding k.written))))
    (one_asks k.number k.req (says_hello k) refl (omega arith))
  where
    locks_again : (a : LockRequest) → AsksAtMost k.number k.req (lock_again k a)
    locks_again NotAsked = none_asks k.number k.req
    locks_again Granted = none_asks k.number k.req
    locks_again Absent = none_asks k.number k.req
    locks_again Dropped = none_asks k.number k.req
    locks_again (Waiting point hi g) = one_asks k.number k.req (says_lock k point hi g) refl (omega arith)

    writes_again : (o : Option WriteOp) → AsksAtMost k.number k.req (write_again k o)
    writes_again None = none_asks k.number k.req
    writes_again (Some op) = one_asks k.number k.req (says_write k op) refl (omega arith)

-- A command

not_waiting : (k : Client) (point hi : ℕ) → lock_refusal k point hi ≡ None → is_waiting k.asked ≡ false
not_waiting k point hi e =
    let a = passed (nat_lt END point) refused.BadPoint _ e in
    let b = passed _ refused.BadSpan _ a.1 in
    let d = passed _ refused.NotJoined _ b.1 in
    (passed (is_waiting k.asked) refused.Busy _ d.1).0

-- the points that it asks for are some points
reaches : (k : Client) (point hi : ℕ) → lock_refusal k point hi ≡ None → has_points point hi ≡ true
reaches k point hi e =
    let a = passed (nat_lt END point) refused.BadPoint _ e in
    let b = passed (not (nat_lt point hi && nat_le hi TOP)) refused.BadSpan _ a.1 in
    ap (λ x. not x && (nat_lt point hi && nat_le hi TOP)) a.0 ∙ not-false (nat_lt point hi && nat_le hi TOP) b.0

place_does : (u v : State) (d : ℕ) (k l : Client) (ms : List ToServer) → client_of u d ≡ Some k → Goes u d k l ms → WriteGoes k l ms → v ≡ with_client u d (Some l) ms → Does u v
place_does u v d k l ms i g x e = subst (Does u) (sym e) (goes d k l ms i g x)

-- a client whose write and pushes stay
unwritten : (k l : Client) (ms : List ToServer) → l.seen ≡ k.seen → l.written ≡ k.written → l.writes ≡ k.writes → SaysNoWrite ms → WriteGoes k l ms
unwritten k l ms seen written writes silent = record {
  follows = λ e. inr (seen, inr (written, writes));
  number = inl writes;
  ends = λ e f. ap outstanding written ∙ f;
  says = silent_says l ms silent;
}

writes_now : (k : Client) (op : WriteOp) (seizes : Bool) → outstanding k.written ≡ None → WriteGoes k (issued k op seizes) (says_write (issued k op seizes) op ∷ [])
writes_now k op seizes none = record {
  follows = λ e. inr (refl, inl none);
  number = inr refl;
  ends = λ e. absurd (omega (arith, e));
  says = its_write (issued k op seizes) op refl;
}

obeys_does : (u v : State) (c : ℕ) (k : Client) (what : Command) (answer : Answer) → command_refusal k what ≡ None → client_of u c ≡ Some k → Obeys u c k what answer v → Does u v
obeys_does u v c k (command.Lock point hi g) answer r i d = place_does u v c k _ _ i (locks point hi g (not_waiting k point hi r) (reaches k point hi r)) (unwritten k (locked k point hi g) _ refl refl refl (one_silent (says_lock (locked k point hi g) point hi g) refl)) d.1
obeys_does u v c k (command.Write op) answer r i d = place_does u v c k _ _ i (same (wrote k op) (says_write (wrote k op) op ∷ []) refl refl refl refl refl (one_asks k.number k.req (says_write (wrote k op) op) refl (omega arith))) (writes_now k op false (write_free k op r).0) d.1
obeys_does u v c k (command.Seize op) answer r i d = place_does u v c k _ _ i (same (seized k op) (says_write (seized k op) op ∷ []) refl refl refl refl refl (one_asks k.number k.req (says_write (seized k op) op) refl (omega arith))) (writes_now k op true (take_free k op r).0) d.1
obeys_does u v c k (command.Scan lo hi) answer r i d = rests_at u v d.1
obeys_does u v c k (command.Lower lo hi keep) answer r i d = place_does u v c k _ _ i (same (belief_lowered k (span lo hi) keep) (says_release k (span lo hi) keep ∷ []) refl refl refl refl refl (one_asks k.number k.req (says_release k (span lo hi) keep) refl (omega arith))) (unwritten k (belief_lowered k (span lo hi) keep) _ refl refl refl (one_silent (says_release k (span lo hi) keep) refl)) d.1
obeys_does u v c k (command.Pin lo hi) answer r i d = place_does u v c k _ _ i (same (pinned k (span lo hi) d.0) [] refl refl refl refl refl (none_asks k.number k.req)) (unwritten k (pinned k (span lo hi) d.0) [] refl refl refl none_silent) d.3
obeys_does u v c k (command.Unpin id) answer r i d = place_does u v c k _ _ i (same (unpinned k id) [] refl refl refl refl refl (none_asks k.number k.req)) (unwritten k (unpinned k id) [] refl refl refl none_silent) d.1
obeys_does u v c k command.Leave answer r i d = subst (Does u) (sym d.1) (ends c k.number (says_bye k ∷ []) (one_asks k.number 0 (says_bye k) refl (omega arith)) (one_silent (says_bye k) refl))

-- Each step

client_does : (u v : State) (m : ToClient) (o : Option Client) → client_of u m.client ≡ o → In (message.ToClient m) u.sent → ClientReads u o m v → Does u v
client_does u v m None i at d = rests_at u v d
client_does u v m (Some k) i at d = place_does u v m.client k _ _ i (client_goes u d.0 k m at) (reads_write d.0 k m) d.2

read_does : (u v : State) (m : ToServer) (n : ServerPlace) → u.server ≡ n → In (message.ToServer m) u.sent → ServerReads u n m v → Does u v
read_does u v m (Up s) up at d = subst (Does u) (sym d.3) (reads s d.0 m d.1 (applies m (case_of s m)) up at d.2)
read_does u v m (Down x) up at d = rests_at u v d

delivers_does : (u v : State) (o : Option Message) → ((m : Message) → o ≡ Some m → In m u.sent) → Delivers u o v → Does u v
delivers_does u v None at d = absurd d
delivers_does u v (Some (message.ToServer m)) at d = read_does u v m u.server refl (at (message.ToServer m) refl) d
delivers_does u v (Some (message.ToClient m)) at d = client_does u v m (client_of u m.client) refl (at (message.ToClient m) refl) d

nudged_does : (u v : State) (c : ℕ) (n : ServerPlace) → u.server ≡ n → v ≡ nudged u n c → Does u v
nudged_does u v c (Up s) up e = subst (Does u) (sym e) (nudges s c up)
nudged_does u v c (Down d) up e = rests_at u v e

started_does : (u v : State) (n : ServerPlace) → u.server ≡ n → v ≡ started u n → Does u v
started_does u v (Up s) up e = rests_at u v e
started_does u v (Down d) up e = subst (Does u) (sym e) (begins d up)

crashed_does : (u v : State) (n : ServerPlace) → u.server ≡ n → v ≡ crashed u n → Does u v
crashed_does u v (Up s) up e = subst (Does u) (sym e) (stops s up)
crashed_does u v (Down d) up e = rests_at u v e

pub does : (u v : State) (s : Step) (answer : Answer) → Takes u s answer v → Does u v
does u v (step.Deliver i) answer t = delivers_does u v (message_at u.sent i) (at_in u.sent i) t.1.1
does u v (step.Command c what) answer t = obeys_does u v c t.1.0 what answer (not_named refused_by_client (command_refusal t.1.0 what) (runs_ok (client_of u c) t.1.0 _ t.1.1 (client_ok c _ t.0))) t.1.1 t.1.2
does u v (step.Tick c) answer t = let d = t.1.1 in place_does u v c d.0 d.0 (tick d.2.0 d.0) d.1 (same d.0 _ refl refl refl refl refl (tick_asks d.2.0 d.0)) (tick_writes d.2.0 d.0) d.2.2
does u v (step.Nudge c) answer t = nudged_does u v c u.server refl t.1.1
does u v (step.StartClient c) answer t = subst (Does u) (sym t.1.1) (starts c (was_down u c _ t.0).0)
does u v (step.CrashClient c) answer t = subst (Does u) (sym t.1.1) (ends c c [] (none_asks c 0) none_silent)
does u v step.StartServer answer t = started_does u v u.server refl t.1.1
does u v step.CrashServer answer t = crashed_does u v u.server refl t.1.1
