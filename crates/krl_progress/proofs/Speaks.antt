-- Whose requests a step adds to what was sent: those of a client that runs.
use Rattle.krl_progress.proofs.Names.{◌≡◌, ℕ, suc, if◌then◌else◌, ◌⊎◌, inl, inr, ⊎_elim, ◌∙◌, Option, Some, None, List, [], ◌∷◌, ◌++◌, refl, sym, ap, subst, nat_eq, in_both, In}
use Rattle.krl_progress.proofs.Names.{ToServer, ToClient, Client, Pieces, Message, AppliedWrite, Step, Command, Answer, ServerPlace, Up, Down, State, ClientPlace, client_of, seated, served, message_at, ServerReads, ClientReads, Delivers, Obeys, nudged, started, crashed, Takes, from_clients, from_server, span, applies, case_of, nudge, begun}
use Rattle.krl_messages.specs.declared.to_server.ToServerBody.TheVariants as said
use Rattle.krl_messages.specs.declared.to_server.Request.{Request}
use Rattle.krl_messages.specs.declared.write_op.WriteOp.{WriteOp}
use Rattle.krl_client.specs.Clients.{LockRequest, NotAsked, Granted, Absent, Dropped, Waiting, outstanding, has_joined}
use Rattle.krl_client.specs.Commands.{says_lock, locked, says_write, wrote, seized, says_release, says_bye}
use Rattle.krl_client.specs.Messages as receiver
use Rattle.krl_client.specs.Messages.{ClientCase, Ignores, AcksAgain, Adopts, Accepts, Lowers, accepted, joined, says_ack, says_report}
use Rattle.krl_client.specs.Ticks.{tick, says_hello, lock_again, write_again}
use Rattle.krl_steps.specs.declared.step.Step.TheVariants as step
use Rattle.krl_steps.specs.declared.step.Command.TheVariants as command
use Rattle.krl_world.specs.declared.message.Message.TheVariants as message
use Rattle.krl_world.proofs.Refinement.Mirrors.{in_from_clients, not_from_server}
use Rattle.krl_server.proofs.Tests.{if_both}
use Rattle.krl_progress.proofs.Doings.{accepted_same}

-- the message is the client's
pub record IsOf (k : Client) (m : ToServer) : Type 0 where
  pub number : m.client ≡ k.number
  pub incarnation : m.incarnation ≡ k.incarnation

abbrev AreOf : Client → List ToServer → Type 0
AreOf k ms = (m : ToServer) → In m ms → IsOf k m

one_of : (k : Client) (m : ToServer) → m.client ≡ k.number → m.incarnation ≡ k.incarnation → AreOf k (m ∷ [])
one_of k m n i x (inl e) = record { number = ap (λ (y : ToServer). y.client) e ∙ n; incarnation = ap (λ (y : ToServer). y.incarnation) e ∙ i }
one_of k m n i x (inr at) = absurd at

none_of : (k : Client) → AreOf k []
none_of k x at = absurd at

both_of : (k : Client) (xs ys : List ToServer) → AreOf k xs → AreOf k ys → AreOf k (xs ++ ys)
both_of k xs ys h g m at = ⊎_elim (λ (a : In m xs). h m a) (λ (a : In m ys). g m a) (in_both xs ys m at)

-- What a client sends

read_of : (ps : Pieces) (k : Client) (x : ClientCase) → AreOf k (receiver.sends ps k x)
read_of ps k Ignores = none_of k
read_of ps k AcksAgain = one_of k (says_ack k) refl refl
read_of ps k (Adopts epoch) = one_of k (says_report ps (joined k epoch)) refl refl
read_of ps k (Accepts what) = one_of k (says_ack (accepted k what)) (accepted_same k what).0 (accepted_same k what).1
read_of ps k (Lowers s keep) = one_of k (says_release k s keep) refl refl

tick_of : (ps : Pieces) (k : Client) → AreOf k (tick ps k)
tick_of ps k = if_both (AreOf k) (has_joined k) _ (says_hello k ∷ [])
    (both_of k ((if nat_eq k.seen 0 then says_report ps k else says_ack k) ∷ []) (lock_again k k.asked ++ write_again k (outstanding k.written))
    (if_both (λ (m : ToServer). AreOf k (m ∷ [])) (nat_eq k.seen 0) (says_report ps k) (says_ack k) (one_of k (says_report ps k) refl refl) (one_of k (says_ack k) refl refl))
    (both_of k (lock_again k k.asked) (write_again k (outstanding k.written)) (locks_again k.asked) (writes_again (outstanding k.written))))
    (one_of k (says_hello k) refl refl)
  where
    locks_again : (a : LockRequest) → AreOf k (lock_again k a)
    locks_again NotAsked = none_of k
    locks_again Granted = none_of k
    locks_again Absent = none_of k
    locks_again Dropped = none_of k
    locks_again (Waiting point hi g) = one_of k (says_lock k point hi g) refl refl

    writes_again : (o : Option WriteOp) → AreOf k (write_again k o)
    writes_again None = none_of k
    writes_again (Some op) = one_of k (says_write k op) refl refl

-- What a step adds

-- a client that runs sends it
pub record IsSpoken (u : State) (m : ToServer) : Type 0 where
  pub place : ℕ
  pub speaker : Client
  pub runs : client_of u place ≡ Some speaker
  pub of : IsOf speaker m

-- a client that asks in the later world has asked before, or asks now
abbrev pub Speaks : State → State → Type 0
Speaks u v = (m : ToServer) (r : Request) → m.body ≡ said.Request r → In (message.ToServer m) v.sent → In (message.ToServer m) u.sent ⊎ IsSpoken u m

says_more : (u v : State) (ms : List ToServer) → v.sent ≡ u.sent ++ from_clients ms → ((m : ToServer) (r : Request) → m.body ≡ said.Request r → In m ms → IsSpoken u m) → Speaks u v
says_more u v ms e h m r is at = ⊎_elim
    (λ (x : In (message.ToServer m) u.sent). inl x)
    (λ (x : In (message.ToServer m) (from_clients ms)). inr (h m r is (in_from_clients m ms x)))
    (in_both u.sent (from_clients ms) (message.ToServer m) (subst (In (message.ToServer m)) e at))

says_own : (u v : State) (d : ℕ) (k : Client) (x : ClientPlace) (ms : List ToServer) → client_of u d ≡ Some k → AreOf k ms → v ≡ seated u d x ms → Speaks u v
says_own u v d k x ms i h e = says_more u v ms (ap (λ (y : State). y.sent) e) (λ m r is at. record { place = d; speaker = k; runs = i; of = h m at })

-- a message that is no request
says_other : (u v : State) (d : ℕ) (x : ClientPlace) (o : ToServer) → ((r : Request) → o.body ≡ said.Request r → ⊥) → v ≡ seated u d x (o ∷ []) → Speaks u v
says_other u v d x o none e = says_more u v (o ∷ []) (ap (λ (y : State). y.sent) e) (λ m r is at. ⊎_elim
    (λ (f : m ≡ o). absurd (none r (ap (λ (y : ToServer). y.body) (sym f) ∙ is)))
    (λ (f : In m []). absurd f) at)

says_none : (u v : State) (d : ℕ) (x : ClientPlace) → v ≡ seated u d x [] → Speaks u v
says_none u v d x e = says_more u v [] (ap (λ (y : State). y.sent) e) (λ m r is at. absurd at)

same_speaks : (u v : State) → v ≡ u → Speaks u v
same_speaks u v e m r is at = inl (subst (λ (y : State). In (message.ToServer m) y.sent) e at)

server_speaks : (u v : State) (n : ServerPlace) (outs : List ToClient) (writes : List AppliedWrite) → v ≡ served u n outs writes → Speaks u v
server_speaks u v n outs writes e m r is at = ⊎_elim
    (λ (x : In (message.ToServer m) u.sent). inl x)
    (λ (x : In (message.ToServer m) (from_server outs)). absurd (not_from_server m outs x))
    (in_both u.sent (from_server outs) (message.ToServer m) (subst (λ (y : State). In (message.ToServer m) y.sent) e at))

obeys_speaks : (u v : State) (c : ℕ) (k : Client) (what : Command) (answer : Answer) → client_of u c ≡ Some k → Obeys u c k what answer v → Speaks u v
obeys_speaks u v c k (command.Lock point hi g) answer i d = says_own u v c k _ (says_lock (locked k point hi g) point hi g ∷ []) i (one_of k (says_lock (locked k point hi g) point hi g) refl refl) d.1
obeys_speaks u v c k (command.Write op) answer i d = says_own u v c k _ (says_write (wrote k op) op ∷ []) i (one_of k (says_write (wrote k op) op) refl refl) d.1
obeys_speaks u v c k (command.Seize op) answer i d = says_own u v c k _ (says_write (seized k op) op ∷ []) i (one_of k (says_write (seized k op) op) refl refl) d.1
obeys_speaks u v c k (command.Scan lo hi) answer i d = same_speaks u v d.1
obeys_speaks u v c k (command.Lower lo hi keep) answer i d = says_own u v c k _ (says_release k (span lo hi) keep ∷ []) i (one_of k (says_release k (span lo hi) keep) refl refl) d.1
obeys_speaks u v c k (command.Pin lo hi) answer i d = says_own u v c k _ [] i (none_of k) d.3
obeys_speaks u v c k (command.Unpin id) answer i d = says_own u v c k _ [] i (none_of k) d.1
obeys_speaks u v c k command.Leave answer i d = says_own u v c k _ (says_bye k ∷ []) i (one_of k (says_bye k) refl refl) d.1

client_speaks : (u v : State) (m : ToClient) (o : Option Client) → client_of u m.client ≡ o → ClientReads u o m v → Speaks u v
client_speaks u v m None i d = same_speaks u v d
client_speaks u v m (Some k) i d = says_own u v m.client k _ (receiver.sends d.0 k (receiver.client_case_of k m)) i (read_of d.0 k (receiver.client_case_of k m)) d.2

read_speaks : (u v : State) (m : ToServer) (n : ServerPlace) → ServerReads u n m v → Speaks u v
read_speaks u v m (Up s) d = server_speaks u v _ d.1 (applies m (case_of s m)) d.3
read_speaks u v m (Down x) d = same_speaks u v d

delivers_speaks : (u v : State) (o : Option Message) → Delivers u o v → Speaks u v
delivers_speaks u v None d = absurd d
delivers_speaks u v (Some (message.ToServer m)) d = read_speaks u v m u.server d
delivers_speaks u v (Some (message.ToClient m)) d = client_speaks u v m (client_of u m.client) refl d

nudged_speaks : (u v : State) (c : ℕ) (n : ServerPlace) → v ≡ nudged u n c → Speaks u v
nudged_speaks u v c (Up s) e = server_speaks u v _ (nudge s c) [] e
nudged_speaks u v c (Down d) e = same_speaks u v e

started_speaks : (u v : State) (n : ServerPlace) → v ≡ started u n → Speaks u v
started_speaks u v (Up s) e = same_speaks u v e
started_speaks u v (Down d) e = server_speaks u v _ [] [] e

crashed_speaks : (u v : State) (n : ServerPlace) → v ≡ crashed u n → Speaks u v
crashed_speaks u v (Up s) e = server_speaks u v _ [] [] e
crashed_speaks u v (Down d) e = same_speaks u v e

pub speaks : (u v : State) (s : Step) (answer : Answer) → Takes u s answer v → Speaks u v
speaks u v (step.Deliver i) answer t = delivers_speaks u v (message_at u.sent i) t.1.1
speaks u v (step.Command c what) answer t = obeys_speaks u v c t.1.0 what answer t.1.1 t.1.2
speaks u v (step.Tick c) answer t = let d = t.1.1 in says_own u v c d.0 _ (tick d.2.0 d.0) d.1 (tick_of d.2.0 d.0) d.2.2
speaks u v (step.Nudge c) answer t = nudged_speaks u v c u.server t.1.1
speaks u v (step.StartClient c) answer t = says_other u v c _ (says_hello (begun c (suc (u.places c).last_incarnation))) (λ r is. absurd (cc)) t.1.1
speaks u v (step.CrashClient c) answer t = says_none u v c _ t.1.1
speaks u v step.StartServer answer t = started_speaks u v u.server t.1.1
speaks u v step.CrashServer answer t = crashed_speaks u v u.server t.1.1
