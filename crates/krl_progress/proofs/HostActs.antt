-- A step of a client does the same in each world with the same clients, and a message is found by its number.
use Rattle.krl_progress.proofs.Names.{◌≡◌, ℕ, zero, suc, ◌+◌, ◌≤◌, ◌<◌, inl, inr, Option, Some, None, is_some, List, [], ◌∷◌, ◌++◌, length, slice_get, refl, sym, ap, subst, arith, if◌then◌else◌}
use Rattle.krl_progress.proofs.Names.{In, ToServer, ToClient, Client, Message, AppliedWrite, Step, Command, Answer, ServerPlace, Down, ClientPlace, State, client_of, with_client, seated}
use Rattle.krl_progress.proofs.Names.{message_at, span, server_down, refusal_of, ClientReads, Delivers, Obeys, Takes, Durable}
use Rattle.krl_client.specs.Clients.{begun}
use Rattle.krl_client.specs.Commands.{says_lock, locked, wrote, seized, says_write, says_release, says_bye}
use Rattle.krl_client.specs.Ticks.{tick, says_hello}
use Rattle.krl_client.specs.Messages as receiver
use Rattle.krl_world.specs.declared.message.Message.TheVariants as message
use Rattle.krl_steps.specs.declared.step.Step.TheVariants as step
use Rattle.krl_steps.specs.declared.step.Command.TheVariants as command
use Rattle.krl_steps.specs.declared.answer.Answer.TheVariants as answered
use Rattle.krl_steps.specs.declared.refused.Refused.TheVariants as refused
use Rattle.krl_host_laws.proofs.Clients.{beside}
use Rattle.krl_progress.proofs.Moves.{get_left}

-- Numbers of messages

get_past : (xs ys : List Message) (i j : ℕ) → j ≡ length xs + i → slice_get (xs ++ ys) j ≡ slice_get ys i
get_past [] ys i j e = let l : length {A = Message} [] ≡ 0 = refl in let is : j ≡ i = omega (arith, e, l) in ap (λ k. slice_get ys k) is
get_past (x ∷ xs) ys i zero e = absurd (let l : length (x ∷ xs) ≡ suc (length xs) = refl in omega (arith, e, l))
get_past (x ∷ xs) ys i (suc j) e = get_past xs ys i j (let l : length (x ∷ xs) ≡ suc (length xs) = refl in omega (arith, e, l))

-- a message past the first ones
pub past : (xs ys : List Message) (i j : ℕ) → j ≡ length xs + suc i → message_at (xs ++ ys) j ≡ slice_get ys i
past xs ys i zero e = absurd (omega (arith, e))
past xs ys i (suc j) e = get_past xs ys i j (omega (arith, e))

get_low : (xs ys : List Message) (i : ℕ) (m : Message) → i < length xs → slice_get (xs ++ ys) i ≡ Some m → slice_get xs i ≡ Some m
get_low [] ys i m l e = absurd (let z : length {A = Message} [] ≡ 0 = refl in omega (arith, l, z))
get_low (x ∷ xs) ys zero m l e = e
get_low (x ∷ xs) ys (suc i) m l e = get_low xs ys i m (let z : length (x ∷ xs) ≡ suc (length xs) = refl in omega (arith, l, z)) e

-- one of the first
pub low : (xs ys : List Message) (j : ℕ) (m : Message) → j ≤ length xs → message_at (xs ++ ys) j ≡ Some m → message_at xs j ≡ Some m
low xs ys zero m le e = e
low xs ys (suc i) m le e = get_low xs ys i m (omega (arith, le)) e

pub message_left : (xs ys : List Message) (j : ℕ) (m : Message) → message_at xs j ≡ Some m → message_at (xs ++ ys) j ≡ Some m
message_left xs ys zero m e = e
message_left xs ys (suc i) m e = get_left xs ys i m e

pub get_some : (xs : List Message) (i : ℕ) → i < length xs → (m : Message) × (slice_get xs i ≡ Some m)
get_some [] i l = absurd (let z : length {A = Message} [] ≡ 0 = refl in omega (arith, l, z))
get_some (x ∷ xs) zero l = (x, refl)
get_some (x ∷ xs) (suc i) l = get_some xs i (let z : length (x ∷ xs) ≡ suc (length xs) = refl in omega (arith, l, z))

pub nth_of : (ms : List Message) (m : Message) → In m ms → (i : ℕ) × (slice_get ms i ≡ Some m)
nth_of [] m h = absurd h
nth_of (x ∷ ms) m (inl e) = (zero, ap (λ y. Some y) (sym e))
nth_of (x ∷ ms) m (inr h) = let r = nth_of ms m h in (suc r.0, r.1)

pub cancel : (xs ys zs : List Message) → xs ++ ys ≡ xs ++ zs → ys ≡ zs
cancel [] ys zs e = e
cancel (x ∷ xs) ys zs e = cancel xs ys zs (cc)

-- A step of a client does the same in each world with the same clients

abbrev pub any : List Message → Type 0
any ms = Unit {0}

pub data Alike (w : State) (s : Step) (Fits : List Message → Type 0) : State → Type 0 where
  rests : ((n : ServerPlace) (sent : List Message) (writes : List AppliedWrite) → Fits sent →
      (answer : Answer) × Takes (beside w n sent writes) s answer (beside w n sent writes)) → Alike w s Fits w
  sits : (c : ℕ) (x : ClientPlace) (ms : List ToServer) →
      ((n : ServerPlace) (sent : List Message) (writes : List AppliedWrite) → Fits sent →
      (answer : Answer) × Takes (beside w n sent writes) s answer (seated (beside w n sent writes) c x ms)) → Alike w s Fits (seated w c x ms)

module _ (w : State) where
  abbrev place : ℕ → Option Client → ClientPlace
  place c k = record { last_incarnation = (w.places c).last_incarnation; client = k }

  pub commanded : (v : State) (c : ℕ) (k : Client) (what : Command) (answer : Answer) → refusal_of w (step.Command c what) ≡ None → client_of w c ≡ Some k → Obeys w c k what answer v → Alike w (step.Command c what) any v
  commanded v c k (command.Lock point hi m) answer r is d = subst (Alike w (step.Command c (command.Lock point hi m)) any) (sym d.1) (sits c (place c (Some (locked k point hi m))) (says_lock (locked k point hi m) point hi m ∷ []) (λ n sent writes g. (answer, (r, (k, is, (d.0, refl))))))
  commanded v c k (command.Write op) answer r is d = subst (Alike w (step.Command c (command.Write op)) any) (sym d.1) (sits c (place c (Some (wrote k op))) (says_write (wrote k op) op ∷ []) (λ n sent writes g. (answer, (r, (k, is, (d.0, refl))))))
  commanded v c k (command.Seize op) answer r is d = subst (Alike w (step.Command c (command.Seize op)) any) (sym d.1) (sits c (place c (Some (seized k op))) (says_write (seized k op) op ∷ []) (λ n sent writes g. (answer, (r, (k, is, (d.0, refl))))))
  commanded v c k (command.Scan lo hi) answer r is d = subst (Alike w (step.Command c (command.Scan lo hi)) any) (sym d.1) (rests (λ n sent writes g. (answer, (r, (k, is, (d.0, refl))))))
  commanded v c k (command.Lower lo hi keep) answer r is d = subst (Alike w (step.Command c (command.Lower lo hi keep)) any) (sym d.1) (sits c (place c _) (says_release k (span lo hi) keep ∷ []) (λ n sent writes g. (answer, (r, (k, is, (d.0, refl))))))
  commanded v c k (command.Pin lo hi) answer r is d = subst (Alike w (step.Command c (command.Pin lo hi)) any) (sym d.3) (sits c (place c _) [] (λ n sent writes g. (answer, (r, (k, is, (d.0, d.1, d.2, refl))))))
  commanded v c k (command.Unpin id) answer r is d = subst (Alike w (step.Command c (command.Unpin id)) any) (sym d.1) (sits c (place c _) [] (λ n sent writes g. (answer, (r, (k, is, (d.0, refl))))))
  commanded v c k command.Leave answer r is d = subst (Alike w (step.Command c command.Leave) any) (sym d.1) (sits c (place c None) (says_bye k ∷ []) (λ n sent writes g. (answer, (r, (k, is, (d.0, refl))))))

  pub ticked : (v : State) (c : ℕ) (answer : Answer) → Takes w (step.Tick c) answer v → Alike w (step.Tick c) any v
  ticked v c answer t = subst (Alike w (step.Tick c) any) (sym t.1.1.2.2) (sits c (place c (Some t.1.1.0)) (tick t.1.1.2.0 t.1.1.0) (λ n sent writes g. (answer, (t.0, (t.1.0, (t.1.1.0, t.1.1.1, (t.1.1.2.0, t.1.1.2.1, refl)))))))

  pub started : (v : State) (c : ℕ) (answer : Answer) → Takes w (step.StartClient c) answer v → Alike w (step.StartClient c) any v
  started v c answer t = subst (Alike w (step.StartClient c) any) (sym t.1.1) (sits c (record { last_incarnation = suc (w.places c).last_incarnation; client = Some (begun c (suc (w.places c).last_incarnation)) }) (says_hello (begun c (suc (w.places c).last_incarnation)) ∷ []) (λ n sent writes g. (answer, (t.0, (t.1.0, refl)))))

  pub crashed : (v : State) (c : ℕ) (answer : Answer) → Takes w (step.CrashClient c) answer v → Alike w (step.CrashClient c) any v
  crashed v c answer t = subst (Alike w (step.CrashClient c) any) (sym t.1.1) (sits c (place c None) [] (λ n sent writes g. (answer, (t.0, (t.1.0, refl)))))

  pub not_down : (d : Durable) → w.server ≡ Down d → server_down w.server ≡ None → ⊥
  not_down d down e = let x = subst (λ n. server_down n ≡ None) down e in cc

-- message k is delivered
pub delivers_one : (u v : State) (k : ℕ) (m : Message) → message_at u.sent k ≡ Some m → Delivers u (Some m) v → Takes u (step.Deliver k) answered.Done v
delivers_one u v k m e d = (subst (λ o. (if is_some o then None else Some refused.NoMessage) ≡ None) (sym e) refl, (refl, subst (λ o. Delivers u o v) (sym e) d))

-- one for a client
pub heard : (w v : State) (k : ℕ) (m : ToClient) (o : Option Client) → client_of w m.client ≡ o → ClientReads w o m v → Alike w (step.Deliver k) (λ ms. message_at ms k ≡ Some (message.ToClient m)) v
heard w v k m None is d = subst (Alike w (step.Deliver k) (λ ms. message_at ms k ≡ Some (message.ToClient m))) (sym d)
    (rests (λ n sent writes g. let u = beside w n sent writes in (answered.Done, delivers_one u u k (message.ToClient m) g (subst (λ p. ClientReads u p m u) (sym is) refl))))
heard w v k m (Some a) is d =
    let next = Some (receiver.after a (receiver.client_case_of a m)) in
    let ms = receiver.sends d.0 a (receiver.client_case_of a m) in
    subst (Alike w (step.Deliver k) (λ xs. message_at xs k ≡ Some (message.ToClient m))) (sym d.2)
    (sits m.client (place w m.client next) ms (λ n sent writes g. let u = beside w n sent writes in
    (answered.Done, delivers_one u (with_client u m.client next ms) k (message.ToClient m) g (subst (λ p. ClientReads u p m (with_client u m.client next ms)) (sym is) (d.0, d.1, refl)))))
