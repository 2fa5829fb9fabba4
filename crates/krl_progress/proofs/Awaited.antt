-- In each reachable world: a push that is on its way is one that its client waits for.
use Rattle.krl_world.proofs.Reaching.{by_reaching}
use Rattle.krl_progress.proofs.Names.{◌≡◌, ℕ, suc, ◌<◌, ◌⊎◌, inl, inr, ⊎_elim, ◌∙◌, true, false, Some, None, List, [], ◌++◌, is_some, refl, sym, ap, subst, arith, In, in_both}
use Rattle.krl_progress.proofs.Names.{ToServer, ToClient, Client, Server, Durable, ServerStep, start, nudge, Up, Down, State, client_of, with_client, seated, served, opened, IsReachable, from_clients, from_server, AppliedWrite}
use Rattle.krl_messages.specs.declared.to_client.PushBody.{PushBody}
use Rattle.krl_messages.specs.declared.to_client.PushBody.TheVariants as push
use Rattle.krl_client.specs.Clients.{begun, is_waiting, outstanding}
use Rattle.krl_client.specs.Commands.{locked}
use Rattle.krl_client.specs.Messages.{accepted}
use Rattle.krl_modes.proofs.Basics.{not_both}
use Rattle.krl_world.specs.declared.message.Message.TheVariants as message
use Rattle.krl_world.proofs.Refinement.Mirrors.{in_from_clients, not_from_server}
use Rattle.krl_progress.specs.Requests.{IsAwaited, PushesAreAwaited}
use Rattle.krl_progress.proofs.Recovers.{same_up}
use Rattle.krl_progress.proofs.Standings.{standing}
use Rattle.krl_progress.proofs.CallsBack.{in_order}
use Rattle.krl_progress.proofs.Moves.{some_is}
use Rattle.krl_progress.proofs.Heard.{has_said, has_told}
use Rattle.krl_progress.proofs.Doings.{write_said, Goes, same, locks, adopts, accepts, WriteGoes, one_silent, Does, rests, goes, starts, ends, reads, nudges, stops, begins, does}
use Rattle.krl_progress.proofs.Knowing.{Knows}
use Rattle.krl_progress.proofs.Known.{goes_mine}
use Rattle.krl_progress.proofs.Agreed.{agrees, by_place, heard_of, new_place, hello}
use Rattle.krl_progress.proofs.Pending.{Pending, Writes, step_pending}

-- a write that was sent with the client's last push seen is its outstanding one
abbrev pub Says : State → ℕ → Client → Type 0
Says u c k = (m : ToServer) → m.client ≡ c → In (message.ToServer m) u.sent → Writes m k

pub record Awaits (u : State) : Type 0 where
  pub says : (c : ℕ) (k : Client) → client_of u c ≡ Some k → Says u c k
  pub pending : (s : Server) (c : ℕ) (k : Client) → u.server ≡ Up s → client_of u c ≡ Some k → Pending s c k

-- Messages that are sent

says_by_server : (u v : State) (c : ℕ) (k : Client) (outs : List ToClient) → v.sent ≡ u.sent ++ from_server outs → Says u c k → Says v c k
says_by_server u v c k outs e h m own at = h m own (⊎_elim (λ (x : In (message.ToServer m) u.sent). x) (λ (x : In (message.ToServer m) (from_server outs)). absurd (not_from_server m outs x)) (in_both u.sent (from_server outs) (message.ToServer m) (subst (In (message.ToServer m)) e at)))

-- of others, or of no write
says_by_clients : (u v : State) (c : ℕ) (k : Client) (ms : List ToServer) → v.sent ≡ u.sent ++ from_clients ms → ((m : ToServer) → In m ms → m.client ≡ c → write_said m.body ≡ None) → Says u c k → Says v c k
says_by_clients u v c k ms e f h m own at = ⊎_elim (λ (x : In (message.ToServer m) u.sent). h m own x)
    (λ (x : In (message.ToServer m) (from_clients ms)). λ some inc r is now seen n number. absurd (let y = f m (in_from_clients m ms x) own in let bad : None ≡ Some n = sym y ∙ ap write_said is ∙ number in cc))
    (in_both u.sent (from_clients ms) (message.ToServer m) (subst (In (message.ToServer m)) e at))

-- A client's step

pub accepted_seen : (k : Client) (b : PushBody) → ((accepted k b).seen ≡ suc k.seen) × ((accepted k b).epoch ≡ k.epoch) × ((accepted k b).incarnation ≡ k.incarnation)
accepted_seen k (push.Grant req hs) = (refl, refl, refl)
accepted_seen k (push.Absent req point) = (refl, refl, refl)
accepted_seen k (push.Answer number o h) = (refl, refl, refl)

-- the same write, or none before
abbrev SameWrite : Client → Client → Type 0
SameWrite k l = (outstanding k.written ≡ None) ⊎ ((l.written ≡ k.written) × (l.writes ≡ k.writes))

same_write : (k l : Client) (ms : List ToServer) → WriteGoes k l ms → l.epoch ≡ k.epoch → l.seen ≡ k.seen → SameWrite k l
same_write k l ms x e seen = ⊎_elim (λ (y : k.seen < l.seen). absurd (omega (arith, y, seen))) (λ (y : (l.seen ≡ k.seen) × SameWrite k l). y.1) (x.follows e)

abbrev IsIts : Client → ℕ → Type 0
IsIts k n = (is_some (outstanding k.written) ≡ true) × (n ≡ k.writes)

its_still : (k l : Client) (n : ℕ) → SameWrite k l → IsIts k n → IsIts l n
its_still k l n (inl none) h = absurd (let bad = sym h.0 ∙ ap is_some none in let x : true ≡ false = bad in cc)
its_still k l n (inr x) h = (ap (λ y. is_some (outstanding y)) x.0 ∙ h.0, h.1 ∙ sym x.1)

still_awaited : (k l : Client) (b : PushBody) → l.req ≡ k.req → l.asked ≡ k.asked → SameWrite k l → IsAwaited k b → IsAwaited l b
still_awaited k l (push.Grant req hs) e f x h = (ap is_waiting f ∙ h.0, h.1 ∙ sym e)
still_awaited k l (push.Absent req point) e f x h = (ap is_waiting f ∙ h.0, h.1 ∙ sym e)
still_awaited k l (push.Answer number o y) e f x h = its_still k l number x h

locked_awaited : (k : Client) (point hi : ℕ) (g : Rattle.krl_modes.specs.declared.mode.Mode.Mode) (b : PushBody) → is_waiting k.asked ≡ false → IsAwaited k b → IsAwaited (locked k point hi g) b
locked_awaited k point hi g (push.Grant req hs) free h = absurd (not_both (is_waiting k.asked) h.0 free)
locked_awaited k point hi g (push.Absent req p) free h = absurd (not_both (is_waiting k.asked) h.0 free)
locked_awaited k point hi g (push.Answer number o y) free h = h

module _ (u : State) (ru : IsReachable u) (d : ℕ) (k : Client) (runs : client_of u d ≡ Some k) where
  goes_pending : (s : Server) → u.server ≡ Up s → Knows s d k → Pending s d k → (l : Client) (ms : List ToServer) → Goes u d k l ms → WriteGoes k l ms → Pending s d l
  goes_pending s up knows h _ _ (same l ms inc epoch seen req asked most) x now b e n = still_awaited k l b req asked (same_write k l ms x epoch seen) (h (sym epoch ∙ now) b e (n ∙ ap (λ y. suc y) seen))
  goes_pending s up knows h _ _ (locks point hi g free reach) x now b e n = locked_awaited k point hi g b free (h now b e n)
  goes_pending s up knows h _ _ (adopts epoch ms m at own inc is lt most) x now b e n =
      absurd (let t = ((has_told u s d ru up).epochs m own at epoch is).0 in let reg = (standing u s d k ru up runs).reg in
      let fresh = knows.early (omega (arith, t, reg, inc)) (omega (arith, lt, now)) in
      let bad : None ≡ Some b = sym fresh.none_pushed ∙ e in cc)
  goes_pending s up knows h _ _ (accepts what ms m at own inc is most) x now b e n =
      absurd (let a = accepted_seen k what in let high = (knows.now (sym a.1 ∙ now)).high in let seen = a.0 in omega (arith, high, seen, n))

  goes_says : (v : State) → Says u d k → (l : Client) (ms : List ToServer) → v.sent ≡ u.sent ++ from_clients ms → Goes u d k l ms → WriteGoes k l ms → Says v d l
  goes_says v h l ms e g x m own at = ⊎_elim (λ (y : In (message.ToServer m) u.sent). old l ms g x m own y)
      (λ (y : In (message.ToServer m) (from_clients ms)). λ some inc r is now seen n number. x.says m (in_from_clients m ms y) n (ap write_said is ∙ number))
      (in_both u.sent (from_clients ms) (message.ToServer m) (subst (In (message.ToServer m)) e at))
    where
      old : (l : Client) (ms : List ToServer) → Goes u d k l ms → WriteGoes k l ms → (m : ToServer) → m.client ≡ d → In (message.ToServer m) u.sent → Writes m l
      old _ _ (same l ms i epoch sn req asked most) x m own at some inc r is now seen n number = its_still k l n (same_write k l ms x epoch sn) (h m own at (omega (arith, some, epoch)) (inc ∙ i) r is (now ∙ epoch) (seen ∙ sn) n number)
      old _ _ (locks point hi g free reach) x m own at some inc r is now seen n number = h m own at some inc r is now seen n number
      old _ _ (adopts epoch ms o a p i b lt most) x m own at some inc r is now seen n number = absurd (let y = ((has_said u d k ru runs).requests m own at inc r is).0 in omega (arith, y, lt, now))
      old _ _ (accepts what ms o a p i b most) x m own at some inc r is now seen n number = absurd (let f = accepted_seen k what in let f0 = f.0 in let y = ((has_said u d k ru runs).requests m own at (inc ∙ f.2) r is).1 (now ∙ f.1) in omega (arith, y, seen, f0))

goes_on : (u : State) (d : ℕ) (k l : Client) (ms : List ToServer) → IsReachable u → client_of u d ≡ Some k → Goes u d k l ms → WriteGoes k l ms → Awaits u → Awaits (with_client u d (Some l) ms)
goes_on u d k l ms ru i g x h = record {
  says = λ c k1. by_place u d _ c k1 (Says (with_client u d (Some l) ms) c k1)
      (λ e f. subst (λ y. Says (with_client u d (Some l) ms) y k1) (sym e) (subst (Says (with_client u d (Some l) ms) d) (some_is l k1 f) (goes_says u ru d k i (with_client u d (Some l) ms) (h.says d k i) l ms refl g x)))
      (λ ne f. says_by_clients u (with_client u d (Some l) ms) c k1 ms refl (λ m at own. absurd (ne (sym own ∙ goes_mine u d k l ms m g at ∙ (has_said u d k ru i).number))) (h.says c k1 f));
  pending = λ s c k1 up. by_place u d _ c k1 (Pending s c k1)
      (λ e f. subst (λ y. Pending s y k1) (sym e) (subst (Pending s d) (some_is l k1 f) (goes_pending u ru d k i s up ((agrees u ru).knows s d k up i) (h.pending s d k up i) l ms g x)))
      (λ ne f. h.pending s c k1 up f);
}

reads_on : (u : State) (old new : Server) (m : ToServer) (outs : List ToClient) (writes : List AppliedWrite) → IsReachable u → u.server ≡ Up old → In (message.ToServer m) u.sent → ServerStep old m new outs → Awaits u → Awaits (served u (Up new) outs writes)
reads_on u old new m outs writes ru up at step h = let order = in_order u old ru up in let a = agrees u ru in record {
  says = λ c k runs. says_by_server u (served u (Up new) outs writes) c k outs refl (h.says c k runs);
  pending = λ s c k e runs. subst (λ y. Pending y c k) (same_up new s e)
      (λ now. step_pending old new m outs c k order.0 order.1 step (λ own. heard_of u old c k m ru up runs (a.within c k runs) at own)
      (λ own. h.says c k runs m own at) (a.knows old c k up runs) (h.pending old c k up runs) now);
}

hello_silent : (u : State) (d : ℕ) (m : ToServer) → In m (hello u d) → write_said m.body ≡ None
hello_silent u d m at = one_silent _ refl m at

starts_on : (u : State) (d : ℕ) → IsReachable u → Awaits u → Awaits (seated u d (new_place u d) (hello u d))
starts_on u d ru h = record {
  says = λ c k. by_place u d (new_place u d) c k (Says (seated u d (new_place u d) (hello u d)) c k)
      (λ e f m own at some inc r is now seen n number. absurd (let x : 0 ≡ k.epoch = ap (λ (y : Client). y.epoch) (some_is (begun d (suc (u.places d).last_incarnation)) k f) in omega (arith, x, some)))
      (λ ne f. says_by_clients u (seated u d (new_place u d) (hello u d)) c k (hello u d) refl (λ m at own. hello_silent u d m at) (h.says c k f));
  pending = λ s c k up. by_place u d (new_place u d) c k (Pending s c k)
      (λ e f now. absurd (let x : 0 ≡ k.epoch = ap (λ (y : Client). y.epoch) (some_is (begun d (suc (u.places d).last_incarnation)) k f) in let y = (in_order u s ru up).0.begun in omega (arith, x, y, now)))
      (λ ne f. h.pending s c k up f);
}

does_on : (u v : State) → IsReachable u → Does u v → Awaits u → Awaits v
does_on u _ ru rests h = h
does_on u _ ru (goes d k l ms i g x) h = goes_on u d k l ms ru i g x h
does_on u _ ru (starts d down) h = starts_on u d ru h
does_on u _ ru (ends d number ms most silent) h = record {
  says = λ c k. by_place u d _ c k (Says (with_client u d None ms) c k) (λ e f. absurd (let bad : None ≡ Some k = f in cc))
      (λ ne f. says_by_clients u (with_client u d None ms) c k ms refl (λ m at own. silent m at) (h.says c k f));
  pending = λ s c k up. by_place u d _ c k (Pending s c k) (λ e f. absurd (let bad : None ≡ Some k = f in cc)) (λ ne f. h.pending s c k up f);
}
does_on u _ ru (reads old new m outs writes up at step) h = reads_on u old new m outs writes ru up at step h
does_on u _ ru (nudges s d up) h = record {
  says = λ c k runs. says_by_server u (served u (Up s) (nudge s d) []) c k (nudge s d) refl (h.says c k runs);
  pending = λ t c k e runs. h.pending t c k (up ∙ e) runs;
}
does_on u _ ru (stops s up) h = record {
  says = λ c k runs. says_by_server u (served u (Down s.durable) [] []) c k [] refl (h.says c k runs);
  pending = λ t c k e runs. absurd (cc);
}
does_on u _ ru (begins d up) h = record {
  says = λ c k runs. says_by_server u (served u (Up (start d)) [] []) c k [] refl (h.says c k runs);
  pending = λ t c k e runs. subst (λ y. Pending y c k) (same_up (start d) t e) (λ now b f n. absurd (let bad : None ≡ Some b = f in cc));
}

first_awaits : (d : Durable) → Awaits (opened d)
unfolding opened
first_awaits d = record {
  says = λ c k runs. absurd (cc);
  pending = λ s c k up runs. absurd (cc);
}

pub awaits : (u : State) → IsReachable u → Awaits u
awaits = by_reaching Awaits (λ d h. first_awaits d) (λ w v s answer r h t. does_on w v r (does w v s answer t) h)
    (λ w d l r h e fits. record { says = h.says; pending = λ s c k up runs. absurd (cc) })

pub pushes_are_awaited : PushesAreAwaited
pushes_are_awaited w s c k b h up runs now = (awaits w h).pending s c k up runs now b
