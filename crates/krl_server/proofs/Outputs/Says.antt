-- What a step changes and sends.
use Rattle.krl_server.proofs.Names.{◌≡◌, ◌≢◌, ℕ, zero, suc, ◌+◌, ◌≤◌, ◌<◌, Bool, true, false, not, ◌||◌, ◌↔◌, Some, List, [], ◌∷◌, inl, inr, refl, sym, ap, subst, ◌∙◌, ⊎_elim, arith, nat_eq, ne_eqb}
use Rattle.krl_server.proofs.Names.{eqb-false, and_parts, or_parts, none-some, same_Some, nat_lt, is_some, if◌then◌else◌, END, compatible, cap, ToServer, ToClient, PushBody, Waiter, eq_cases}
use Rattle.krl_server.proofs.Names.{slot_of, span_of, slots, op_key, In, in_both, in_left, in_right, max_clients, mode_at, front_of, wanted, front_dropped, reached_slots, granted, asks_absent}
use Rattle.krl_server.proofs.Names.{is_wanted_compatible, Session, Server, Case, Ignored, Registers, Leaves, Tells, Alarms, Rebuilds, Repeats, Acknowledges, Lowers, Waits, Judges, SeizesLock, AnswersAgain}
use Rattle.krl_server.proofs.Names.{case_of, Done, silent, with_session, with_rows, holding, holdings, acknowledged, push_to, callback_to, pushes, effect, can_push, Turn, next_turn, tells_absent}
use Rattle.krl_server.proofs.Names.{grants, is_compatible, callbacks_from, callbacks_for, callbacks_at, callbacks_among, callbacks, changes_durable, IsCallback, IsNextPush, ServerSays, following}
use Rattle.krl_messages.specs.declared.to_client.PushBody.TheVariants as push
use Rattle.krl_server.proofs.Updates.{session_here}
use Rattle.krl_server.proofs.Turns.{turn_is}
use Rattle.krl_server.proofs.Outputs.Ends.{pushes_durable}
use Rattle.krl_server.proofs.Invariant.Kept.{ends_durable}
use Rattle.krl_server.proofs.Tests.{if_both}

effect_durable : (s : Server) (m : ToServer) (k : Case) → changes_durable k ≡ false → (effect s m k).server.durable ≡ s.durable
effect_durable s m Ignored e = refl
effect_durable s m Registers e = absurd (cc)
effect_durable s m Leaves e = absurd (cc)
effect_durable s m Tells e = refl
effect_durable s m Alarms e = refl
effect_durable s m (Rebuilds pieces) e = refl
effect_durable s m (Repeats body) e = refl
effect_durable s m Acknowledges e = refl
effect_durable s m (Lowers span keep) e = refl
effect_durable s m (Waits req point hi g) e = refl
effect_durable s m (Judges number op o) e = absurd (cc)
effect_durable s m (SeizesLock number op) e = absurd (cc)
effect_durable s m (AnswersAgain number op o) e = let t = acknowledged s m.client in pushes_durable t m.client (push.Answer number o (holding t (slot_of t.durable.index (op_key op)) m.client))

-- Callbacks

module _ (s : Server) (n : ℕ) (u : Waiter) where
  abbrev call : ℕ → ToClient
  call d = callback_to s d (span_of s.durable.index n) (cap (wanted (s.rows n) u))

  -- the clients from d on, k of them, whose modes are not compatible with the waiter's
  from_is : (d k : ℕ) (o : ToClient) → In o (callbacks_from s n u d k) → (e : ℕ) × (d ≤ e) × (e < d + k) × (is_compatible s n u e ≡ false) × (o ≡ call e)
  from_is d zero o at = absurd at
  from_is d (suc k) o at = by_compatible (is_compatible s n u d) refl (from_is (suc d) k o) at
    where
      by_compatible : (b : Bool) → is_compatible s n u d ≡ b → (In o (callbacks_from s n u (suc d) k) → (e : ℕ) × (suc d ≤ e) × (e < suc d + k) × (is_compatible s n u e ≡ false) × (o ≡ call e)) → In o (if b then callbacks_from s n u (suc d) k else call d ∷ callbacks_from s n u (suc d) k) → (e : ℕ) × (d ≤ e) × (e < d + suc k) × (is_compatible s n u e ≡ false) × (o ≡ call e)
      by_compatible true f ih h = let x = ih h in (x.0, omega (arith, x.1), omega (arith, x.2), x.3, x.4)
      by_compatible false f ih (inl e) = (d, omega arith, omega arith, f, e)
      by_compatible false f ih (inr h) = let x = ih h in (x.0, omega (arith, x.1), omega (arith, x.2), x.3, x.4)

  from_has : (d k e : ℕ) → d ≤ e → e < d + k → is_compatible s n u e ≡ false → In (call e) (callbacks_from s n u d k)
  from_has d zero e low high f = absurd (omega (arith, low, high))
  from_has d (suc k) e low high f = eq_cases d e
      (λ same. let g : is_compatible s n u d ≡ false = ap (is_compatible s n u) same ∙ f in
      subst (λ x. In (call x) (callbacks_from s n u d (suc k))) same
      (subst (λ b. In (call d) (if b then callbacks_from s n u (suc d) k else call d ∷ callbacks_from s n u (suc d) k)) (sym g) (inl refl)))
      (λ ne. let later = from_has (suc d) k e (omega (arith, ne, low)) (omega (arith, high)) f in
      if_both (λ xs. In (call e) xs) (is_compatible s n u d) (callbacks_from s n u (suc d) k) (call d ∷ callbacks_from s n u (suc d) k) later (inr later))

-- what the machine's words state of one slot
blocked : (s : Server) (n : ℕ) (u : Waiter) (d : ℕ) → is_compatible s n u d ≡ false → (d ≢ u.client) × (compatible (wanted (s.rows n) u) (mode_at s.rows n d) ≡ false)
blocked s n u d e = let x = or_parts (nat_eq d u.client) (compatible (wanted (s.rows n) u) (mode_at s.rows n d)) e in (eqb-false d u.client x.0, x.1)

not_compatible : (s : Server) (n : ℕ) (u : Waiter) (d : ℕ) → d ≢ u.client → compatible (wanted (s.rows n) u) (mode_at s.rows n d) ≡ false → is_compatible s n u d ≡ false
not_compatible s n u d ne e = ap (λ b. b || compatible (wanted (s.rows n) u) (mode_at s.rows n d)) (ne_eqb d u.client ne) ∙ e

at_is : (s : Server) (n : ℕ) (us : List Waiter) (o : ToClient) → In o (callbacks_at s n us) → (u : Waiter) × (d : ℕ) × (front_of us ≡ Some u) × (asks_absent s.durable.index u ≡ false) × (d < max_clients) × (is_compatible s n u d ≡ false) × (o ≡ call s n u d)
at_is s n [] o at = absurd at
at_is s n (u ∷ us) o at = by_absent (asks_absent s.durable.index u) refl at
  where
    by_absent : (b : Bool) → asks_absent s.durable.index u ≡ b → In o (if b then [] else callbacks_from s n u 0 max_clients) → (v : Waiter) × (d : ℕ) × (Some u ≡ Some v) × (asks_absent s.durable.index v ≡ false) × (d < max_clients) × (is_compatible s n v d ≡ false) × (o ≡ call s n v d)
    by_absent true e h = absurd h
    by_absent false e h = let x = from_is s n u 0 max_clients o h in (u, x.0, refl, e, omega (arith, x.2), x.3, x.4)

at_has : (s : Server) (n : ℕ) (us : List Waiter) (u : Waiter) (d : ℕ) → front_of us ≡ Some u → asks_absent s.durable.index u ≡ false → d < max_clients → is_compatible s n u d ≡ false → In (call s n u d) (callbacks_at s n us)
at_has s n [] u d e asks lt f = absurd (none-some u e)
at_has s n (v ∷ us) u d e asks lt f = subst (λ w. In (call s n u d) (callbacks_for s n w)) (sym (same_Some v u e))
    (subst (λ b. In (call s n u d) (if b then [] else callbacks_from s n u 0 max_clients)) (sym asks) (from_has s n u 0 max_clients d (omega arith) (omega (arith, lt)) f))

among_is : (s : Server) (ns : List ℕ) (o : ToClient) → In o (callbacks_among s ns) → (n : ℕ) × In n ns × In o (callbacks_at s n (s.rows n).queue)
among_is s [] o at = absurd at
among_is s (n ∷ ns) o at = ⊎_elim
    (λ (h : In o (callbacks_at s n (s.rows n).queue)). (n, inl refl, h))
    (λ (h : In o (callbacks_among s ns)). let x = among_is s ns o h in (x.0, inr x.1, x.2))
    (in_both (callbacks_at s n (s.rows n).queue) (callbacks_among s ns) o at)

among_has : (s : Server) (ns : List ℕ) (n : ℕ) (o : ToClient) → In n ns → In o (callbacks_at s n (s.rows n).queue) → In o (callbacks_among s ns)
among_has s [] n o at h = absurd at
among_has s (k ∷ ns) n o (inl e) h = in_left (callbacks_at s k (s.rows k).queue) (callbacks_among s ns) o (subst (λ x. In o (callbacks_at s x (s.rows x).queue)) e h)
among_has s (k ∷ ns) n o (inr at) h = in_right (callbacks_at s k (s.rows k).queue) (callbacks_among s ns) o (among_has s ns n o at h)

callbacks_are : (s : Server) (o : ToClient) → In o (callbacks s) ↔ IsCallback s o
callbacks_are s o = (
  (λ at. let x = among_is s (slots s.durable.index) o at in
      let y = at_is s x.0 (s.rows x.0).queue o x.2 in
      let z = blocked s x.0 y.0 y.1 y.5 in
      (x.0, y.0, y.1, record { slot = x.1; first = y.2; asks = y.3; client = y.4; other = z.0; bars = z.1 }, y.6)),
  (λ x. let b = x.3 in
      among_has s (slots s.durable.index) x.0 o b.slot
      (subst (λ y. In y (callbacks_at s x.0 (s.rows x.0).queue)) (sym x.4) (at_has s x.0 (s.rows x.0).queue x.1 x.2 b.first b.asks b.client (not_compatible s x.0 x.1 x.2 b.other b.bars)))),
)

-- Answers

abbrev IsPush : Server → ℕ → Done → Type 0
IsPush s c done = (body : PushBody) × (done.outs ≡ push_to s c (suc (s.sessions c).last_push) body ∷ []) × ((done.server.sessions c).last_push ≡ suc (s.sessions c).last_push) × ((done.server.sessions c).unacked ≡ Some body)

one_push : (s : Server) (c : ℕ) (body : PushBody) → nat_lt (s.sessions c).last_push END ≡ true →
    IsPush s c (pushes s c body)
one_push s c body lt =
    let session : Session = record (s.sessions c) { last_push = suc (s.sessions c).last_push; unacked = Some body } in
    let after_push : Done = record {
      server = with_session s c session;
      outs = push_to s c (suc (s.sessions c).last_push) body ∷ [];
    } in
    subst (λ b. IsPush s c (if b then after_push else silent s)) (sym lt)
    (body, refl, ap (λ y. y.last_push) (session_here s.sessions c session), ap (λ y. y.unacked) (session_here s.sessions c session))

answer_is : (s : Server) (t : Turn) → next_turn s ≡ Some t → IsNextPush s t
answer_is s t e =
    let x = turn_is s t e in
    let c = t.waiter.client in
    let lt = (and_parts (not (is_some (s.sessions c).unacked)) (nat_lt (s.sessions c).last_push END) (and_parts (can_push (s.sessions c)) (asks_absent s.durable.index t.waiter || is_wanted_compatible s.rows t.slot t.waiter) x.answerable).0).1 in
    if_both (λ (d : Done). IsPush s c d) (asks_absent s.durable.index t.waiter) (tells_absent s t) (grants s t)
    (one_push (with_rows s (front_dropped s.rows t.slot)) c (push.Absent t.waiter.req t.waiter.point) lt)
    (let g = with_rows s (granted s.durable.reach s.durable.index s.rows t.slot) in one_push g c (push.Grant t.waiter.req (holdings g c (reached_slots s.durable.reach s.durable.index s.rows t.slot))) lt)

pub all_said : ServerSays
all_said = record {
  durable = λ s t m outs e step. ends_durable (effect s m (case_of s m)) (following (case_of s m)) t outs step ∙ effect_durable s m (case_of s m) e;
  callbacks = callbacks_are;
  answer = answer_is;
}
