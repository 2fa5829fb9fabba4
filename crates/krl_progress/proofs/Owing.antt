-- What a client is owed: the reply to its lock request, and the answer to its write. Each push that it accepts pays one.
use Rattle.krl_progress.proofs.Names.{◌≡◌, ◌≢◌, ℕ, suc, ◌≤◌, ◌<◌, ◌+◌, ◌⊎◌, inl, inr, ⊎_elim, ◌∙◌, Bool, true, false, Option, Some, None, is_some, List, refl, sym, ap, subst, arith, nat_eq, if◌then◌else◌, eq_cases, eq-eqb, ne_eqb, In}
use Rattle.krl_progress.proofs.Names.{ToServer, ToClient, Client, State, ClientPlace, client_of, with_client, IsReachable, WriteOp}
use Rattle.krl_messages.specs.declared.to_client.PushBody.{PushBody}
use Rattle.krl_messages.specs.declared.to_client.PushBody.TheVariants as push
use Rattle.krl_messages.specs.declared.to_client.ToClientBody.TheVariants as told
use Rattle.krl_client.specs.Clients.{is_waiting, outstanding, Granted, Absent, begun}
use Rattle.krl_client.specs.Messages.{accepted, joined}
use Rattle.krl_world.specs.declared.message.Message.TheVariants as message
use Rattle.krl_progress.specs.Requests.{IsAwaited}
use Rattle.krl_progress.specs.Locks.{IsUndisturbed}
use Rattle.krl_progress.proofs.Moves.{Moves, client_goes_on}
use Rattle.krl_progress.proofs.Standings.{standing}
use Rattle.krl_progress.proofs.Doings.{Goes, same, locks, adopts, accepts, WriteGoes, Does, rests, goes, starts, ends, reads, nudges, stops, begins}
use Rattle.krl_progress.proofs.Seated.{not_waiting_on}
use Rattle.krl_progress.proofs.Agreed.{new_place}
use Rattle.krl_progress.proofs.Awaited.{accepted_seen}
use Rattle.krl_progress.proofs.Answering.{judged_now, replied, came}
use Rattle.krl_progress.proofs.WritesMove.{nobody_listed}

abbrev pub count : Bool → ℕ
count true = 1
count false = 0

pub count_low : (b : Bool) → count b ≤ 1
count_low true = omega arith
count_low false = omega arith

-- Of a client in this epoch: whether it waits for a lock, whether a write is outstanding, and the pushes it has accepted

abbrev pub waits_by : ℕ → Option Client → ℕ
waits_by e None = 0
waits_by e (Some k) = if nat_eq k.epoch e then count (is_waiting k.asked) else 0

abbrev pub writes_by : ℕ → Option Client → ℕ
writes_by e None = 0
writes_by e (Some k) = if nat_eq k.epoch e then count (is_some (outstanding k.written)) else 0

abbrev pub seen_by : ℕ → Option Client → ℕ
seen_by e None = 0
seen_by e (Some k) = if nat_eq k.epoch e then k.seen else 0

abbrev pub owed_by : ℕ → Option Client → ℕ
owed_by e o = waits_by e o + writes_by e o

choice_low : (b x : Bool) → (if b then count x else 0) ≤ 1
choice_low true x = count_low x
choice_low false x = omega arith

pub owed_low : (e : ℕ) (o : Option Client) → owed_by e o ≤ 2
owed_low e None = omega arith
owed_low e (Some k) = let a = choice_low (nat_eq k.epoch e) (is_waiting k.asked) in let b = choice_low (nat_eq k.epoch e) (is_some (outstanding k.written)) in omega (arith, a, b)

-- it is owed no more than before, and less if it has accepted a push
pub record Pays (e : ℕ) (old new : Option Client) : Type 0 where
  pub waits : waits_by e new ≤ waits_by e old
  pub writes : writes_by e new ≤ writes_by e old
  pub seen : (seen_by e new ≡ seen_by e old) ⊎ (owed_by e new < owed_by e old)

pays_same : (e : ℕ) (o : Option Client) → Pays e o o
pays_same e o = record { waits = omega arith; writes = omega arith; seen = inl refl }

module _ (e : ℕ) (k : Client) where
  module _ (here : k.epoch ≡ e) where
    pub waits_here : waits_by e (Some k) ≡ count (is_waiting k.asked)
    waits_here = ap (λ b. if b then count (is_waiting k.asked) else 0) (eq-eqb k.epoch e here)

    writes_here : writes_by e (Some k) ≡ count (is_some (outstanding k.written))
    writes_here = ap (λ b. if b then count (is_some (outstanding k.written)) else 0) (eq-eqb k.epoch e here)

    pub seen_here : seen_by e (Some k) ≡ k.seen
    seen_here = ap (λ b. if b then k.seen else 0) (eq-eqb k.epoch e here)

  module _ (away : k.epoch ≢ e) where
    pub waits_away : waits_by e (Some k) ≡ 0
    waits_away = ap (λ b. if b then count (is_waiting k.asked) else 0) (ne_eqb k.epoch e away)

    writes_away : writes_by e (Some k) ≡ 0
    writes_away = ap (λ b. if b then count (is_some (outstanding k.written)) else 0) (ne_eqb k.epoch e away)

    pub seen_away : seen_by e (Some k) ≡ 0
    seen_away = ap (λ b. if b then k.seen else 0) (ne_eqb k.epoch e away)

pays_here : (e : ℕ) (k l : Client) → k.epoch ≡ e → l.epoch ≡ e → count (is_waiting l.asked) ≤ count (is_waiting k.asked) → count (is_some (outstanding l.written)) ≤ count (is_some (outstanding k.written)) → (l.seen ≡ k.seen) ⊎ (count (is_waiting l.asked) + count (is_some (outstanding l.written)) < count (is_waiting k.asked) + count (is_some (outstanding k.written))) → Pays e (Some k) (Some l)
pays_here e k l here there waits writes seen =
    let a = waits_here e k here in let b = waits_here e l there in let x = writes_here e k here in let y = writes_here e l there in record {
      waits = omega (arith, a, b, waits);
      writes = omega (arith, x, y, writes);
      seen = ⊎_elim (λ (s : l.seen ≡ k.seen). inl (seen_here e l there ∙ s ∙ sym (seen_here e k here)))
          (λ (s : count (is_waiting l.asked) + count (is_some (outstanding l.written)) < count (is_waiting k.asked) + count (is_some (outstanding k.written))). inr (omega (arith, a, b, x, y, s))) seen;
    }

-- a client that is owed nothing afterwards, and had accepted as much before
pays_none : (e : ℕ) (old new : Option Client) → waits_by e new ≡ 0 → writes_by e new ≡ 0 → seen_by e new ≡ seen_by e old → Pays e old new
pays_none e old new a b s = record { waits = omega (arith, a); writes = omega (arith, b); seen = inl s }

pays_away : (e : ℕ) (k l : Client) → k.epoch ≢ e → l.epoch ≢ e → Pays e (Some k) (Some l)
pays_away e k l away gone = pays_none e (Some k) (Some l) (waits_away e l gone) (writes_away e l gone) (seen_away e l gone ∙ sym (seen_away e k away))

-- A push that is awaited pays

pub record PaysOne (k l : Client) : Type 0 where
  pub waits : count (is_waiting l.asked) ≤ count (is_waiting k.asked)
  pub writes : count (is_some (outstanding l.written)) ≤ count (is_some (outstanding k.written))
  pub less : count (is_waiting l.asked) + count (is_some (outstanding l.written)) < count (is_waiting k.asked) + count (is_some (outstanding k.written))

pays_reply : (k l : Client) → is_waiting k.asked ≡ true → is_waiting l.asked ≡ false → l.written ≡ k.written → PaysOne k l
pays_reply k l w free alike = let a = ap count w in let b = ap count free in let c = ap (λ x. count (is_some (outstanding x))) alike in
    record { waits = omega (arith, a, b); writes = omega (arith, c); less = omega (arith, a, b, c) }

pub accepted_pays : (k : Client) (b : PushBody) → IsAwaited k b → PaysOne k (accepted k b)
accepted_pays k (push.Grant r hs) a = pays_reply k (accepted k (push.Grant r hs)) a.0 (replied k r Granted refl a.0 a.1) refl
accepted_pays k (push.Absent r point) a = pays_reply k (accepted k (push.Absent r point)) a.0 (replied k r Absent refl a.0 a.1) refl
accepted_pays k (push.Answer n o y) a =
    let l = accepted k (push.Answer n o y) in
    let was = ap count a.0 in let now : count (is_some (outstanding l.written)) ≡ 0 = ap (λ x. count (is_some x)) (judged_now k n o k.written a.0 a.1) in
    let alike : count (is_waiting l.asked) ≡ count (is_waiting k.asked) = refl in
    record { waits = omega (arith, alike); writes = omega (arith, was, now); less = omega (arith, was, now, alike) }

-- What becomes of a client

pub no_more : (k l : Client) (ms : List ToServer) → WriteGoes k l ms → l.writes ≡ k.writes → count (is_some (outstanding l.written)) ≤ count (is_some (outstanding k.written))
no_more k l ms x alike = by_option (outstanding k.written) refl
  where
    by_option : (o : Option WriteOp) → outstanding k.written ≡ o → count (is_some (outstanding l.written)) ≤ count (is_some o)
    by_option None e = let none = ap (λ y. count (is_some y)) (x.ends alike e) in omega (arith, none)
    by_option (Some op) e = count_low (is_some (outstanding l.written))

module _ (e : ℕ) (u : State) (d : ℕ) (k : Client) (no_write : k.epoch ≢ e → outstanding k.written ≡ None) (awaited : k.epoch ≡ e → (b : PushBody) (m : ToClient) → In (message.ToClient m) u.sent → m.client ≡ d → m.incarnation ≡ k.incarnation → m.body ≡ told.Push k.epoch (suc k.seen) b → IsAwaited k b) where
  goes_pays : (l : Client) (ms : List ToServer) → Goes u d k l ms → WriteGoes k l ms → l.epoch ≤ e → (k.epoch ≡ e → l.epoch ≡ e → (l.req ≡ k.req) × (l.writes ≡ k.writes)) → Pays e (Some k) (Some l)
  goes_pays _ _ (same l ms inc epoch seen req asked most) x below alone = eq_cases k.epoch e
      (λ here. let there = epoch ∙ here in let a = ap (λ y. count (is_waiting y)) asked in pays_here e k l here there (omega (arith, a)) (no_more k l ms x (alone here there).1) (inl seen))
      (λ away. pays_away e k l away (λ f. away (sym epoch ∙ f)))
  goes_pays _ _ (locks point hi g free reach) x below alone = eq_cases k.epoch e
      (λ here. absurd (let y = (alone here here).0 in omega (arith, y)))
      (λ away. pays_away e k _ away away)
  goes_pays _ _ (adopts epoch ms m at own inc is lt most) x below alone =
      let away : k.epoch ≢ e = λ f. omega (arith, f, lt, below) in
      eq_cases epoch e
      (λ there. pays_none e (Some k) (Some (joined k epoch))
      (waits_here e (joined k epoch) there ∙ ap count (not_waiting_on k.asked))
      (writes_here e (joined k epoch) there ∙ ap (λ y. count (is_some y)) (no_write away))
      (seen_here e (joined k epoch) there ∙ sym (seen_away e k away)))
      (λ gone. pays_away e k (joined k epoch) away gone)
  goes_pays _ _ (accepts b ms m at own inc is most) x below alone = let same_epoch = (accepted_seen k b).1 in eq_cases k.epoch e
      (λ here. let p = accepted_pays k b (awaited here b m at own inc is) in pays_here e k (accepted k b) here (same_epoch ∙ here) p.waits p.writes (inr p.less))
      (λ away. pays_away e k (accepted k b) away (λ f. away (sym same_epoch ∙ f)))

-- A step of the world

pub at_place : (u : State) (d : ℕ) (x : ClientPlace) (c : ℕ) (P : Option Client → Option Client → Type 0) → (c ≡ d → P (client_of u c) x.client) → ((o : Option Client) → P o o) → P (client_of u c) (if nat_eq c d then x else u.places c).client
at_place u d x c P own other = eq_cases c d
    (λ f. subst (P (client_of u c)) (sym (ap (λ b. (if b then x else u.places c).client) (eq-eqb c d f))) (own f))
    (λ ne. subst (P (client_of u c)) (sym (ap (λ b. (if b then x else u.places c).client) (ne_eqb c d ne))) (other (client_of u c)))

module _ (reqs writes : ℕ → ℕ) (e : ℕ) (u v : State) (ru : IsReachable u) (rv : IsReachable v) (q : IsUndisturbed reqs writes u) (g : IsUndisturbed reqs writes v) (eu : q.server.durable.epoch ≡ e) (ev : g.server.durable.epoch ≡ e) where
  -- a client's own step
  client_pays : (d : ℕ) (k l : Client) (ms : List ToServer) → client_of u d ≡ Some k → client_of v d ≡ Some l → Goes u d k l ms → WriteGoes k l ms → Pays e (Some k) (Some l)
  client_pays d k l ms i j x y =
      goes_pays e u d k (λ away. no_write away (outstanding k.written) refl)
      (λ here b m at own inc is. came u q.server d k b m ru q.up i (here ∙ sym eu) at own inc is)
      l ms x y (let z = (standing v g.server d l rv g.up j).epoch in omega (arith, z, ev)) alone
    where
      no_write : k.epoch ≢ e → (o : Option WriteOp) → outstanding k.written ≡ o → o ≡ None
      no_write away None f = refl
      no_write away (Some op) f = absurd (away ((standing u q.server d k ru q.up i).writing (nobody_listed q.server.missing d q.serves) op f ∙ eu))

      alone : k.epoch ≡ e → l.epoch ≡ e → (l.req ≡ k.req) × (l.writes ≡ k.writes)
      alone here there =
          let a = q.undisturbed d k i (here ∙ sym eu) in let b = g.undisturbed d l j (there ∙ sym ev) in
          (b.asked ∙ sym a.asked, b.written ∙ sym a.written)

starts_pay : (e : ℕ) (k : Client) (o : Option Client) → o ≡ None → k.epoch ≢ e → Pays e o (Some k)
starts_pay e k o none away = pays_none e o (Some k) (waits_away e k away) (writes_away e k away) (seen_away e k away ∙ sym (ap (seen_by e) none))

pub step_pays : (reqs writes : ℕ → ℕ) (e : ℕ) (u v : State) → IsReachable u → IsReachable v → (q : IsUndisturbed reqs writes u) → (g : IsUndisturbed reqs writes v) → q.server.durable.epoch ≡ e → g.server.durable.epoch ≡ e → 1 ≤ e → Moves false u v → Does u v → (c : ℕ) → Pays e (client_of u c) (client_of v c)
step_pays reqs writes e u _ ru rv q g eu ev some moved rests c = pays_same e (client_of u c)
step_pays reqs writes e u _ ru rv q g eu ev some moved (goes d k l ms i x y) c = at_place u d _ c (Pays e)
    (λ f. let here : client_of (with_client u d (Some l) ms) d ≡ Some l = ap (λ b. (if b then (let z : ClientPlace = record { last_incarnation = (u.places d).last_incarnation; client = Some l } in z) else u.places d).client) (eq-eqb d d refl) in
    subst (λ o. Pays e o (Some l)) (sym (ap (client_of u) f ∙ i)) (client_pays reqs writes e u (with_client u d (Some l) ms) ru rv q g eu ev d k l ms i here x y))
    (pays_same e)
step_pays reqs writes e u _ ru rv q g eu ev some moved (starts d down) c = at_place u d (new_place u d) c (Pays e)
    (λ f. starts_pay e (begun d (suc (u.places d).last_incarnation)) (client_of u c) (ap (client_of u) f ∙ down) (λ z. omega (arith, z, some)))
    (pays_same e)
step_pays reqs writes e u _ ru rv q g eu ev some moved (ends d number ms most silent) c = at_place u d _ c (Pays e)
    (λ f. by_client (client_of u c) refl f)
    (pays_same e)
  where
    by_client : (o : Option Client) → client_of u c ≡ o → c ≡ d → Pays e o None
    by_client None i f = pays_same e None
    by_client (Some k) i f = absurd (let x = client_goes_on u (with_client u d None ms) c k moved i in
        let gone : client_of (with_client u d None ms) c ≡ None = ap (λ b. (if b then (let z : ClientPlace = record { last_incarnation = (u.places d).last_incarnation; client = None } in z) else u.places c).client) (eq-eqb c d f) in
        let bad : None ≡ Some x.0 = sym gone ∙ x.1 in cc)
step_pays reqs writes e u _ ru rv q g eu ev some moved (reads old new m outs applied up at step) c = pays_same e (client_of u c)
step_pays reqs writes e u _ ru rv q g eu ev some moved (nudges s d up) c = pays_same e (client_of u c)
step_pays reqs writes e u _ ru rv q g eu ev some moved (stops s up) c = pays_same e (client_of u c)
step_pays reqs writes e u _ ru rv q g eu ev some moved (begins d up) c = pays_same e (client_of u c)
