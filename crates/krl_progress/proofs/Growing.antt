-- What a client that runs has become after a run in which no node goes: its numbers count on.
use Rattle.krl_progress.proofs.Names.{◌≡◌, ℕ, zero, suc, ◌≤◌, inl, inr, ⊎_elim, ◌∙◌, false, Some, None, List, [], ◌∷◌, length, refl, sym, ap, subst, arith, In}
use Rattle.krl_progress.proofs.Names.{ToServer, Client, Step, State, client_of, Runs}
use Rattle.krl_client.specs.Clients.{outstanding}
use Rattle.krl_progress.specs.Rounds.{loses_a_node, Rounds}
use Rattle.krl_progress.proofs.Moves.{Moves, moves, client_goes_on, some_is}
use Rattle.krl_progress.proofs.Doings.{Goes, same, locks, adopts, accepts, accepted_same, WriteGoes, Does, rests, goes, starts, ends, reads, nudges, stops, begins, does}
use Rattle.krl_progress.proofs.Agreed.{by_place, new_place}
use Rattle.krl_progress.proofs.Awaited.{accepted_seen}

pub record Grows (k l : Client) : Type 0 where
  pub epoch : k.epoch ≤ l.epoch
  pub seen : l.epoch ≡ k.epoch → k.seen ≤ l.seen
  pub asks : l.epoch ≡ k.epoch → k.req ≤ l.req
  pub writes : k.writes ≤ l.writes
  pub answered : l.writes ≡ k.writes → outstanding k.written ≡ None → outstanding l.written ≡ None

stays_so : (k : Client) → Grows k k
stays_so k = record { epoch = omega arith; seen = λ e. omega arith; asks = λ e. omega arith; writes = omega arith; answered = λ e f. f }

then : (k l m : Client) → Grows k l → Grows l m → Grows k m
then k l m g h = record {
  epoch = let a = g.epoch in let b = h.epoch in omega (arith, a, b);
  seen = λ e. let a = g.epoch in let b = h.epoch in let x = g.seen (omega (arith, a, b, e)) in let y = h.seen (omega (arith, a, b, e)) in omega (arith, x, y);
  asks = λ e. let a = g.epoch in let b = h.epoch in let x = g.asks (omega (arith, a, b, e)) in let y = h.asks (omega (arith, a, b, e)) in omega (arith, x, y);
  writes = let a = g.writes in let b = h.writes in omega (arith, a, b);
  answered = λ e f. let a = g.writes in let b = h.writes in h.answered (omega (arith, a, b, e)) (g.answered (omega (arith, a, b, e)) f);
}

goes_grow : (u : State) (d : ℕ) (k l : Client) (ms : List ToServer) → Goes u d k l ms → WriteGoes k l ms → Grows k l
goes_grow u d k l ms g x = record {
  epoch = epoch_of l ms g;
  seen = seen_of l ms g;
  asks = asks_of l ms g;
  writes = ⊎_elim (λ (y : l.writes ≡ k.writes). omega (arith, y)) (λ (y : l.writes ≡ suc k.writes). omega (arith, y)) x.number;
  answered = x.ends;
}
  where
    epoch_of : (l : Client) (ms : List ToServer) → Goes u d k l ms → k.epoch ≤ l.epoch
    epoch_of _ _ (same l ms i epoch sn req asked most) = omega (arith, epoch)
    epoch_of _ _ (locks point hi g free reach) = omega arith
    epoch_of _ _ (adopts e ms m at own inc is lt most) = omega (arith, lt)
    epoch_of _ _ (accepts b ms m at own inc is most) = let a = (accepted_same k b).2 in omega (arith, a)

    seen_of : (l : Client) (ms : List ToServer) → Goes u d k l ms → l.epoch ≡ k.epoch → k.seen ≤ l.seen
    seen_of _ _ (same l ms i epoch sn req asked most) e = omega (arith, sn)
    seen_of _ _ (locks point hi g free reach) e = omega arith
    seen_of _ _ (adopts ep ms m at own inc is lt most) e = absurd (omega (arith, lt, e))
    seen_of _ _ (accepts b ms m at own inc is most) e = let a = (accepted_seen k b).0 in omega (arith, a)

    asks_of : (l : Client) (ms : List ToServer) → Goes u d k l ms → l.epoch ≡ k.epoch → k.req ≤ l.req
    asks_of _ _ (same l ms i epoch sn req asked most) e = omega (arith, req)
    asks_of _ _ (locks point hi g free reach) e = omega arith
    asks_of _ _ (adopts ep ms m at own inc is lt most) e = absurd (omega (arith, lt, e))
    asks_of _ _ (accepts b ms m at own inc is most) e = let a = (accepted_same k b).3 in omega (arith, a)

-- one step
does_grow : (u v : State) (c : ℕ) (k l : Client) → client_of u c ≡ Some k → Does u v → client_of v c ≡ Some l → Grows k l
does_grow u _ c k l i rests j = subst (Grows k) (some_is k l (sym i ∙ j)) (stays_so k)
does_grow u _ c k l i (goes d k2 l2 ms at g x) j = by_place u d _ c l (Grows k l)
    (λ e f. let here : client_of u d ≡ Some k = ap (client_of u) (sym e) ∙ i in
    subst (λ y. Grows y l) (some_is k2 k (sym at ∙ here)) (subst (Grows k2) (some_is l2 l f) (goes_grow u d k2 l2 ms g x)))
    (λ ne f. subst (Grows k) (some_is k l (sym i ∙ f)) (stays_so k)) j
does_grow u _ c k l i (starts d down) j = by_place u d (new_place u d) c l (Grows k l)
    (λ e f. absurd (let bad : None ≡ Some k = sym down ∙ ap (client_of u) (sym e) ∙ i in cc))
    (λ ne f. subst (Grows k) (some_is k l (sym i ∙ f)) (stays_so k)) j
does_grow u _ c k l i (ends d number ms most silent) j = by_place u d _ c l (Grows k l)
    (λ e f. absurd (let bad : None ≡ Some l = f in cc))
    (λ ne f. subst (Grows k) (some_is k l (sym i ∙ f)) (stays_so k)) j
does_grow u _ c k l i (reads old new m outs writes up at step) j = subst (Grows k) (some_is k l (sym i ∙ j)) (stays_so k)
does_grow u _ c k l i (nudges s d up) j = subst (Grows k) (some_is k l (sym i ∙ j)) (stays_so k)
does_grow u _ c k l i (stops s up) j = subst (Grows k) (some_is k l (sym i ∙ j)) (stays_so k)
does_grow u _ c k l i (begins d up) j = subst (Grows k) (some_is k l (sym i ∙ j)) (stays_so k)

-- it runs on
pub record RunsOn (k : Client) (v : State) (c : ℕ) : Type 0 where
  pub client : Client
  pub runs : client_of v c ≡ Some client
  pub grows : Grows k client

run_grows : (steps : List Step) (u v : State) (c : ℕ) (k : Client) → ((s : Step) → In s steps → loses_a_node s ≡ false) → client_of u c ≡ Some k → Runs u steps v → RunsOn k v c
run_grows [] u v c k calm i r = record { client = k; runs = ap (λ x. client_of x c) r ∙ i; grows = stays_so k }
run_grows (s ∷ steps) u v c k calm i r =
    let m = subst (λ b. Moves b u r.1) (calm s (inl refl)) (moves u r.1 s r.0 r.2) in
    let next = client_goes_on u r.1 c k m i in
    let rest = run_grows steps r.1 v c next.0 (λ x j. calm x (inr j)) next.1 r.3 in
    record { client = rest.client; runs = rest.runs; grows = then k next.0 rest.client (does_grow u r.1 c k next.0 i (does u r.1 s r.0 r.2) next.1) rest.grows }

pub rounds_grow : (n from : ℕ) (w v : State) (c : ℕ) (k : Client) → client_of w c ≡ Some k → Rounds n from w v → RunsOn k v c
rounds_grow zero from w v c k i r = record { client = k; runs = ap (λ x. client_of x c) r ∙ i; grows = stays_so k }
rounds_grow (suc n) from w v c k i r =
    let first = run_grows r.0 w r.1 c k r.2.stays i r.3 in
    let rest = rounds_grow n (length w.sent) r.1 v c first.client first.runs r.4 in
    record { client = rest.client; runs = rest.runs; grows = then k first.client rest.client first.grows rest.grows }
