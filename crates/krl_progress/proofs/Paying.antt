-- What all clients are owed, and that undisturbed rounds are calm or pay some of it.
use Rattle.std.proofs.lemmas.Bool.{cases_lt}
use Rattle.krl_progress.proofs.Names.{◌≡◌, ℕ, zero, suc, ◌≤◌, ◌<◌, ◌+◌, ◌⊎◌, inl, inr, ⊎_elim, ◌∙◌, false, Option, Some, None, List, [], ◌∷◌, length, refl, sym, ap, subst, arith, eq_cases, ltb-true, In}
use Rattle.krl_progress.proofs.Names.{Client, Server, Step, Answer, State, client_of, Runs, Takes, IsReachable, max_clients}
use Rattle.krl_progress.specs.Rounds.{loses_a_node}
use Rattle.krl_progress.specs.Blocks.{Throughout, RoundsWhile}
use Rattle.krl_progress.specs.Calm.{HasAsked, IsCalm}
use Rattle.krl_progress.specs.Locks.{IsUndisturbed}
use Rattle.krl_world.proofs.Refinement.ServerMoves.{way}
use Rattle.krl_progress.proofs.Moves.{Moves, moves}
use Rattle.krl_progress.proofs.Recovers.{same_up, next_reachable, server_goes_on}
use Rattle.krl_progress.proofs.CallsBack.{near_of}
use Rattle.krl_progress.proofs.Doings.{does}
use Rattle.krl_progress.proofs.Owing.{waits_by, writes_by, seen_by, owed_by, Pays, seen_here, step_pays}

-- Sums over the clients

abbrev pub total : ℕ → (ℕ → ℕ) → ℕ
total zero f = 0
total (suc n) f = f n + total n f

total_low : (n : ℕ) (f g : ℕ → ℕ) → ((c : ℕ) → f c ≤ g c) → total n f ≤ total n g
total_low zero f g h = omega arith
total_low (suc n) f g h = let a = h n in let b = total_low n f g h in omega (arith, a, b)

pub total_less : (n : ℕ) (f g : ℕ → ℕ) (d : ℕ) → d < n → ((c : ℕ) → f c ≤ g c) → f d < g d → total n f < total n g
total_less zero f g d lt h less = absurd (omega (arith, lt))
total_less (suc n) f g d lt h less = eq_cases d n
    (λ e. let a = total_low n f g h in let b = subst (λ x. f x < g x) e less in omega (arith, a, b))
    (λ ne. let a = h n in let b = total_less n f g d (omega (arith, lt, ne)) h less in omega (arith, a, b))

pub total_most : (n : ℕ) (f : ℕ → ℕ) → ((c : ℕ) → f c ≤ 2) → total n f ≤ n + n
total_most zero f h = omega arith
total_most (suc n) f h = let a = h n in let b = total_most n f h in omega (arith, a, b)

-- From one world to a later one

module _ (e : ℕ) where
  abbrev pub waits_at : State → ℕ → ℕ
  waits_at u c = waits_by e (client_of u c)

  abbrev pub writes_at : State → ℕ → ℕ
  writes_at u c = writes_by e (client_of u c)

  abbrev pub owed_at : State → ℕ → ℕ
  owed_at u c = owed_by e (client_of u c)

  abbrev pub seen_at : State → ℕ → ℕ
  seen_at u c = seen_by e (client_of u c)

  pub record IsLow (u v : State) (c : ℕ) : Type 0 where
    pub waits : waits_at v c ≤ waits_at u c
    pub writes : writes_at v c ≤ writes_at u c

  low_self : (u v : State) (c : ℕ) → v ≡ u → IsLow u v c
  low_self u v c r = let a = ap (λ z. waits_at z c) r in let b = ap (λ z. writes_at z c) r in record { waits = omega (arith, a); writes = omega (arith, b) }

  low_then : (u x v : State) (c : ℕ) → IsLow u x c → IsLow x v c → IsLow u v c
  low_then u x v c h g = let a = h.waits in let b = h.writes in let p = g.waits in let q = g.writes in record { waits = omega (arith, a, p); writes = omega (arith, b, q) }

  -- some client is owed less
  pub record IsLess (u v : State) : Type 0 where
    pub client : ℕ
    pub near : client < max_clients
    pub less : owed_at v client < owed_at u client

  less_low : (u x v : State) → IsLess u x → ((c : ℕ) → IsLow x v c) → IsLess u v
  less_low u x v h low = let a = h.less in let b = (low h.client).waits in let d = (low h.client).writes in record { client = h.client; near = h.near; less = omega (arith, a, b, d) }

  low_less : (u x v : State) → ((c : ℕ) → IsLow u x c) → IsLess x v → IsLess u v
  low_less u x v low h = let a = h.less in let b = (low h.client).waits in let d = (low h.client).writes in record { client = h.client; near = h.near; less = omega (arith, a, b, d) }

  -- no client has a number as high as this
  far : (u : State) (c : ℕ) → IsReachable u → max_clients ≤ c → seen_at u c ≡ 0
  far u c ru high = by_client (client_of u c) refl
    where
      by_client : (o : Option Client) → client_of u c ≡ o → seen_by e o ≡ 0
      by_client None i = refl
      by_client (Some k) i = absurd (let x = ltb-true c max_clients (near_of u c k ru i) in omega (arith, x, high))

  search : (u v : State) (n : ℕ) → ((c : ℕ) → Pays e (client_of u c) (client_of v c)) → ((c : ℕ) → c < n → seen_at v c ≡ seen_at u c) ⊎ ((d : ℕ) × (d < n) × (owed_at v d < owed_at u d))
  search u v zero h = inl (λ c lt. absurd (omega (arith, lt)))
  search u v (suc n) h = ⊎_elim
      (λ (same : (c : ℕ) → c < n → seen_at v c ≡ seen_at u c). ⊎_elim
      (λ (here : seen_at v n ≡ seen_at u n). inl (λ c lt. eq_cases c n (λ f. subst (λ x. seen_at v x ≡ seen_at u x) (sym f) here) (λ ne. same c (omega (arith, lt, ne)))))
      (λ (less : owed_at v n < owed_at u n). inr (n, omega arith, less)) (h n).seen)
      (λ (x : (d : ℕ) × (d < n) × (owed_at v d < owed_at u d)). inr (x.0, (let lt = x.1 in omega (arith, lt)), x.2)) (search u v n h)

  -- nobody accepts a push, or somebody is owed less
  pays_or : (u v : State) → IsReachable u → IsReachable v → ((c : ℕ) → Pays e (client_of u c) (client_of v c)) → ((c : ℕ) → seen_at v c ≡ seen_at u c) ⊎ IsLess u v
  pays_or u v ru rv h = ⊎_elim
      (λ (same : (c : ℕ) → c < max_clients → seen_at v c ≡ seen_at u c). inl (λ c. ⊎_elim (λ (lt : c < max_clients). same c lt) (λ (ge : max_clients ≤ c). far v c rv ge ∙ sym (far u c ru ge)) (cases_lt c max_clients)))
      (λ (x : (d : ℕ) × (d < max_clients) × (owed_at v d < owed_at u d)). inr (record { client = x.0; near = x.1; less = x.2 })) (search u v max_clients h)

  module _ (reqs writes : ℕ → ℕ) (some : 1 ≤ e) where
    abbrev P : State → Type 0
    P = IsUndisturbed reqs writes

    -- a reachable undisturbed world in this epoch
    pub record IsGood (u : State) : Type 0 where
      pub reached : IsReachable u
      pub alone : IsUndisturbed reqs writes u
      pub now : alone.server.durable.epoch ≡ e

    good_next : (u v : State) (s : Step) (answer : Answer) → loses_a_node s ≡ false → IsGood u → IsUndisturbed reqs writes v → Takes u s answer v → IsGood v
    good_next u v s answer safe h g t = let x = server_goes_on u v h.alone.server s safe h.alone.up (way u v s answer t.1) in record {
      reached = next_reachable u v s answer h.reached t;
      alone = g;
      now = ap (λ (y : Server). y.durable.epoch) (same_up g.server x.after (sym g.up ∙ x.up)) ∙ x.epoch ∙ h.now;
    }

    good_pays : (u v : State) (s : Step) (answer : Answer) → loses_a_node s ≡ false → IsGood u → IsGood v → Takes u s answer v → (c : ℕ) → Pays e (client_of u c) (client_of v c)
    good_pays u v s answer safe h g t c = step_pays reqs writes e u v h.reached g.reached h.alone g.alone h.now g.now some (subst (λ b. Moves b u v) safe (moves u v s answer t)) (does u v s answer t) c

    low_step : (u v : State) → ((c : ℕ) → Pays e (client_of u c) (client_of v c)) → (c : ℕ) → IsLow u v c
    low_step u v h c = record { waits = (h c).waits; writes = (h c).writes }

    abbrev IsSafe : List Step → Type 0
    IsSafe steps = (s : Step) → In s steps → loses_a_node s ≡ false

    run_low : (steps : List Step) (u v : State) → IsSafe steps → IsGood u → (r : Runs u steps v) → Throughout P u steps v r → IsGood v × ((c : ℕ) → IsLow u v c)
    run_low [] u v safe h r all = (subst IsGood (sym r) h, λ c. low_self u v c r)
    run_low (s ∷ steps) u v safe h r all =
        let g = good_next u r.1 s r.0 (safe s (inl refl)) h all.0 r.2 in
        let rest = run_low steps r.1 v (λ z i. safe z (inr i)) g r.3 all.1 in
        (rest.0, λ c. low_then u r.1 v c (low_step u r.1 (good_pays u r.1 s r.0 (safe s (inl refl)) h g r.2) c) (rest.1 c))

    pub rounds_low : (m from : ℕ) (u v : State) → IsGood u → RoundsWhile P m from u v → IsGood v × ((c : ℕ) → IsLow u v c)
    rounds_low zero from u v h r = (subst IsGood (sym r) h, λ c. low_self u v c r)
    rounds_low (suc m) from u v h r =
        let first = run_low r.0 u r.1 r.2.stays h r.3 r.4 in
        let rest = rounds_low m (length u.sent) r.1 v first.0 r.5 in
        (rest.0, λ c. low_then u r.1 v c (first.1 c) (rest.1 c))

    module _ (sn : ℕ → ℕ) where
      abbrev Same : State → Type 0
      Same u = (c : ℕ) → seen_at u c ≡ sn c

      pub calm_now : (u : State) → IsGood u → Same u → IsCalm (HasAsked reqs) sn u
      calm_now u h same = let q = h.alone in record {
        server = q.server;
        up = q.up;
        serves = q.serves;
        here = q.here;
        calm = λ c k i now. let x = q.undisturbed c k i now in record {
          accepted = sym (seen_here e k (now ∙ h.now)) ∙ sym (ap (seen_by e) i) ∙ same c;
          request = x.asked;
          unpinned = x.unpinned;
        };
      }

      run_either : (steps : List Step) (u v : State) → IsSafe steps → IsGood u → Same u → (r : Runs u steps v) → Throughout P u steps v r → (Same v × Throughout (IsCalm (HasAsked reqs) sn) u steps v r) ⊎ IsLess u v
      run_either [] u v safe h same r all = inl ((λ c. ap (λ z. seen_at z c) r ∙ same c), r)
      run_either (s ∷ steps) u v safe h same r all = ⊎_elim
          (λ (still : (c : ℕ) → seen_at r.1 c ≡ seen_at u c). let now : Same r.1 = λ c. still c ∙ same c in ⊎_elim
          (λ (x : Same v × Throughout (IsCalm (HasAsked reqs) sn) r.1 steps v r.3). inl (x.0, (calm_now r.1 g now, x.1)))
          (λ (x : IsLess r.1 v). inr (low_less u r.1 v (low_step u r.1 pays) x))
          (run_either steps r.1 v later g now r.3 all.1))
          (λ (x : IsLess u r.1). inr (less_low u r.1 v x (run_low steps r.1 v later g r.3 all.1).1))
          (pays_or u r.1 h.reached g.reached pays)
        where
          g : IsGood r.1
          g = good_next u r.1 s r.0 (safe s (inl refl)) h all.0 r.2

          pays : (c : ℕ) → Pays e (client_of u c) (client_of r.1 c)
          pays = good_pays u r.1 s r.0 (safe s (inl refl)) h g r.2

          later : IsSafe steps
          later z i = safe z (inr i)

      pub rounds_either : (m from : ℕ) (u v : State) → IsGood u → Same u → RoundsWhile P m from u v → (Same v × RoundsWhile (IsCalm (HasAsked reqs) sn) m from u v) ⊎ IsLess u v
      rounds_either zero from u v h same r = inl ((λ c. ap (λ z. seen_at z c) r ∙ same c), r)
      rounds_either (suc m) from u v h same r = ⊎_elim
          (λ (x : Same r.1 × Throughout (IsCalm (HasAsked reqs) sn) u r.0 r.1 r.3). ⊎_elim
          (λ (y : Same v × RoundsWhile (IsCalm (HasAsked reqs) sn) m (length u.sent) r.1 v). inl (y.0, (r.0, r.1, r.2, r.3, x.1, y.1)))
          (λ (y : IsLess r.1 v). inr (low_less u r.1 v first.1 y))
          (rounds_either m (length u.sent) r.1 v first.0 x.0 r.5))
          (λ (x : IsLess u r.1). inr (less_low u r.1 v x (rounds_low m (length u.sent) r.1 v first.0 r.5).1))
          (run_either r.0 u r.1 r.2.stays h same r.3 r.4)
        where
          first : IsGood r.1 × ((c : ℕ) → IsLow u r.1 c)
          first = run_low r.0 u r.1 r.2.stays h r.3 r.4
