-- A client may start with any greater incarnation: so it would if it had started with each one between, and crashed.
use Rattle.std.proofs.Common.{◌≡◌, ℕ, zero, suc, ◌+◌, ◌-◌, ◌≤◌, ◌<◌, ◌∙◌, Bool, true, false, Some, None, List, [], ◌∷◌, ◌++◌, arith, refl, sym, ap, subst, nat_eq, nat_lt, nat_le, if◌then◌else◌, ltb-true, leb-true}
use Rattle.std.specs.Prelude.{is_some}
use Rattle.std.proofs.lemmas.Bool.{eqb-true, eqb-false}
use Rattle.krl_modes.specs.declared.limits.TheConstants.{MAX_CLIENTS}
use Rattle.krl_modes.specs.declared.point.TheConstants.{END}
use Rattle.krl_messages.specs.declared.to_server.ToServer.{ToServer}
use Rattle.krl_messages.proofs.Members.{in_left, in_right}
use Rattle.krl_client.specs.Clients.{begun}
use Rattle.krl_client.specs.Commands.{start_refusal}
use Rattle.krl_client.specs.declared.refused.StartRefused.TheVariants as start_refused
use Rattle.krl_client.specs.Ticks.{says_hello}
use Rattle.krl_steps.specs.Refusals.{refused_at_start}
use Rattle.krl_steps.specs.declared.applied_write.AppliedWrite.{AppliedWrite}
use Rattle.krl_steps.specs.declared.step.Step.TheVariants as step
use Rattle.krl_steps.specs.declared.answer.Answer.TheVariants as answered
use Rattle.krl_steps.specs.declared.refused.Refused.TheVariants as refused
use Rattle.krl_world.specs.declared.message.Message.{Message}
use Rattle.krl_world.specs.States.{ServerPlace, ClientPlace, State, client_of, with_client, seated, set_place, from_clients}
use Rattle.krl_world.specs.Steps.{of_client, if_runs, named}
use Rattle.krl_host_laws.proofs.Clients.{Closed, Has, beside, Follows, Acted, sits}

-- Places

same_places : (f g : ℕ → ClientPlace) → ((d : ℕ) → f d ≡ g d) → f ≡ g
same_places f g h = λ t d. h d t

pub at_set : (p : ℕ → ClientPlace) (c : ℕ) (x : ClientPlace) → set_place p c x c ≡ x
at_set p c x = by_test (nat_eq c c) refl
  where
    by_test : (t : Bool) → nat_eq c c ≡ t → (if t then x else p c) ≡ x
    by_test true e = refl
    by_test false e = absurd (eqb-false c c e refl)

set_twice : (p : ℕ → ClientPlace) (c : ℕ) (x y : ClientPlace) → set_place (set_place p c x) c y ≡ set_place p c y
set_twice p c x y = same_places (set_place (set_place p c x) c y) (set_place p c y) (λ d. by_test d (nat_eq d c))
  where
    by_test : (d : ℕ) (t : Bool) → (if t then y else (if t then x else p d)) ≡ (if t then y else p d)
    by_test d true = refl
    by_test d false = refl

set_same : (p : ℕ → ClientPlace) (c : ℕ) (x : ClientPlace) → p c ≡ x → set_place p c x ≡ p
set_same p c x e = same_places (set_place p c x) p (λ d. by_test d (nat_eq d c) refl)
  where
    by_test : (d : ℕ) (t : Bool) → nat_eq d c ≡ t → (if t then x else p d) ≡ p d
    by_test d true is = sym e ∙ ap p (sym (eqb-true d c is))
    by_test d false is = refl

-- Refusals

pub in_range : (c : ℕ) → c < MAX_CLIENTS → of_client c None ≡ None
in_range c lt = by_test (nat_le MAX_CLIENTS c) refl
  where
    by_test : (b : Bool) → nat_le MAX_CLIENTS c ≡ b → (if b then Some refused.BadClient else None) ≡ None
    by_test true e = let le = leb-true MAX_CLIENTS c e in absurd (let no : ⊥ = omega (arith, le, lt) in no)
    by_test false e = refl

start_ok : (c n : ℕ) → c < MAX_CLIENTS → n ≤ END → of_client c (named refused_at_start (start_refusal c n)) ≡ None
start_ok c n lt le = subst (λ o. of_client c (named refused_at_start o) ≡ None) (sym unrefused) (in_range c lt)
  where
    by_number : (b : Bool) → nat_lt END n ≡ b → (if b then Some start_refused.Spent else None) ≡ None
    by_number true e = let x = ltb-true END n e in absurd (let no : ⊥ = omega (arith, x, le) in no)
    by_number false e = refl

    by_client : (b : Bool) → nat_le MAX_CLIENTS c ≡ b → (if b then Some start_refused.BadClient else (if nat_lt END n then Some start_refused.Spent else None)) ≡ None
    by_client true e = let x = leb-true MAX_CLIENTS c e in absurd (let no : ⊥ = omega (arith, x, lt) in no)
    by_client false e = by_number (nat_lt END n) refl

    unrefused : start_refusal c n ≡ None
    unrefused = by_client (nat_le MAX_CLIENTS c) refl

-- Starts and crashes

abbrev idle : ℕ → ClientPlace
idle n = record { last_incarnation = n; client = None }

abbrev pub running : ℕ → ℕ → ClientPlace
running c n = record { last_incarnation = n; client = Some (begun c n) }

-- c starts with the next incarnation
module _ (P : State → Type 0) (closed : Closed P) where
  next_starts : (u : State) (c n : ℕ) → c < MAX_CLIENTS → suc n ≤ END → u.places c ≡ idle n → P u → P (seated u c (running c (suc n)) (says_hello (begun c (suc n)) ∷ []))
  next_starts u c n lt le is h =
      let last = (u.places c).last_incarnation in
      let same : last ≡ n = ap (λ x. x.last_incarnation) is in
      subst (λ i. P (seated u c (running c (suc i)) (says_hello (begun c (suc i)) ∷ []))) same
      (closed.takes u (seated u c (running c (suc last)) (says_hello (begun c (suc last)) ∷ [])) (step.StartClient c) answered.Done (λ e. cc) h
      (subst (λ (x : ClientPlace). of_client c (if is_some x.client then Some refused.Running else named refused_at_start (start_refusal c (suc x.last_incarnation))) ≡ None) (sym is) (start_ok c (suc n) lt le), (refl, refl)))

  -- and crashes
  then_crashes : (u : State) (c n : ℕ) (ms : List ToServer) → c < MAX_CLIENTS → P (seated u c (running c n) ms) → P (record u { places = set_place u.places c (idle n); sent = u.sent ++ from_clients ms ++ [] })
  then_crashes u c n ms lt h =
      let v = seated u c (running c n) ms in
      let at = at_set u.places c (running c n) in
      let r = closed.takes v (with_client v c None []) (step.CrashClient c) answered.Done (λ e. cc) h
      (subst (λ (x : ClientPlace). of_client c (if_runs x.client (λ k. None)) ≡ None) (sym at) (in_range c lt), (refl, refl)) in
      let last : (v.places c).last_incarnation ≡ n = ap (λ x. x.last_incarnation) at in
      let x = subst (λ i. P (record u { places = set_place (set_place u.places c (running c n)) c (idle i); sent = u.sent ++ from_clients ms ++ [] })) last r in
      subst (λ p. P (record u { places = p; sent = u.sent ++ from_clients ms ++ [] })) (set_twice u.places c (running c n) (idle n)) x

  -- c was started so often, and does not run
  record Climbs (u : State) (c n : ℕ) : Type 0 where
    pub more : List Message
    pub has : Has u.sent more
    pub reachable : P (record u { places = set_place u.places c (idle n); sent = more })

  one_more : (u : State) (c n : ℕ) → c < MAX_CLIENTS → suc n ≤ END → u.places c ≡ idle n → P u → Climbs u c (suc n)
  one_more u c n lt le is h =
      let ms = says_hello (begun c (suc n)) ∷ [] in
      record {
        more = u.sent ++ from_clients ms ++ [];
        has = λ m i. in_left (u.sent ++ from_clients ms) [] m (in_left u.sent (from_clients ms) m i);
        reachable = then_crashes u c (suc n) ms lt (next_starts u c n lt le is h);
      }

  climb : (u : State) (c n j m : ℕ) → m ≡ n + j → c < MAX_CLIENTS → m ≤ END → u.places c ≡ idle n → P u → Climbs u c m
  climb u c n zero m e lt le is h =
      let same : n ≡ m = omega (arith, e) in
      subst (Climbs u c) same (record {
        more = u.sent;
        has = λ x i. i;
        reachable = subst (λ p. P (record u { places = p })) (sym (set_same u.places c (idle n) is)) h;
      })
  climb u c n (suc j) zero e lt le is h = absurd (let no : ⊥ = omega (arith, e) in no)
  climb u c n (suc j) (suc m) e lt le is h =
      let r = climb u c n j m (omega (arith, e)) lt (omega (arith, le)) is h in
      let v : State = record u { places = set_place u.places c (idle m); sent = r.more } in
      let s = one_more v c m lt le (at_set u.places c (idle m)) r.reachable in
      record {
        more = s.more;
        has = λ x i. s.has x (r.has x i);
        reachable = subst (λ p. P (record u { places = p; sent = s.more })) (set_twice u.places c (idle m) (idle (suc m))) s.reachable;
      }

  begins_so : (w : State) (c last n : ℕ) → c < MAX_CLIENTS → last < n → n ≤ END → w.places c ≡ idle last → (p : ServerPlace) (sent : List Message) (writes : List AppliedWrite) → P (beside w p sent writes) → Follows P (seated w c (running c n) (says_hello (begun c n) ∷ [])) sent (from_clients (says_hello (begun c n) ∷ [])) p writes
  begins_so w c last zero lt less le is p sent writes h = absurd (let no : ⊥ = omega (arith, less) in no)
  begins_so w c last (suc n) lt less le is p sent writes h =
      let u = beside w p sent writes in
      let ms = says_hello (begun c (suc n)) ∷ [] in
      let r = climb u c last (n - last) n (omega (arith, less)) lt (omega (arith, le)) is h in
      let v : State = record u { places = set_place u.places c (idle n); sent = r.more } in
      record {
        more = r.more ++ from_clients ms;
        has = λ m i. in_left r.more (from_clients ms) m (r.has m i);
        has_new = λ m i. in_right r.more (from_clients ms) m i;
        reachable = subst (λ q. P (record u { places = q; sent = r.more ++ from_clients ms })) (set_twice w.places c (idle n) (running c (suc n))) (next_starts v c n lt le (at_set w.places c (idle n)) r.reachable);
      }

pub begins_acted : (w : State) (c n : ℕ) → c < MAX_CLIENTS → client_of w c ≡ None → (w.places c).last_incarnation < n → n ≤ END → Acted w (seated w c (record { last_incarnation = n; client = Some (begun c n) }) (says_hello (begun c n) ∷ []))
begins_acted w c n lt off less le =
    let last = (w.places c).last_incarnation in
    let is : w.places c ≡ idle last = λ t. record { last_incarnation = last; client = off t } in
    sits c (running c n) (says_hello (begun c n) ∷ []) (λ P closed p sent writes has h. begins_so P closed w c last n lt less le is p sent writes h)
