-- What is Sound stays so: the server's host answers signs, registers the client, and stops.
use Rattle.std.proofs.Common.{◌≡◌, ◌<◌, ◌≤◌, ◌⊎◌, inl, inr, true, false, ◌∷◌, Some, refl, sym, ap, subst, arith, eq-eqb}
use Rattle.std.specs.Prelude.{max}
use Rattle.krl_leases.specs.declared.length.TheConstants.{FOR_EVER}
use Rattle.krl_leases.specs.Lengths.{end_of}
use Rattle.krl_leases.specs.Servers.{since, signed}
use Rattle.krl_leases.specs.Clocks.{Clocks, Limits, Agree}
use Rattle.krl_leases.specs.Machine.{Sign, Grant, Server, Registered, Evicted, State, In, heard, confirmed, registered, stopped}
use Rattle.krl_leases.proofs.Lengths.{no_lower, a_number}
use Rattle.krl_leases.proofs.Sound.{Live, Covers, IsKept, Serves, ByServer, Sound}
use Rattle.krl_leases.proofs.Client.{not_both}
use Rattle.krl_leases.proofs.Ends.{covered}

-- A sign is heard

module _ (limits : Limits) (clocks : Clocks) (agree : Agree limits clocks) (w : State) (s : Server) (sign : Sign) (h : Sound limits clocks w) (v : Serves limits clocks w s) (i : In sign w.signs) where
  lives : (g : Grant) → Live (heard clocks w s sign) g → Live w g ⊎ (g ≡ record { moment = sign.moment; length = s.terms.length })
  lives g (inl e) = inl (inl e)
  lives g (inr (inl j)) = inl (inr (inl j))
  lives g (inr (inr (inl e))) = inr e
  lives g (inr (inr (inr j))) = inl (inr (inr j))

  heard_past : (g : Grant) → Live (heard clocks w s sign) g → g.moment ≤ w.now
  heard_past g l = elim (lives g l) [
    | inl k ↦ h.past g k
    | inr e ↦ (let m : g.moment ≡ sign.moment = ap (λ (y : Grant). y.moment) e in let b = h.said_before sign i in omega arith)
  ]

  -- by what it lives now, or may live: what the sign states, or what this server grants
  no_longer : (g : Grant) → Live (heard clocks w s sign) g → g.length ≤ max sign.said s.terms.length
  no_longer g (inl e) = elim (v.signs sign i g e) [ inl a ↦ omega arith | inr b ↦ omega arith ]
  no_longer g (inr (inl j)) = let m : g.length ≡ s.terms.length = v.grants (h.connected sign i) g j in omega arith
  no_longer g (inr (inr (inl e))) = let m : g.length ≡ s.terms.length = ap (λ (y : Grant). y.length) e in omega arith
  no_longer g (inr (inr (inr j))) = let m : g.length ≡ s.terms.length = v.waiting g j in omega arith

  heard_short : (g : Grant) → Live (heard clocks w s sign) g → (g.length ≤ limits.longest) ⊎ (g.length ≡ FOR_EVER)
  heard_short g l = by (lives g l)
    where
      by : Live w g ⊎ (g ≡ record { moment = sign.moment; length = s.terms.length }) → (g.length ≤ limits.longest) ⊎ (g.length ≡ FOR_EVER)
      by (inl k) = h.short g k
      by (inr e) = subst (λ n. (n ≤ limits.longest) ⊎ (n ≡ FOR_EVER)) (sym (ap (λ (y : Grant). y.length) e)) v.may.length

  heard_covers : (g : Grant) → Live (heard clocks w s sign) g → Covers clocks s.machine w.now (signed s.terms s.until sign.said (clocks.server s.machine w.now)) g
  heard_covers g l =
      let longest = max sign.said s.terms.length in
      covered limits clocks agree g s.machine w.now s.terms.drift longest (signed s.terms s.until sign.said (clocks.server s.machine w.now)) (heard_past g l) v.may.drift (no_longer g l) (heard_short g l)
      (no_lower s.until (end_of s.terms.drift (clocks.server s.machine w.now) longest))

  heard_kept : w.standing ≡ Registered → (g : Grant) → Live (heard clocks w s sign) g → IsKept clocks w.now w.kept g
  heard_kept r g l = by (lives g l)
    where
      by : Live w g ⊎ (g ≡ record { moment = sign.moment; length = s.terms.length }) → IsKept clocks w.now w.kept g
      by (inl k) = h.kept r g k
      by (inr e) =
          let m : g.length ≡ s.terms.length = ap (λ (y : Grant). y.length) e in
          let n = v.may.number in
          record { endless = λ f. v.unleased r (omega arith); ends = λ f. inl (let k = v.longest (omega arith) in omega arith) }

  heard_waiting : (g : Grant) → In g (record { moment = sign.moment; length = s.terms.length } ∷ w.waiting) → g.length ≡ s.terms.length
  heard_waiting g (inl e) = ap (λ (y : Grant). y.length) e
  heard_waiting g (inr j) = v.waiting g j

  heard_hello : w.says_hello ≡ true → (g : Grant) → Live (heard clocks w s sign) g → g.length ≡ s.terms.length
  heard_hello t g l = by (lives g l)
    where
      by : Live w g ⊎ (g ≡ record { moment = sign.moment; length = s.terms.length }) → g.length ≡ s.terms.length
      by (inl k) = v.hello t g k
      by (inr e) = ap (λ (y : Grant). y.length) e

  heard_old : w.standing ≡ Registered → (g : Grant) → Live (heard clocks w s sign) g → g.length < FOR_EVER → (g.length ≤ s.terms.length) ⊎ Covers clocks s.machine w.now s.old g
  heard_old r g l f = by (lives g l)
    where
      by : Live w g ⊎ (g ≡ record { moment = sign.moment; length = s.terms.length }) → (g.length ≤ s.terms.length) ⊎ Covers clocks s.machine w.now s.old g
      by (inl k) = v.old r g k f
      by (inr e) = let m : g.length ≡ s.terms.length = ap (λ (y : Grant). y.length) e in inl (omega arith)

  pub hears : (w.standing ≡ Evicted → ⊥) → Sound limits clocks (heard clocks w s sign)
  hears stays = record {
    past = heard_past;
    said_before = h.said_before;
    short = heard_short;
    lease = h.lease;
    connected = h.connected;
    terms_first = h.terms_first;
    hello_first = h.hello_first;
    known_first = h.known_first;
    kept = heard_kept;
    server = record {
      may = v.may;
      number = a_number s.until (end_of s.terms.drift (clocks.server s.machine w.now) (max sign.said s.terms.length)) (omega arith) v.number;
      waiting = heard_waiting;
      grants = v.grants;
      greeted = v.greeted;
      hello = heard_hello;
      signs = v.signs;
      until = λ r. heard_covers;
      old = heard_old;
      longest = v.longest;
      unleased = v.unleased;
    };
    evicted = λ r. absurd (stays r);
  }

-- The store has answered, and the terms are sent

was_live : (w : State) (g x : Grant) → In g w.waiting → Live (confirmed w g) x → Live w x
was_live w g x i (inl e) = inl e
was_live w g x i (inr (inl (inl e))) = inr (inr (subst (λ y. In y w.waiting) (sym e) i))
was_live w g x i (inr (inl (inr j))) = inr (inl j)
was_live w g x i (inr (inr j)) = inr (inr j)

pub confirms : (limits : Limits) (clocks : Clocks) (w : State) (s : Server) (g : Grant) → w.server ≡ Some s → In g w.waiting → Sound limits clocks w → Sound limits clocks (confirmed w g)
confirms limits clocks w s g e i h = record {
  past = λ x l. h.past x (was_live w g x i l);
  said_before = h.said_before;
  short = λ x l. h.short x (was_live w g x i l);
  lease = h.lease;
  connected = h.connected;
  terms_first = h.terms_first;
  hello_first = h.hello_first;
  known_first = h.known_first;
  kept = λ r x l. h.kept r x (was_live w g x i l);
  server = subst (ByServer limits clocks (confirmed w g)) (sym e) new;
  evicted = λ r x l. h.evicted r x (was_live w g x i l);
}
  where
    v : Serves limits clocks w s
    v = subst (ByServer limits clocks w) e h.server

    sent : (x : Grant) → w.is_connected ≡ true → In x (g ∷ w.grants) → x.length ≡ s.terms.length
    sent x c (inl same) = subst (λ (y : Grant). y.length ≡ s.terms.length) (sym same) (v.waiting g i)
    sent x c (inr j) = v.grants c x j

    new : ByServer limits clocks (confirmed w g) (Some s)
    new = record {
      may = v.may;
      number = v.number;
      waiting = v.waiting;
      grants = λ c x. sent x c;
      greeted = v.greeted;
      hello = λ t x l. v.hello t x (was_live w g x i l);
      signs = v.signs;
      until = λ r x l. v.until r x (was_live w g x i l);
      old = λ r x l. v.old r x (was_live w g x i l);
      longest = v.longest;
      unleased = v.unleased;
    }

-- The client registers

pub registers : (limits : Limits) (clocks : Clocks) → Agree limits clocks → (w : State) (s : Server) → w.says_hello ≡ true → Serves limits clocks w s → Sound limits clocks w → Sound limits clocks (registered clocks w s)
registers limits clocks agree w s t v h = record {
  past = h.past;
  said_before = h.said_before;
  short = h.short;
  lease = h.lease;
  connected = h.connected;
  terms_first = h.terms_first;
  hello_first = h.hello_first;
  known_first = λ _. h.hello_first t;
  kept = λ _ g l. record {
    endless = λ f. let m = v.hello t g l in let n = v.may.number in eq-eqb s.terms.length FOR_EVER (omega arith);
    ends = λ f. inl (let m = v.hello t g l in let k = v.longest (omega arith) in omega arith);
  };
  server = record {
    may = v.may;
    number = omega arith;
    waiting = v.waiting;
    grants = v.grants;
    greeted = v.greeted;
    hello = v.hello;
    signs = v.signs;
    until = λ _ g l.
        let m = v.hello t g l in
        covered limits clocks agree g s.machine w.now s.terms.drift s.terms.length (since s.terms (clocks.server s.machine w.now)) (h.past g l) v.may.drift (omega arith) (h.short g l) (omega arith);
    old = λ _ g l f. inl (let m = v.hello t g l in omega arith);
    longest = v.longest;
    unleased = λ _ e. eq-eqb s.terms.length FOR_EVER e;
  };
  evicted = λ e. not_evicted e;
}
  where
    not_evicted : {A : Type 0} → Registered ≡ Evicted → A
    not_evicted e = absurd (differ e)
      where
        differ : Registered ≡ Evicted → ⊥
        differ e = cc

-- A server stops

lives_on : (w : State) (g : Grant) → Live (stopped w) g → Live w g
lives_on w g (inl e) = inl e
lives_on w g (inr (inl j)) = inr (inl j)
lives_on w g (inr (inr j)) = absurd j

pub stops : (limits : Limits) (clocks : Clocks) (w : State) → Sound limits clocks w → Sound limits clocks (stopped w)
stops limits clocks w h = record {
  past = λ g l. h.past g (lives_on w g l);
  said_before = λ x i. absurd i;
  short = λ g l. h.short g (lives_on w g l);
  lease = h.lease;
  connected = λ x i. absurd i;
  terms_first = h.terms_first;
  hello_first = λ e. not_both false refl e;
  known_first = h.known_first;
  kept = λ r g l. h.kept r g (lives_on w g l);
  server = record { connected = refl; signs = refl; waiting = refl; hello = refl };
  evicted = λ r g l. h.evicted r g (lives_on w g l);
}
