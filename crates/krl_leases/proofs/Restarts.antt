-- What is Sound stays so: a server's host starts, stores less, and evicts.
use Rattle.std.proofs.Common.{◌≡◌, ◌<◌, ◌≤◌, ℕ, ◌⊎◌, inl, inr, Bool, true, false, ◌&&◌, Some, None, refl, sym, ◌∙◌, subst, arith, eq-eqb, eqb-true}
use Rattle.std.specs.Prelude.{max, if◌then◌else◌}
use Rattle.krl_leases.specs.declared.length.TheConstants.{FOR_EVER}
use Rattle.krl_leases.specs.declared.length.Terms.{Terms}
use Rattle.krl_leases.specs.declared.kept.Kept.{Kept}
use Rattle.krl_leases.specs.Servers.{is_never, has_come, grants_for_ever, kept_from, old_end, restarted}
use Rattle.krl_leases.specs.Clocks.{Clocks, Limits, Agree, MayGrant}
use Rattle.krl_leases.specs.Machine.{Grant, Server, Unknown, Registered, Evicted, State, In, started, kept_anew}
use Rattle.krl_leases.proofs.Lengths.{come, never, lt_or_ge}
use Rattle.krl_leases.proofs.Sound.{Live, HasEnded, Covers, IsKept, Alone, Serves, ByServer, Sound}
use Rattle.krl_leases.proofs.Client.{not_both}
use Rattle.krl_leases.proofs.Ends.{covered}

-- Another one starts

abbrev stored_as : Bool → Kept → Terms → Kept
stored_as b kept terms =
    if b
    then record { longest = kept.longest; is_unleased = true }
    else record { longest = max kept.longest terms.length; is_unleased = kept.is_unleased }

-- what it stores covers what was stored
stored : (clocks : Clocks) (now : ℕ) (kept : Kept) (terms : Terms) (g : Grant) → IsKept clocks now kept g → IsKept clocks now (kept_from kept terms) g
stored clocks now kept terms g k = by (grants_for_ever terms)
  where
    by : (b : Bool) → IsKept clocks now (stored_as b kept terms) g
    by true = record { endless = λ _. refl; ends = k.ends }
    by false = record { endless = k.endless; ends = λ f. elim (k.ends f) [ inl a ↦ inl (omega arith) | inr over ↦ inr over ] }

stores_longest : (kept : Kept) (terms : Terms) → terms.length < FOR_EVER → terms.length ≤ (kept_from kept terms).longest
stores_longest kept terms f = by (grants_for_ever terms) refl
  where
    by : (b : Bool) → grants_for_ever terms ≡ b → terms.length ≤ (stored_as b kept terms).longest
    by true e = let same = eqb-true terms.length FOR_EVER e in absurd (omega arith)
    by false e = omega arith

stores_unleased : (kept : Kept) (terms : Terms) → terms.length ≡ FOR_EVER → (kept_from kept terms).is_unleased ≡ true
stores_unleased kept terms f = by (grants_for_ever terms) (eq-eqb terms.length FOR_EVER f)
  where
    by : (b : Bool) → b ≡ true → (stored_as b kept terms).is_unleased ≡ true
    by true e = refl
    by false e = not_both false refl e

module _ (limits : Limits) (clocks : Clocks) (agree : Agree limits clocks) (machine now : ℕ) (kept : Kept) (terms : Terms) (may : MayGrant limits terms) (g : Grant) (past : g.moment ≤ now) (short : (g.length ≤ limits.longest) ⊎ (g.length ≡ FOR_EVER)) (k : IsKept clocks now kept g) where
  old_covers : g.length < FOR_EVER → Covers clocks machine now (old_end kept terms (clocks.server machine now)) g
  old_covers f = elim (k.ends f) [
    | inl a ↦ covered limits clocks agree g machine now terms.drift kept.longest (old_end kept terms (clocks.server machine now)) past may.drift a short (omega arith)
    | inr over ↦ record { endless = λ x. absurd (omega arith); ends = λ _ u t later e. over t later }
  ]

  until_covers : Covers clocks machine now (restarted kept terms (clocks.server machine now)) g
  until_covers = by kept.is_unleased refl
    where
      by : (b : Bool) → kept.is_unleased ≡ b → Covers clocks machine now (if b then record { moment = FOR_EVER } else old_end kept terms (clocks.server machine now)) g
      by true e = record { endless = λ _. omega arith; ends = λ f u. absurd (omega arith) }
      by false e = by_length (lt_or_ge g.length FOR_EVER)
        where
          by_length : ((g.length < FOR_EVER) ⊎ (FOR_EVER ≤ g.length)) → Covers clocks machine now (old_end kept terms (clocks.server machine now)) g
          by_length (inl x) = old_covers x
          by_length (inr y) = not_both kept.is_unleased e (k.endless y)

restarted_number : (kept : Kept) (terms : Terms) (at : ℕ) → (restarted kept terms at).moment ≤ FOR_EVER
restarted_number kept terms at = by kept.is_unleased
  where
    by : (b : Bool) → (if b then record { moment = FOR_EVER } else old_end kept terms at).moment ≤ FOR_EVER
    by true = omega arith
    by false = omega arith

pub starts : (limits : Limits) (clocks : Clocks) → Agree limits clocks → (w : State) (machine : ℕ) (terms : Terms) → w.server ≡ None → MayGrant limits terms → Sound limits clocks w → Sound limits clocks (started clocks w machine terms)
starts limits clocks agree w machine terms none may h =
    let a : Alone w = subst (ByServer limits clocks w) none h.server in
    let kept = kept_from w.kept terms in
    let still : w.standing ≡ Registered → (g : Grant) → Live w g → IsKept clocks w.now kept g = λ r g l. stored clocks w.now w.kept terms g (h.kept r g l) in
    record {
      past = h.past;
      said_before = h.said_before;
      short = h.short;
      lease = h.lease;
      connected = h.connected;
      terms_first = h.terms_first;
      hello_first = h.hello_first;
      known_first = h.known_first;
      kept = still;
      server = record {
        may = may;
        number = restarted_number kept terms (clocks.server machine w.now);
        waiting = λ g i. absurd (subst (In g) a.waiting i);
        grants = λ c. not_both w.is_connected a.connected c;
        greeted = λ c. not_both w.is_connected a.connected c;
        hello = λ t. not_both w.says_hello a.hello t;
        signs = λ x i. absurd (subst (In x) a.signs i);
        until = λ r g l. until_covers limits clocks agree machine w.now kept terms may g (h.past g l) (h.short g l) (still r g l);
        old = λ r g l f. inr (old_covers limits clocks agree machine w.now kept terms may g (h.past g l) (h.short g l) (still r g l) f);
        longest = stores_longest w.kept terms;
        unleased = λ _. stores_unleased w.kept terms;
      };
      evicted = h.evicted;
    }

-- What is kept is stored again

abbrev revised_as : Bool → Clocks → State → Server → Kept
revised_as b clocks w s =
    if b
    then w.kept
    else record {
      longest = if has_come s.old (clocks.server s.machine w.now) then s.terms.length else w.kept.longest;
      is_unleased = w.kept.is_unleased && is_never s.until;
    }

module _ (limits : Limits) (clocks : Clocks) (agree : Agree limits clocks) (w : State) (s : Server) (h : Sound limits clocks w) (v : Serves limits clocks w s) where
  shorter : (b : Bool) → has_come s.old (clocks.server s.machine w.now) ≡ b → w.standing ≡ Registered → (g : Grant) → Live w g → g.length < FOR_EVER →
      (g.length ≤ (if b then s.terms.length else w.kept.longest)) ⊎ ((t : ℕ) → w.now ≤ t → HasEnded clocks g t)
  shorter false e r g l f = (h.kept r g l).ends f
  shorter true e r g l f =
      let c = come s.old (clocks.server s.machine w.now) e in
      elim (v.old r g l f) [
        | inl a ↦ inl a
        | inr b ↦ inr (λ t later. let on = agree.rises s.machine w.now t later in let y = c.1 in b.ends f c.0 t later (omega arith))
      ]

  still_never : w.standing ≡ Registered → (g : Grant) → Live w g → FOR_EVER ≤ g.length → is_never s.until ≡ true
  still_never r g l f = never s.until ((v.until r g l).endless f) v.number

  revised_kept : (b : Bool) → w.standing ≡ Registered → (g : Grant) → Live w g →
      IsKept clocks w.now (revised_as b clocks w s) g
  revised_kept true r g l = h.kept r g l
  revised_kept false r g l = record {
    endless = λ f. both w.kept.is_unleased (is_never s.until) ((h.kept r g l).endless f) (still_never r g l f);
    ends = shorter (has_come s.old (clocks.server s.machine w.now)) refl r g l;
  }
    where
      both : (a b : Bool) → a ≡ true → b ≡ true → (a && b) ≡ true
      both a b p q = cc

  revised_longest : (b : Bool) → s.terms.length < FOR_EVER →
      s.terms.length ≤ (revised_as b clocks w s).longest
  revised_longest true f = v.longest f
  revised_longest false f = by (has_come s.old (clocks.server s.machine w.now))
    where
      by : (b : Bool) → s.terms.length ≤ (if b then s.terms.length else w.kept.longest)
      by true = omega arith
      by false = v.longest f

  revised_unleased : (b : Bool) → grants_for_ever s.terms ≡ b → w.standing ≡ Registered → s.terms.length ≡ FOR_EVER →
      (revised_as b clocks w s).is_unleased ≡ true
  revised_unleased true e r f = v.unleased r f
  revised_unleased false e r f = not_both (grants_for_ever s.terms) e (eq-eqb s.terms.length FOR_EVER f)

  new_server : ByServer limits clocks (kept_anew clocks w s) (Some s)
  new_server = record {
    may = v.may;
    number = v.number;
    waiting = v.waiting;
    grants = v.grants;
    greeted = v.greeted;
    hello = v.hello;
    signs = v.signs;
    until = v.until;
    old = v.old;
    longest = revised_longest (grants_for_ever s.terms);
    unleased = revised_unleased (grants_for_ever s.terms) refl;
  }

  pub revises : w.server ≡ Some s → Sound limits clocks (kept_anew clocks w s)
  revises e = record {
    past = h.past;
    said_before = h.said_before;
    short = h.short;
    lease = h.lease;
    connected = h.connected;
    terms_first = h.terms_first;
    hello_first = h.hello_first;
    known_first = h.known_first;
    kept = revised_kept (grants_for_ever s.terms);
    server = subst (ByServer limits clocks (kept_anew clocks w s)) (sym e) new_server;
    evicted = h.evicted;
  }

-- The client is evicted

abbrev pub evicted : State → State
evicted w = record w { standing = Evicted }

not_registered : {A : Type 0} → Evicted ≡ Registered → A
not_registered e = absurd (differ e)
  where
    differ : Evicted ≡ Registered → ⊥
    differ e = cc

not_unknown : Registered ≡ Unknown → ⊥
not_unknown e = cc

pub evicts : (limits : Limits) (clocks : Clocks) → Agree limits clocks → (w : State) (s : Server) → w.server ≡ Some s → w.standing ≡ Registered → has_come s.until (clocks.server s.machine w.now) ≡ true → Sound limits clocks w → Sound limits clocks (evicted w)
evicts limits clocks agree w s e r b h =
    let v : Serves limits clocks w s = subst (ByServer limits clocks w) e h.server in
    let c = come s.until (clocks.server s.machine w.now) b in
    let early : s.until.moment < FOR_EVER = c.0 in
    let new : ByServer limits clocks (evicted w) (Some s) = record {
      may = v.may;
      number = v.number;
      waiting = v.waiting;
      grants = v.grants;
      greeted = v.greeted;
      hello = v.hello;
      signs = v.signs;
      until = λ x. not_registered x;
      old = λ x. not_registered x;
      longest = v.longest;
      unleased = λ x. not_registered x;
    } in
    record {
      past = h.past;
      said_before = h.said_before;
      short = h.short;
      lease = h.lease;
      connected = h.connected;
      terms_first = h.terms_first;
      hello_first = h.hello_first;
      known_first = λ _. h.known_first (λ x. not_unknown (sym r ∙ x));
      kept = λ x. not_registered x;
      server = subst (ByServer limits clocks (evicted w)) (sym e) new;
      evicted = λ _ g l.
          let u : Covers clocks s.machine w.now s.until g = v.until r g l in
          let ends : g.length < FOR_EVER = finite g.length s.until.moment u.endless early in
          record {
            ends = ends;
            over = λ t later. let on = agree.rises s.machine w.now t later in let y = c.1 in u.ends ends early t later (omega arith);
          };
    }
  where
    finite : (n m : ℕ) → (FOR_EVER ≤ n → FOR_EVER ≤ m) → m < FOR_EVER → n < FOR_EVER
    finite n m f k = by (lt_or_ge n FOR_EVER)
      where
        by : ((n < FOR_EVER) ⊎ (FOR_EVER ≤ n)) → n < FOR_EVER
        by (inl x) = x
        by (inr y) = let z = f y in absurd (omega arith)
