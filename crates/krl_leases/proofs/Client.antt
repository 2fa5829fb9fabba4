-- What is Sound stays so: time passes, and the client's host acts.
use Rattle.std.proofs.Common.{◌≡◌, ◌≤◌, ℕ, ◌+◌, ◌⊎◌, inl, inr, Bool, true, false, ◌∷◌, Option, Some, None, refl, sym, ap, ◌∙◌, subst, arith, if◌then◌else◌}
use Rattle.std.proofs.lemmas.Option.{same_Some}
use Rattle.krl_leases.specs.declared.lease.Lease.{Lease}
use Rattle.krl_leases.specs.declared.until.Until.{Until}
use Rattle.krl_leases.specs.declared.kept.Kept.{Kept}
use Rattle.krl_leases.specs.Clients.{takes, with_terms}
use Rattle.krl_leases.specs.Lengths.{later}
use Rattle.krl_leases.specs.Clocks.{Clocks, Limits}
use Rattle.krl_leases.specs.Machine.{Sign, Grant, Server, State, In, Takes, connected, said, taken}
use Rattle.krl_leases.proofs.Sound.{Live, LivesBy, HasEnded, Covers, IsKept, Serves, ByServer, Sound}

pub not_both : {A : Type 0} (b : Bool) → b ≡ false → b ≡ true → A
not_both b h k = absurd (no_false (sym h ∙ k))
  where
    no_false : false ≡ true → ⊥
    no_false e = cc

-- Time passes

abbrev pub passed : State → ℕ → State
passed w n = record w { now = w.now + n }

still_ended : (clocks : Clocks) (now n : ℕ) (g : Grant) → ((t : ℕ) → now ≤ t → HasEnded clocks g t) → (t : ℕ) → now + n ≤ t → HasEnded clocks g t
still_ended clocks now n g over t later = over t (omega arith)

still_covers : (clocks : Clocks) (machine now n : ℕ) (until : Until) (g : Grant) → Covers clocks machine now until g → Covers clocks machine (now + n) until g
still_covers clocks machine now n until g c = record {
  endless = c.endless;
  ends = λ f u t later e. c.ends f u t (omega arith) e;
}

server_passes : (limits : Limits) (clocks : Clocks) (w : State) (n : ℕ) (o : Option Server) → ByServer limits clocks w o → ByServer limits clocks (passed w n) o
server_passes limits clocks w n None a = record { connected = a.connected; signs = a.signs; waiting = a.waiting; hello = a.hello }
server_passes limits clocks w n (Some s) v = record {
  may = v.may;
  number = v.number;
  waiting = v.waiting;
  grants = v.grants;
  greeted = v.greeted;
  hello = v.hello;
  signs = v.signs;
  until = λ r g l. still_covers clocks s.machine w.now n s.until g (v.until r g l);
  old = λ r g l f. elim (v.old r g l f) [ inl a ↦ inl a | inr b ↦ inr (still_covers clocks s.machine w.now n s.old g b) ];
  longest = v.longest;
  unleased = v.unleased;
}

still_kept : (clocks : Clocks) (now n : ℕ) (kept : Kept) (g : Grant) → IsKept clocks now kept g → IsKept clocks (now + n) kept g
still_kept clocks now n kept g k = record {
  endless = k.endless;
  ends = λ f. elim (k.ends f) [ inl a ↦ inl a | inr over ↦ inr (still_ended clocks now n g over) ];
}

pub passes : (limits : Limits) (clocks : Clocks) (w : State) (n : ℕ) → Sound limits clocks w → Sound limits clocks (passed w n)
passes limits clocks w n s = record {
  past = λ g l. let h : g.moment ≤ w.now = s.past g l in omega arith;
  said_before = λ x i. let h : x.moment ≤ w.now = s.said_before x i in omega arith;
  short = s.short;
  lease = s.lease;
  connected = s.connected;
  terms_first = s.terms_first;
  hello_first = s.hello_first;
  known_first = s.known_first;
  kept = λ r g l. still_kept clocks w.now n w.kept g (s.kept r g l);
  server = server_passes limits clocks w n w.server s.server;
  evicted = λ r g l. let o = s.evicted r g l in record { ends = o.ends; over = still_ended clocks w.now n g o.over };
}

-- The client connects

lives_still : (w : State) (g : Grant) → Live (connected w) g → Live w g
lives_still w g (inl e) = inl e
lives_still w g (inr (inl i)) = absurd i
lives_still w g (inr (inr i)) = absurd i

pub connects : (limits : Limits) (clocks : Clocks) (w : State) (s : Server) → w.server ≡ Some s → Sound limits clocks w → Sound limits clocks (connected w)
connects limits clocks w s e h =
    let v : Serves limits clocks w s = subst (ByServer limits clocks w) e h.server in
    let new : ByServer limits clocks (connected w) (Some s) = record {
      may = v.may;
      number = v.number;
      waiting = λ g i. absurd i;
      grants = λ c g i. absurd i;
      greeted = λ c t. not_both false refl t;
      hello = λ c g l. v.hello c g (lives_still w g l);
      signs = v.signs;
      until = λ r g l. v.until r g (lives_still w g l);
      old = λ r g l. v.old r g (lives_still w g l);
      longest = v.longest;
      unleased = v.unleased;
    } in
    record {
      past = λ g l. h.past g (lives_still w g l);
      said_before = h.said_before;
      short = λ g l. h.short g (lives_still w g l);
      lease = h.lease;
      connected = λ x i. refl;
      terms_first = λ t. not_both false refl t;
      hello_first = h.hello_first;
      known_first = h.known_first;
      kept = λ r g l. h.kept r g (lives_still w g l);
      server = subst (ByServer limits clocks (connected w)) (sym e) new;
      evicted = λ r g l. h.evicted r g (lives_still w g l);
    }

-- It sends a sign

abbrev new_sign : State → Sign
new_sign w = record { moment = w.now; said = w.lease.length }

server_is_told : (limits : Limits) (clocks : Clocks) (w : State) (o : Option Server) → w.is_connected ≡ true → Sound limits clocks w → ByServer limits clocks w o → ByServer limits clocks (said w) o
server_is_told limits clocks w None c h a = not_both w.is_connected a.connected c
server_is_told limits clocks w (Some s) c h v = record {
  may = v.may;
  number = v.number;
  waiting = v.waiting;
  grants = v.grants;
  greeted = v.greeted;
  hello = v.hello;
  signs = told;
  until = v.until;
  old = v.old;
  longest = v.longest;
  unleased = v.unleased;
}
  where
    told : (x : Sign) → In x (new_sign w ∷ w.signs) → (g : Grant) → w.lives_by ≡ Some g → (g.length ≡ x.said) ⊎ (g.length ≡ s.terms.length)
    told x (inl e) g l = inl (sym (h.lease g l).length ∙ sym (ap (λ (y : Sign). y.said) e))
    told x (inr i) g l = v.signs x i g l

pub says : (limits : Limits) (clocks : Clocks) (w : State) → w.is_connected ≡ true → Sound limits clocks w → Sound limits clocks (said w)
says limits clocks w c h = record {
  past = h.past;
  said_before = before;
  short = h.short;
  lease = h.lease;
  connected = λ x i. c;
  terms_first = h.terms_first;
  hello_first = h.hello_first;
  known_first = h.known_first;
  kept = h.kept;
  server = server_is_told limits clocks w w.server c h h.server;
  evicted = h.evicted;
}
  where
    before : (x : Sign) → In x (new_sign w ∷ w.signs) → x.moment ≤ w.now
    before x (inl e) = let m : x.moment ≡ w.now = ap (λ (y : Sign). y.moment) e in omega arith
    before x (inr i) = h.said_before x i

-- It takes terms

lives_by_taken : (clocks : Clocks) (w : State) (g x : Grant) → In g w.grants → Live (taken clocks w g) x → Live w x
lives_by_taken clocks w g x i (inl e) = inr (inl (subst (λ y. In y w.grants) (same_Some g x e) i))
lives_by_taken clocks w g x i (inr j) = inr j

by_terms : (clocks : Clocks) (lease : Lease) (g : Grant) (b : Bool) → b ≡ true →
    LivesBy clocks (if b then record { end = later (clocks.client g.moment) g.length; length = g.length; stamp = clocks.client g.moment } else lease) g
by_terms clocks lease g true e = record { end = omega arith; length = refl }
by_terms clocks lease g false e = not_both false refl e

server_sees_taken : (limits : Limits) (clocks : Clocks) (w : State) (g : Grant) (o : Option Server) → In g w.grants → Sound limits clocks w → ByServer limits clocks w o → ByServer limits clocks (taken clocks w g) o
server_sees_taken limits clocks w g None i h a = record { connected = a.connected; signs = a.signs; waiting = a.waiting; hello = a.hello }
server_sees_taken limits clocks w g (Some s) i h v = record {
  may = v.may;
  number = v.number;
  waiting = v.waiting;
  grants = v.grants;
  greeted = λ c t x e. subst (λ (y : Grant). y.length ≡ s.terms.length) (same_Some g x e) (v.grants c g i);
  hello = λ t x l. v.hello t x (lives_by_taken clocks w g x i l);
  signs = λ y j x e. inr (subst (λ (z : Grant). z.length ≡ s.terms.length) (same_Some g x e) (v.grants (h.connected y j) g i));
  until = λ r x l. v.until r x (lives_by_taken clocks w g x i l);
  old = λ r x l. v.old r x (lives_by_taken clocks w g x i l);
  longest = v.longest;
  unleased = v.unleased;
}

pub takes_terms : (limits : Limits) (clocks : Clocks) (w : State) (g : Grant) → In g w.grants → Takes clocks w g → Sound limits clocks w → Sound limits clocks (taken clocks w g)
takes_terms limits clocks w g i t h = record {
  past = λ x l. h.past x (lives_by_taken clocks w g x i l);
  said_before = h.said_before;
  short = λ x l. h.short x (lives_by_taken clocks w g x i l);
  lease = λ x e. subst (LivesBy clocks (with_terms w.lease (clocks.client g.moment) g.length (clocks.client w.now))) (same_Some g x e) (by_terms clocks w.lease g (takes w.lease (clocks.client g.moment) (clocks.client w.now)) t);
  connected = h.connected;
  terms_first = λ _. (g, refl);
  hello_first = λ _. (g, refl);
  known_first = λ _. (g, refl);
  kept = λ r x l. h.kept r x (lives_by_taken clocks w g x i l);
  server = server_sees_taken limits clocks w g w.server i h h.server;
  evicted = λ r x l. h.evicted r x (lives_by_taken clocks w g x i l);
}

-- It sends a Hello

abbrev pub greeting : State → State
greeting w = record w { says_hello = true }

server_is_greeted : (limits : Limits) (clocks : Clocks) (w : State) (o : Option Server) → w.is_connected ≡ true → w.is_greeted ≡ true → ByServer limits clocks w o → ByServer limits clocks (greeting w) o
server_is_greeted limits clocks w None c t a = not_both w.is_connected a.connected c
server_is_greeted limits clocks w (Some s) c t v = record {
  may = v.may;
  number = v.number;
  waiting = v.waiting;
  grants = v.grants;
  greeted = v.greeted;
  hello = λ _. granted;
  signs = v.signs;
  until = v.until;
  old = v.old;
  longest = v.longest;
  unleased = v.unleased;
}
  where
    granted : (g : Grant) → Live w g → g.length ≡ s.terms.length
    granted g (inl e) = v.greeted c t g e
    granted g (inr (inl i)) = v.grants c g i
    granted g (inr (inr i)) = v.waiting g i

pub greets : (limits : Limits) (clocks : Clocks) (w : State) → w.is_connected ≡ true → w.is_greeted ≡ true → Sound limits clocks w → Sound limits clocks (greeting w)
greets limits clocks w c t h = record {
  past = h.past;
  said_before = h.said_before;
  short = h.short;
  lease = h.lease;
  connected = h.connected;
  terms_first = h.terms_first;
  hello_first = λ _. h.terms_first t;
  known_first = h.known_first;
  kept = h.kept;
  server = server_is_greeted limits clocks w w.server c t h.server;
  evicted = h.evicted;
}
