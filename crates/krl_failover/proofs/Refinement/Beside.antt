-- What an old server's steps leave as it was; and one link, or what one old server keeps, is another.
use Rattle.krl_failover.proofs.Refinement.Names.{◌≡◌, ◌≢◌, ℕ, ◌<◌, ◌⊎◌, inl, inr, ⊎_elim, Bool, true, false, cond, nat_eq, eq-eqb, ne_eqb, refl, sym, ap, subst, ◌∙◌, arith, In, Waiter, Rows, range_at, key_at}
use Rattle.krl_failover.proofs.Refinement.Names.{record_of, Link, Changed, no_range, no_key, eq_cases, Session, Server, lists, Grows, ServerPart, server_part, grows_not, grows_on}
use Rattle.krl_failover.proofs.Refinement.Names.{Kept, Fenced, IsHere, Turned, FencedSteps, stays_so, on_then, CountsAre, IsHeardBy, BoundIs, RebuiltIs, ShowsOld}

-- what the store's server keeps of a client, except for the bound
abbrev pub store_part : Link → ServerPart
store_part l = server_part (record l { top_range = no_range; top_key = no_key })

-- the bound is as it was
abbrev pub SameRow : Link → Link → Type 0
SameRow l m = (m.top_range ≡ l.top_range) × (m.top_key ≡ l.top_key)

-- all but messages to clients, what the old server of the epoch e keeps, and the bound, which changes only if it is its
-- table, of clients that are here
pub record Beside (e : ℕ) (f g : Fenced) : Type 0 where
  pub shared : g.world.shared ≡ f.world.shared
  pub log : g.world.log ≡ f.world.log
  pub client : (c : ℕ) → (g.world.links c).client ≡ (f.world.links c).client
  pub part : (c : ℕ) → store_part (g.world.links c) ≡ store_part (f.world.links c)
  pub grows : (c : ℕ) → Grows (f.world.links c) (g.world.links c)
  pub reg : (c : ℕ) → (g.old e c).reg ≡ (f.old e c).reg
  pub old : (x c : ℕ) → x ≢ e → g.old x c ≡ f.old x c
  pub copy : g.copy ≡ f.copy
  pub bound : (g.bound ≡ f.bound) ⊎ ((f.bound < e) × (g.bound ≡ e))
  pub still : e ≢ f.bound → g.bound ≡ f.bound → (c : ℕ) → SameRow (f.world.links c) (g.world.links c)
  pub gone : (c : ℕ) → (IsHere (f.world.links c) (f.old e c) → ⊥) → SameRow (f.world.links c) (g.world.links c)

pub beside_self : (e : ℕ) (f : Fenced) → Beside e f f
beside_self e f = record {
  shared = refl;
  log = refl;
  client = λ c. refl;
  part = λ c. refl;
  grows = λ c. grows_not (f.world.links c);
  reg = λ c. refl;
  old = λ x c ne. refl;
  copy = refl;
  bound = inl refl;
  still = λ ne same c. (refl, refl);
  gone = λ c g. (refl, refl);
}

-- a client that is here is here before
here_before : (e : ℕ) (f g : Fenced) (c : ℕ) → Beside e f g → IsHere (g.world.links c) (g.old e c) → IsHere (f.world.links c) (f.old e c)
here_before e f g c b h = (sym (b.reg c) ∙ h.0 ∙ ap (λ x. x.reg) (b.part c), sym (ap (λ x. x.left) (b.part c)) ∙ h.1)

bound_between : (e b x y : ℕ) → (x ≡ b) ⊎ ((b < e) × (x ≡ e)) → (y ≡ x) ⊎ ((x < e) × (y ≡ e)) → (y ≡ b) ⊎ ((b < e) × (y ≡ e))
bound_between e b x y (inl p) (inl q) = inl (q ∙ p)
bound_between e b x y (inl p) (inr q) = inr (omega (arith, p, q.0), q.1)
bound_between e b x y (inr p) (inl q) = inr (p.0, q ∙ p.1)
bound_between e b x y (inr p) (inr q) = inr (p.0, q.1)

-- a bound that is the same in the end was so in between
bound_inside : (e b x y : ℕ) → (x ≡ b) ⊎ ((b < e) × (x ≡ e)) → (y ≡ x) ⊎ ((x < e) × (y ≡ e)) → y ≡ b → x ≡ b
bound_inside e b x y (inl p) q is = p
bound_inside e b x y (inr p) (inl q) is = absurd (omega (arith, p.0, p.1, q, is))
bound_inside e b x y (inr p) (inr q) is = absurd (omega (arith, p.1, q.0))

same_on : (l m n : Link) → SameRow l m → SameRow m n → SameRow l n
same_on l m n a b = (b.0 ∙ a.0, b.1 ∙ a.1)

pub beside_on : (e : ℕ) (f g h : Fenced) → Beside e f g → Beside e g h → Beside e f h
beside_on e f g h a b = record {
  shared = b.shared ∙ a.shared;
  log = b.log ∙ a.log;
  client = λ c. b.client c ∙ a.client c;
  part = λ c. b.part c ∙ a.part c;
  grows = λ c. grows_on (f.world.links c) (g.world.links c) (h.world.links c) (a.grows c) (b.grows c);
  reg = λ c. b.reg c ∙ a.reg c;
  old = λ x c ne. b.old x c ne ∙ a.old x c ne;
  copy = b.copy ∙ a.copy;
  bound = bound_between e f.bound g.bound h.bound a.bound b.bound;
  still = λ ne same c. let mid = bound_inside e f.bound g.bound h.bound a.bound b.bound same in
      same_on (f.world.links c) (g.world.links c) (h.world.links c) (a.still ne mid c) (b.still (λ x. ne (x ∙ mid)) (same ∙ sym mid) c);
  gone = λ c out. same_on (f.world.links c) (g.world.links c) (h.world.links c) (a.gone c out) (b.gone c (λ x. out (here_before e f g c a x)));
}

pub steps_after : (f g h : Fenced) → FencedSteps f g → FencedSteps g h → FencedSteps f h
steps_after f g h a stays_so = a
steps_after f g h a (on_then {g = m} b c) = on_then (steps_after f g m a b) c

-- One link and what one old server keeps of it

abbrev pub keep : (ℕ → ℕ → Kept) → ℕ → ℕ → Kept → ℕ → ℕ → Kept
keep old e c z x d = cond (nat_eq x e) (cond (nat_eq d c) z (old x d)) (old x d)

either : (b : Bool) (z : Kept) → cond b z z ≡ z
either true z = refl
either false z = refl

pub keep_turned : (old : ℕ → ℕ → Kept) (e c : ℕ) (z : Kept) → Turned old (keep old e c z) e c z
keep_turned old e c z = record {
  here = ap (λ b. cond b (cond (nat_eq c c) z (old e c)) (old e c)) (eq-eqb e e refl) ∙ ap (λ b. cond b z (old e c)) (eq-eqb c c refl);
  rest = λ x d ne. ⊎_elim
      (λ (a : x ≢ e). ap (λ b. cond b (cond (nat_eq d c) z (old x d)) (old x d)) (ne_eqb x e a))
      (λ (a : d ≢ c). ap (λ b. cond (nat_eq x e) (cond b z (old x d)) (old x d)) (ne_eqb d c a) ∙ either (nat_eq x e) (old x d)) ne;
}

-- the link of c is l, of which the old server of the epoch e keeps z; all else is as it was
pub record Moved (e c : ℕ) (l : Link) (z : Kept) (f g : Fenced) : Type 0 where
  pub shared : g.world.shared ≡ f.world.shared
  pub log : g.world.log ≡ f.world.log
  pub links : Changed f.world.links g.world.links c l
  pub old : Turned f.old g.old e c z
  pub copy : g.copy ≡ f.copy
  pub bound : g.bound ≡ f.bound

-- what the move must leave of the link
pub record Leaves (e b : ℕ) (l m : Link) (y z : Kept) : Type 0 where
  pub client : m.client ≡ l.client
  pub part : store_part m ≡ store_part l
  pub grows : Grows l m
  pub reg : z.reg ≡ y.reg
  pub still : e ≢ b → SameRow l m
  pub gone : (IsHere l y → ⊥) → SameRow l m

module _ (e c : ℕ) (l : Link) (z : Kept) (f g : Fenced) (m : Moved e c l z f g) where
  pub moved_at : (P : ℕ → Link → Kept → Type 0) → P c l z → ((d : ℕ) → d ≢ c → P d (f.world.links d) (f.old e d)) → (d : ℕ) → P d (g.world.links d) (g.old e d)
  moved_at P here rest d = eq_cases d c
      (λ a. subst (λ x. P x (g.world.links x) (g.old e x)) (sym a) (subst (λ x. P c x (g.old e c)) (sym m.links.here) (subst (P c l) (sym m.old.here) here)))
      (λ ne. subst (λ x. P d x (g.old e d)) (sym (m.links.rest d ne)) (subst (P d (f.world.links d)) (sym (m.old.rest e d (inr ne))) (rest d ne)))

  link_at : (P : Link → Link → Type 0) → P (f.world.links c) l → ((d : ℕ) → P (f.world.links d) (f.world.links d)) → (d : ℕ) → P (f.world.links d) (g.world.links d)
  link_at P here rest = moved_at (λ d x y. P (f.world.links d) x) here (λ d ne. rest d)

  pub moved_beside : Leaves e f.bound (f.world.links c) l (f.old e c) z → Beside e f g
  moved_beside k = record {
    shared = m.shared;
    log = m.log;
    client = link_at (λ x y. y.client ≡ x.client) k.client (λ d. refl);
    part = link_at (λ x y. store_part y ≡ store_part x) k.part (λ d. refl);
    grows = link_at Grows k.grows (λ d. grows_not (f.world.links d));
    reg = moved_at (λ d x y. y.reg ≡ (f.old e d).reg) k.reg (λ d ne. refl);
    old = λ x d ne. m.old.rest x d (inl ne);
    copy = m.copy;
    bound = inl m.bound;
    still = λ ne same. link_at SameRow (k.still ne) (λ d. (refl, refl));
    gone = moved_at (λ d x y. (IsHere (f.world.links d) (f.old e d) → ⊥) → SameRow (f.world.links d) x) k.gone (λ d ne out. (refl, refl));
  }

-- How an old server shows then

abbrev pub counts : Server → ℕ → Link → Kept → Type 0
counts s c l z = CountsAre s.durable.epoch (record_of s.durable.register c) (s.sessions c) l z

abbrev pub bound_is : Server → ℕ → Link → Kept → Type 0
bound_is s c l z = BoundIs l z (range_at s.durable.index s.rows c) (key_at s.durable.index s.rows c)

abbrev pub rebuilt_is : Server → ℕ → Link → Kept → Type 0
rebuilt_is s c l z = RebuiltIs l z (lists s.missing c) (range_at s.durable.index s.rows c) (key_at s.durable.index s.rows c)

-- with these rows and sessions
abbrev pub became : Server → Rows → (ℕ → Session) → Server
became s rows sessions = record s { rows = rows; sessions = sessions }

-- what is to be shown of the client of the link
pub record ShowsHere (s t : Server) (f : Fenced) (c : ℕ) (l : Link) (z : Kept) : Type 0 where
  pub count : counts t c l z
  pub bound : s.durable.epoch ≡ f.bound → bound_is t c l z
  pub rebuilt : f.bound < s.durable.epoch → rebuilt_is t c l z

-- and of the others
pub record ShowsRest (s t : Server) (f : Fenced) (c : ℕ) : Type 0 where
  pub count : (d : ℕ) → d ≢ c → counts t d (f.world.links d) (f.old s.durable.epoch d)
  pub bound : s.durable.epoch ≡ f.bound → (d : ℕ) → d ≢ c → bound_is t d (f.world.links d) (f.old s.durable.epoch d)
  pub rebuilt : f.bound < s.durable.epoch → (d : ℕ) → d ≢ c → rebuilt_is t d (f.world.links d) (f.old s.durable.epoch d)

pub moved_shows : (s : Server) (rows : Rows) (sessions : ℕ → Session) (f g : Fenced) (c : ℕ) (l : Link) (z : Kept) → Moved s.durable.epoch c l z f g → Beside s.durable.epoch f g → ShowsOld s f → ShowsHere s (became s rows sessions) f c l z → ShowsRest s (became s rows sessions) f c → ((n : ℕ) (u : Waiter) → In u (rows n).queue → IsHeardBy s.durable.epoch (f.world.links u.client) (f.old s.durable.epoch u.client)) → ShowsOld (became s rows sessions) g
moved_shows s rows sessions f g c l z m b h here rest heard =
    let e = s.durable.epoch in
    let t = became s rows sessions in
    record {
      old = subst (λ x. e < x.epoch) (sym b.shared) h.old;
      copy = ap (λ x. x e) b.copy ∙ h.copy;
      link = moved_at e c l z f g m (counts t) here.count rest.count;
      heard = λ n u at. let x = heard n u at in (x.0, (b.grows u.client).heads x.0 x.1, x.2 ∙ sym (b.reg u.client), x.3);
      serves = λ is. h.serves (is ∙ m.bound);
      rows = λ is. moved_at e c l z f g m (bound_is t) (here.bound (is ∙ m.bound)) (rest.bound (is ∙ m.bound));
      recovers = λ lt. h.recovers (subst (λ x. x < e) m.bound lt);
      rebuilds = λ lt. moved_at e c l z f g m (rebuilt_is t) (here.rebuilt (subst (λ x. x < e) m.bound lt)) (rest.rebuilt (subst (λ x. x < e) m.bound lt));
    }
