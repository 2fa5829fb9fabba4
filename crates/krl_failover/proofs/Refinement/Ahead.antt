-- What the store's server and the clients leave of what old servers see; so those show as before.
use Rattle.krl_failover.proofs.Refinement.Names.{◌≡◌, ℕ, ◌<◌, ◌≤◌, ◌⊎◌, inl, inr, ⊎_elim, true, Option, Value, refl, sym, ap, subst, ◌∙◌, arith, END, record_of, range_at, key_at, lists, Shared, Link, Recovering, Server}
use Rattle.krl_failover.proofs.Refinement.Names.{IsSound, Grows, sent_stays, grows_not, grows_on, Kept, Fenced, IsHere, FencedReachable, CountsAre, IsBlankRow, BoundIs, RebuiltIs, ShowsOld}
use Rattle.krl_messages.specs.declared.to_client.ToClientBody.TheVariants as told
use Rattle.krl_machine.specs.Links.{LinkStep, starts, leaves, joins, accepts, lowers, issues, hellos_again, reports_again, speaks, writes_again, registers, notifies, sees_off, takes_release, pushes}
use Rattle.krl_machine.proofs.Links.{not_both}
use Rattle.krl_failover.proofs.Machine.Reached.{fenced_inv}
use Rattle.krl_failover.proofs.Refinement.Beside.{SameRow}

-- The bound of one client, while nobody serves: it is as before, or blank, if the client is gone

pub record RowAhead (l m : Link) : Type 0 where
  pub reg : l.reg ≤ m.reg
  pub here : (z : Kept) → z.reg ≤ l.reg → IsHere m z → IsHere l z × SameRow l m
  pub gone : (z : Kept) → z.reg ≤ l.reg → (IsHere m z → ⊥) → IsBlankRow m ⊎ (SameRow l m × (IsHere l z → ⊥))

pub row_same : (l m : Link) → m.reg ≡ l.reg → m.left ≡ l.left → SameRow l m → RowAhead l m
row_same l m reg left same = record {
  reg = omega (arith, reg);
  here = λ z low h. ((h.0 ∙ reg, sym left ∙ h.1), same);
  gone = λ z low out. inr (same, λ h. out (h.0 ∙ sym reg, left ∙ h.1));
}

row_on : (l m n : Link) → RowAhead l m → RowAhead m n → RowAhead l n
row_on l m n a b = record {
  reg = omega (arith, a.reg, b.reg);
  here = λ z low h. let x = b.here z (omega (arith, low, a.reg)) h in let y = a.here z low x.0 in (y.0, (x.1.0 ∙ y.1.0, x.1.1 ∙ y.1.1));
  gone = λ z low out. ⊎_elim
      (λ (x : IsBlankRow n). inl x)
      (λ (x : SameRow m n × (IsHere m z → ⊥)). ⊎_elim
      (λ (y : IsBlankRow m). inl (λ q. (ap (λ r. r q) x.0.0 ∙ (y q).0, ap (λ r. r q) x.0.1 ∙ (y q).1)))
      (λ (y : SameRow l m × (IsHere l z → ⊥)). inr ((x.0.0 ∙ y.0.0, x.0.1 ∙ y.0.1), y.1))
      (a.gone z low x.1))
      (b.gone z (omega (arith, low, a.reg)) out);
}

pub link_row : (s : Shared) (l m : Link) → s.phase ≡ Recovering → LinkStep s l m → RowAhead l m
link_row s l m rec (registers h at on lt) = record { reg = omega (arith, lt); here = λ z low x. absurd (omega (arith, low, lt, x.0)); gone = λ z low out. inl (λ q. (refl, refl)) }
link_row s l m rec (sees_off b at on e) = record { reg = omega arith; here = λ z low x. let y = x.1 in absurd (cc); gone = λ z low out. inl (λ q. (refl, refl)) }
link_row s l m rec (takes_release r range key at ok acked slots row) = absurd (not_both ok.serving rec)
link_row s l m rec _ = row_same l _ refl refl (refl, refl)

-- and it is blank of the clients that have left
abbrev pub IsBlankLeft : Link → Type 0
IsBlankLeft l = l.left ≡ true → IsBlankRow l

pub link_blank : (s : Shared) (l m : Link) → s.phase ≡ Recovering → LinkStep s l m → IsBlankLeft l → IsBlankLeft m
link_blank s l m rec (registers h at on lt) b left = absurd (cc)
link_blank s l m rec (sees_off x at on e) b left = λ q. (refl, refl)
link_blank s l m rec (takes_release r range key at ok acked slots row) b left = absurd (not_both ok.serving rec)
link_blank s l m rec _ b left = b left

-- No message goes

pub link_grows : (s : Shared) (l m : Link) → LinkStep s l m → Grows l m
link_grows s l m (starts a) = record { hellos = λ x h. inr h; byes = λ x h. h; heads = λ x h. h; releases = λ x h. h; writes = λ x h. h; reports = λ x h. h; notices = λ x h. h; pushes = λ x h. h }
link_grows s l m (hellos_again a) = record { hellos = λ x h. inr h; byes = λ x h. h; heads = λ x h. h; releases = λ x h. h; writes = λ x h. h; reports = λ x h. h; notices = λ x h. h; pushes = λ x h. h }
link_grows s l m (leaves a) = record { hellos = λ x h. h; byes = λ x h. inr h; heads = λ x h. h; releases = λ x h. h; writes = λ x h. h; reports = λ x h. h; notices = λ x h. h; pushes = λ x h. h }
link_grows s l m (joins n a b c d) = record { hellos = λ x h. h; byes = λ x h. h; heads = λ x h. h; releases = λ x h. h; writes = λ x h. h; reports = λ x h. inr h; notices = λ x h. h; pushes = λ x h. h }
link_grows s l m (reports_again a b) = record { hellos = λ x h. h; byes = λ x h. h; heads = λ x h. h; releases = λ x h. h; writes = λ x h. h; reports = λ x h. inr h; notices = λ x h. h; pushes = λ x h. h }
link_grows s l m (accepts p out a b c) = record { hellos = λ x h. h; byes = λ x h. h; heads = λ x h. inr h; releases = λ x h. h; writes = λ x h. h; reports = λ x h. h; notices = λ x h. h; pushes = λ x h. h }
link_grows s l m (speaks a b) = record { hellos = λ x h. h; byes = λ x h. h; heads = λ x h. inr h; releases = λ x h. h; writes = λ x h. h; reports = λ x h. h; notices = λ x h. h; pushes = λ x h. h }
link_grows s l m (lowers r range key a b c d e f) = record { hellos = λ x h. h; byes = λ x h. h; heads = λ x h. inr h; releases = λ x h. inr h; writes = λ x h. h; reports = λ x h. h; notices = λ x h. h; pushes = λ x h. h }
link_grows s l m (issues op a b c d) = record { hellos = λ x h. h; byes = λ x h. h; heads = λ x h. inr h; releases = λ x h. h; writes = λ x h. inr h; reports = λ x h. h; notices = λ x h. h; pushes = λ x h. h }
link_grows s l m (writes_again op a b c) = record { hellos = λ x h. h; byes = λ x h. h; heads = λ x h. inr h; releases = λ x h. h; writes = λ x h. inr h; reports = λ x h. h; notices = λ x h. h; pushes = λ x h. h }
link_grows s l m (registers h at on lt) = record { hellos = λ x h. h; byes = λ x h. h; heads = λ x h. h; releases = λ x h. h; writes = λ x h. h; reports = λ x h. h; notices = λ x h. inr h; pushes = λ x h. h }
link_grows s l m (notifies on) = record { hellos = λ x h. h; byes = λ x h. h; heads = λ x h. h; releases = λ x h. h; writes = λ x h. h; reports = λ x h. h; notices = λ x h. inr h; pushes = λ x h. h }
link_grows s l m (pushes p a b c d e f g i j k n o) = record { hellos = λ x h. h; byes = λ x h. h; heads = λ x h. h; releases = λ x h. h; writes = λ x h. h; reports = λ x h. h; notices = λ x h. h; pushes = λ x h. inr h }
link_grows s l m _ = record { hellos = λ x h. h; byes = λ x h. h; heads = λ x h. h; releases = λ x h. h; writes = λ x h. h; reports = λ x h. h; notices = λ x h. h; pushes = λ x h. h }

-- Worlds

-- what old servers see of it
pub record Ahead (f g : Fenced) : Type 0 where
  pub epoch : f.world.shared.epoch ≤ g.world.shared.epoch
  pub old : (e c : ℕ) → e < f.world.shared.epoch → g.old e c ≡ f.old e c
  pub copy : (e : ℕ) → e < f.world.shared.epoch → g.copy e ≡ f.copy e
  pub grows : (c : ℕ) → Grows (f.world.links c) (g.world.links c)
  pub bound : (g.bound ≡ f.bound) ⊎ (f.world.shared.epoch ≤ g.bound)
  pub rows : g.bound ≡ f.bound → f.bound < f.world.shared.epoch → (c : ℕ) → RowAhead (f.world.links c) (g.world.links c)

pub ahead_self : (f : Fenced) → Ahead f f
ahead_self f = record {
  epoch = omega arith;
  old = λ e c lt. refl;
  copy = λ e lt. refl;
  grows = λ c. grows_not (f.world.links c);
  bound = inl refl;
  rows = λ same lt c. row_same (f.world.links c) (f.world.links c) refl refl (refl, refl);
}

bound_on : (e d b x y : ℕ) → e ≤ d → (x ≡ b) ⊎ (e ≤ x) → (y ≡ x) ⊎ (d ≤ y) → (y ≡ b) ⊎ (e ≤ y)
bound_on e d b x y le (inl p) (inl q) = inl (q ∙ p)
bound_on e d b x y le (inr p) (inl q) = inr (omega (arith, p, q))
bound_on e d b x y le p (inr q) = inr (omega (arith, le, q))

bound_mid : (e d b x y : ℕ) → e ≤ d → (x ≡ b) ⊎ (e ≤ x) → (y ≡ x) ⊎ (d ≤ y) → y ≡ b → b < e → x ≡ b
bound_mid e d b x y le (inl p) q is lt = p
bound_mid e d b x y le (inr p) (inl q) is lt = absurd (omega (arith, p, q, is, lt))
bound_mid e d b x y le (inr p) (inr q) is lt = absurd (omega (arith, le, q, is, lt))

pub ahead_on : (f g h : Fenced) → Ahead f g → Ahead g h → Ahead f h
ahead_on f g h a b = record {
  epoch = omega (arith, a.epoch, b.epoch);
  old = λ e c lt. b.old e c (omega (arith, lt, a.epoch)) ∙ a.old e c lt;
  copy = λ e lt. b.copy e (omega (arith, lt, a.epoch)) ∙ a.copy e lt;
  grows = λ c. grows_on (f.world.links c) (g.world.links c) (h.world.links c) (a.grows c) (b.grows c);
  bound = bound_on f.world.shared.epoch g.world.shared.epoch f.bound g.bound h.bound a.epoch a.bound b.bound;
  rows = λ same lt c.
      let mid = bound_mid f.world.shared.epoch g.world.shared.epoch f.bound g.bound h.bound a.epoch a.bound b.bound same lt in
      row_on (f.world.links c) (g.world.links c) (h.world.links c) (a.rows mid lt c) (b.rows (same ∙ sym mid) (omega (arith, mid, lt, a.epoch)) c);
}

-- Old servers

module _ (first : ℕ → Option Value) (f g : Fenced) (reached : FencedReachable first END f) (a : Ahead f g) (x : Server) (i : IsSound x) (h : ShowsOld x f) where
  abbrev y : ℕ
  y = x.durable.epoch

  abbrev z : ℕ → Kept
  z c = f.old y c

  known : (c : ℕ) → (z c).reg ≤ (f.world.links c).reg
  known c = ((fenced_inv first END f reached).old y c i.begun h.old).reg

  was_bound : y ≡ g.bound → g.bound ≡ f.bound
  was_bound is = ⊎_elim (λ (p : g.bound ≡ f.bound). p) (λ (p : f.world.shared.epoch ≤ g.bound). let lt = h.old in absurd (omega (arith, is, p, lt))) a.bound

  was_low : g.bound < y → g.bound ≡ f.bound
  was_low low = ⊎_elim (λ (p : g.bound ≡ f.bound). p) (λ (p : f.world.shared.epoch ≤ g.bound). let lt = h.old in absurd (omega (arith, low, p, lt))) a.bound

  same : (c : ℕ) → g.old y c ≡ z c
  same c = a.old y c h.old

  blank_then : (c : ℕ) → RowAhead (f.world.links c) (g.world.links c) → ((IsHere (f.world.links c) (z c) → ⊥) → IsBlankRow (f.world.links c)) → (IsHere (g.world.links c) (z c) → ⊥) → IsBlankRow (g.world.links c)
  blank_then c r before out = ⊎_elim
      (λ (b : IsBlankRow (g.world.links c)). b)
      (λ (b : SameRow (f.world.links c) (g.world.links c) × (IsHere (f.world.links c) (z c) → ⊥)). λ q. let p = before b.1 q in (ap (λ k. k q) b.0.0 ∙ p.0, ap (λ k. k q) b.0.1 ∙ p.1))
      (r.gone (z c) (known c) out)

  pub shows_ahead : ShowsOld x g
  shows_ahead =
      let lt = h.old in record {
        old = let le = a.epoch in omega (arith, lt, le);
        copy = a.copy y h.old ∙ h.copy;
        link = λ c. let k = h.link c in subst (CountsAre y (record_of x.durable.register c) (x.sessions c) (g.world.links c)) (sym (same c))
            (record { known = k.known; last = k.last; acked = k.acked; unacked = λ body is. sent_stays (f.world.links c) (g.world.links c) (a.grows c) (z c).reg (told.Push y (x.sessions c).last_push body) (k.unacked body is) });
        heard = λ n u at. let k = h.heard n u at in (k.0, (a.grows u.client).heads k.0 k.1, k.2 ∙ sym (ap (λ k. k.reg) (same u.client)), k.3);
        serves = λ is. h.serves (is ∙ was_bound is);
        rows = λ is c.
            let r = h.rows (is ∙ was_bound is) c in
            let row = a.rows (was_bound is) (let e = was_bound is in omega (arith, is, e, lt)) c in
            subst (λ k. BoundIs (g.world.links c) k (range_at x.durable.index x.rows c) (key_at x.durable.index x.rows c)) (sym (same c))
            (record {
              here = λ k q. let w = row.here (z c) (known c) k in let p = r.here w.0 q in (ap (λ k. k q) w.1.0 ∙ p.0, ap (λ k. k q) w.1.1 ∙ p.1);
              gone = blank_then c row r.gone;
            });
        recovers = λ low. h.recovers (let e = was_low low in omega (arith, low, e));
        rebuilds = λ low c.
            let e = was_low low in
            let r = h.rebuilds (omega (arith, low, e)) c in
            let row = a.rows e (omega (arith, low, e, lt)) c in
            subst (λ k. RebuiltIs (g.world.links c) k (lists x.missing c) (range_at x.durable.index x.rows c) (key_at x.durable.index x.rows c)) (sym (same c))
            (record { missing = r.missing; new = r.new; gone = blank_then c row r.gone });
      }
