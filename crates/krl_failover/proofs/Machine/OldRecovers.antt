-- An old server takes a report, and begins to serve.
use Rattle.krl_failover.proofs.Machine.Names.{◌≡◌, ℕ, ◌≤◌, ◌<◌, false, Option, inl, inr, refl, sym, ap, subst, ◌∙◌, arith, In, RangePart, KeyPart, Value}
use Rattle.krl_failover.proofs.Machine.Names.{Recovering, Report, Link, IsRebuilt}
use Rattle.krl_machine.proofs.Worlds.{eq_cases}
use Rattle.krl_machine.proofs.Runs.{agree_below}
use Rattle.krl_failover.specs.Fenced.{Kept, Fenced, Turned, Finished}
use Rattle.krl_machine.proofs.RowChanges.{Below}
use Rattle.krl_failover.proofs.Machine.Basics.{Old, Top, Gather}
use Rattle.krl_failover.proofs.Machine.Rebuilds.{took_gather, finished_inv, finished_falls, finished_top, finished_gather, finished_extra, finished_old, finished_wrotes, finished_who}
use Rattle.krl_failover.proofs.Machine.Invariant.{FencedInv, kept_at, phase_recovers, same_kept}

-- An old server that recovers takes a report

pub took_kept : (index : ℕ → Option Value) (f : Fenced) (e c : ℕ) (r : Report) (range : ℕ → RangePart) (key : ℕ → KeyPart) (old : ℕ → ℕ → Kept) →
    f.bound < e → e < f.world.shared.epoch → In r (f.world.links c).reports → r.inc ≡ (f.old e c).reg → r.epoch ≡ e →
    IsRebuilt f.world.shared r range key →
    Turned f.old old e c (record (f.old e c) { missing = false; new_range = range; new_key = key }) →
    FencedInv index f → FencedInv index (record f { old = old })
took_kept index f e c r range key old low lt at inc epoch built t v =
    let s = f.world.shared in
    let z : Kept = record (f.old e c) { missing = false; new_range = range; new_key = key } in
    let one : 1 ≤ e = omega (arith, v.some, low) in
    record {
      world = v.world;
      history = v.history;
      extra = v.extra;
      old = λ x d o x_lt. kept_at t x d (Old s (f.world.links d) x)
          (λ p q. subst (λ y. Old s (f.world.links d) y z) (sym p) (subst (λ y. Old s (f.world.links y) e z) (sym q) (v.old e c one lt)))
          (λ r. v.old x d o x_lt);
      some = v.some;
      phase = v.phase;
      copies = v.copies;
      top = λ rec x d le x_lt. kept_at t x d (Top s (f.world.links d) x)
          (λ p q. subst (λ y. Top s (f.world.links d) y z) (sym p) (subst (λ y. Top s (f.world.links y) e z) (sym q) (v.top rec e c (omega (arith, low)) lt)))
          (λ r. v.top rec x d le x_lt);
      gather = λ rec x d bl x_lt. kept_at t x d (Gather s (f.world.links d) x)
          (λ p q. subst (λ y. Gather s (f.world.links d) y z) (sym p) (subst (λ y. Gather s (f.world.links y) e z) (sym q)
          (took_gather s (f.world.links c) f.bound e (f.old f.bound c) (f.old e c) r range key (v.world.links c) (v.top rec f.bound c (omega arith) (omega (arith, low, lt))) low at inc epoch built)))
          (λ r. v.gather rec x d bl x_lt);
      mono = λ x y d o lt2 y_lt. omega (arith, same_kept t ℕ (λ k. k.reg) refl x d, same_kept t ℕ (λ k. k.reg) refl y d, v.mono x y d o lt2 y_lt);
      pair = λ rec x y d o lt2 bl y_lt m r' u g.
          let reg = sym (same_kept t ℕ (λ k. k.reg) refl x d) ∙ r' in
          eq_cases y e
          (λ a. eq_cases d c
          (λ b. told rec x y d o lt2 y_lt a b reg g)
          (λ ne. v.pair rec x y d o lt2 bl y_lt (sym (ap (λ k. k.missing) (t.rest y d (inr ne))) ∙ m) reg u g))
          (λ ne. v.pair rec x y d o lt2 bl y_lt (sym (ap (λ k. k.missing) (t.rest y d (inl ne))) ∙ m) reg u g);
      past = λ rec x d o x_lt r' u g. v.past rec x d o x_lt (sym (same_kept t ℕ (λ k. k.reg) refl x d) ∙ r') u g;
    }
  where
    -- the client of the report has joined the epoch
    told : f.world.shared.phase ≡ Recovering → (x y d : ℕ) → 1 ≤ x → x < y → y < f.world.shared.epoch → y ≡ e → d ≡ c → (f.old x d).reg ≡ (f.world.links d).reg → (f.world.links d).inc ≡ (f.world.links d).reg → y ≤ (f.world.links d).epoch
    told rec x y d o lt2 y_lt a b reg g =
        let m = v.mono x y d o lt2 y_lt in
        let hi = (v.old y d (omega (arith, o, lt2)) y_lt).reg in
        let ri : r.inc ≡ (f.old y d).reg = inc ∙ sym (ap (λ k. (f.old k d).reg) a ∙ ap (λ k. (f.old e k).reg) b) in
        let at' : In r (f.world.links d).reports = subst (λ k. In r (f.world.links k).reports) (sym b) at in
        let same : r.inc ≡ (f.world.links d).inc = omega (arith, m, hi, ri, reg, g) in
        omega (arith, ((v.world.links d).standing.reports r at').1 same, epoch, a)

-- It has every report

pub old_finishes_kept : (index : ℕ → Option Value) (f : Fenced) (e : ℕ) (links : ℕ → Link) → f.bound < e → e < f.world.shared.epoch →
    ((c : ℕ) → (f.old e c).missing ≡ false) → ((c : ℕ) → Finished (f.world.links c) (f.old e c) (links c)) →
    FencedInv index f → FencedInv index (record f { world = record f.world { links = links }; bound = e })
old_finishes_kept index f e links low lt all fin v = record {
  world = record {
    links = λ c. finished_inv f.world.shared (f.world.links c) f.bound e (f.old f.bound c) (f.old e c) (v.world.links c) (bt c) (g c) low lt (all c) (links c) (fin c);
    agree = λ c d ne q. agree_below ((links c).top_range q) ((f.world.links c).top_range q) ((links d).top_range q) ((f.world.links d).top_range q) ((links c).top_key q) ((f.world.links c).top_key q) ((links d).top_key q) ((f.world.links d).top_key q) (falls c q) (falls d q) (v.world.agree c d ne q);
  };
  history = record {
    each = λ c. (finished_wrotes (f.world.links c) (links c) (f.old e c) (fin c) (v.history.each c)).0;
    listed = λ k at. subst (λ xs. In k.wrote xs) (sym (wrote_is k.client)) (v.history.listed k at);
    all = λ d x at. v.history.all d x (subst (λ xs. In x xs) (wrote_is d) at);
    once = v.history.once;
    fold = v.history.fold;
    proper = v.history.proper;
  };
  extra = λ c. finished_extra f.world.shared (f.world.links c) (links c) (f.old e c) (fin c) (v.extra c);
  old = λ x c one x_lt. finished_old f.world.shared (f.world.links c) (links c) (f.old e c) (fin c) x (f.old x c) (v.old x c one x_lt);
  some = omega (arith, v.some, low);
  phase = inr (rec, lt);
  copies = λ r x le x_lt. v.copies r x (omega (arith, low, le)) x_lt;
  top = λ r x c le x_lt. finished_top f.world.shared (f.world.links c) f.bound e (f.old f.bound c) (f.old e c) (v.world.links c) (bt c) (g c) low lt (all c) (links c) (fin c) x (f.old x c) le (v.top r x c (omega (arith, low, le)) x_lt);
  gather = λ r x c bl x_lt. finished_gather f.world.shared (f.world.links c) (links c) (f.old e c) (fin c) x (f.old x c) (v.gather r x c (omega (arith, low, bl)) x_lt);
  mono = v.mono;
  pair = λ r x y c one lt2 bl y_lt m rg u i. let k = who c in omega (arith, k.3, v.pair r x y c one lt2 (omega (arith, low, bl)) y_lt m (rg ∙ k.0) (sym k.1 ∙ u) (sym k.2 ∙ i ∙ k.0));
  past = λ r x c one x_lt rg u i. let k = who c in omega (arith, k.3, v.pair r x e c one x_lt low lt (all c) (rg ∙ k.0) (sym k.1 ∙ u) (sym k.2 ∙ i ∙ k.0));
}
  where
    rec : f.world.shared.phase ≡ Recovering
    rec = phase_recovers f.world.shared f.bound v.phase (omega (arith, low, lt))

    bt : (c : ℕ) → Top f.world.shared (f.world.links c) f.bound (f.old f.bound c)
    bt c = v.top rec f.bound c (omega arith) (omega (arith, low, lt))

    g : (c : ℕ) → Gather f.world.shared (f.world.links c) e (f.old e c)
    g c = v.gather rec e c low lt

    falls : (c : ℕ) → (q : ℕ) → Below ((links c).top_range q) ((links c).top_key q) ((f.world.links c).top_range q) ((f.world.links c).top_key q)
    falls c = finished_falls f.world.shared (f.world.links c) f.bound e (f.old f.bound c) (f.old e c) (v.world.links c) (bt c) (g c) low lt (all c) (links c) (fin c)

    who : (c : ℕ) → ((links c).reg ≡ (f.world.links c).reg) × ((links c).up ≡ (f.world.links c).up) × ((links c).inc ≡ (f.world.links c).inc) × ((links c).epoch ≡ (f.world.links c).epoch)
    who c = finished_who (f.world.links c) (links c) (f.old e c) (fin c)

    wrote_is : (c : ℕ) → (links c).wrote ≡ (f.world.links c).wrote
    wrote_is c = (finished_wrotes (f.world.links c) (links c) (f.old e c) (fin c) (v.history.each c)).1
