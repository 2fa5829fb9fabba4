-- An old server sends Epoch, or counts its last push as acknowledged.
use Rattle.krl_failover.proofs.Machine.Names.{◌≡◌, ℕ, ◌≤◌, ◌<◌, ◌∷◌, Bool, true, false, Option, ◌⊎◌, inl, inr, refl, sym, ap, subst, ◌∙◌, ⊎_elim, arith, cases_lt, each_more, In, Value}
use Rattle.krl_failover.proofs.Machine.Names.{Head, Notice, Shared, Link}
use Rattle.krl_failover.proofs.Machine.Names.{Changed}
use Rattle.krl_machine.proofs.Basics.{Inv}
use Rattle.krl_machine.proofs.Writes.{history_link}
use Rattle.krl_failover.specs.Fenced.{Kept, Fenced, Turned}
use Rattle.krl_failover.proofs.Machine.Basics.{Extra, Old, Top, Gather}
use Rattle.krl_failover.proofs.Machine.Pushes.{notice_inv}
use Rattle.krl_failover.proofs.Machine.Invariant.{Past, FencedInv, link_at, kept_at, changed_world, same_kept}

-- An old server sends Epoch

notice_gather : (s : Shared) (l : Link) (n : Notice) (e : ℕ) (z : Kept) → 1 ≤ e → (z.missing ≡ false → n.inc ≡ l.reg → l.up ≡ true → l.inc ≡ l.reg → (e ≤ n.epoch) ⊎ (e ≤ l.epoch)) → Gather s l e z → Gather s (record l { notices = n ∷ l.notices }) e z
notice_gather s l n e z one ok g = record {
  new = g.new;
  high = g.high;
  later = g.later;
  present = λ m r u f. ⊎_elim (λ a. inl a)
      (λ a. inr (
        a.0,
        each_more (λ k. k.inc ≡ l.reg → e ≤ k.epoch) n l.notices
            (λ h. ⊎_elim (λ (x : e ≤ n.epoch). x) (λ (x : e ≤ l.epoch). absurd (omega (arith, a.0, x, one))) (ok m h u f)) a.1,
      ))
      (g.present m r u f);
}

pub notifies_kept : (index : ℕ → Option Value) (f : Fenced) (e c : ℕ) (links : ℕ → Link) → 1 ≤ e → e < f.world.shared.epoch →
    Changed f.world.links links c (record (f.world.links c) { notices = record { inc = (f.old e c).reg; epoch = e } ∷ (f.world.links c).notices }) →
    FencedInv index f → FencedInv index (record f { world = record f.world { links = links } })
notifies_kept index f e c links one lt ch v =
    let s = f.world.shared in
    let n : Notice = record { inc = (f.old e c).reg; epoch = e } in
    let l : Link = record (f.world.links c) { notices = n ∷ (f.world.links c).notices } in
    record {
      world = changed_world index f c l links v ch (notice_inv s (f.world.links c) e (f.old e c) lt (v.old e c one lt) (v.world.links c)) (λ q. ((omega arith, omega arith), omega arith));
      history = history_link index f.world c l links ch refl v.history (v.history.each c);
      extra = λ d. link_at ch d (Extra s) (λ a. v.extra c) (λ ne. v.extra d);
      old = λ x d o x_lt. link_at ch d (λ m. Old s m x (f.old x d)) (λ a. subst (λ y. Old s l x (f.old x y)) (sym a) (v.old x c o x_lt)) (λ ne. v.old x d o x_lt);
      some = v.some;
      phase = v.phase;
      copies = v.copies;
      mono = v.mono;
      top = λ rec x d le x_lt. link_at ch d (λ m. Top s m x (f.old x d)) (λ a. subst (λ y. Top s l x (f.old x y)) (sym a) (v.top rec x c le x_lt)) (λ ne. v.top rec x d le x_lt);
      gather = λ rec x d low x_lt. link_at ch d (λ m. Gather s m x (f.old x d)) (λ a. subst (λ y. Gather s l x (f.old x y)) (sym a)
          (notice_gather s (f.world.links c) n x (f.old x c) (omega (arith, v.some, low))
          (λ m h u g. ⊎_elim (λ (k : e < x). inr (v.pair rec e x c one k low x_lt m h u g)) (λ (k : x ≤ e). inl k) (cases_lt e x))
          (v.gather rec x c low x_lt))) (λ ne. v.gather rec x d low x_lt);
      pair = λ rec x y d o lt2 low y_lt m. link_at ch d (λ k. Past k y (f.old x d)) (λ a. subst (λ w. Past l y (f.old x w)) (sym a) (v.pair rec x y c o lt2 low y_lt (subst (λ w. (f.old y w).missing ≡ false) a m))) (λ ne. v.pair rec x y d o lt2 low y_lt m);
      past = λ rec x d o x_lt. link_at ch d (λ m. Past m f.bound (f.old x d)) (λ a. subst (λ y. Past l f.bound (f.old x y)) (sym a) (v.past rec x c o x_lt)) (λ ne. v.past rec x d o x_lt);
    }

-- It counts the last push as acknowledged

heard_old : (s : Shared) (l : Link) (e : ℕ) (z : Kept) (a : Head) → Inv s l → In a l.heads → a.inc ≡ z.reg → a.epoch ≡ e → a.seen ≡ z.last → Old s l e z → Old s l e (record z { acked = true })
heard_old s l e z a i at inc epoch seen o = record {
  reg = o.reg;
  done = o.done;
  session = record {
    seen = o.session.seen;
    acked = λ r f g t. let h = ((i.counting.heads a at).1 (inc ∙ r ∙ sym f)).1 (epoch ∙ sym g) in omega (arith, h, (o.session.seen r f g).0, seen);
    early = o.session.early;
    pushes = o.session.pushes;
  };
  heads = o.heads;
  present = o.present;
  judged = o.judged;
}

pub hears_kept : (index : ℕ → Option Value) (f : Fenced) (e c : ℕ) (a : Head) (old : ℕ → ℕ → Kept) → 1 ≤ e → e < f.world.shared.epoch →
    In a (f.world.links c).heads → a.inc ≡ (f.old e c).reg → a.epoch ≡ e → a.seen ≡ (f.old e c).last →
    Turned f.old old e c (record (f.old e c) { acked = true }) → FencedInv index f → FencedInv index (record f { old = old })
hears_kept index f e c a old one lt at inc epoch seen t v =
    let s = f.world.shared in
    let z : Kept = record (f.old e c) { acked = true } in
    record {
      world = v.world;
      history = v.history;
      extra = v.extra;
      old = λ x d o x_lt. kept_at t x d (Old s (f.world.links d) x)
          (λ p q. subst (λ y. Old s (f.world.links d) y z) (sym p) (subst (λ y. Old s (f.world.links y) e z) (sym q) (heard_old s (f.world.links c) e (f.old e c) a (v.world.links c) at inc epoch seen (v.old e c one lt))))
          (λ r. v.old x d o x_lt);
      some = v.some;
      phase = v.phase;
      copies = v.copies;
      top = λ rec x d le x_lt. kept_at t x d (Top s (f.world.links d) x)
          (λ p q. subst (λ y. Top s (f.world.links y) x z) (sym q) (subst (λ y. Top s (f.world.links c) x (f.old y c)) p (v.top rec x c le x_lt)))
          (λ r. v.top rec x d le x_lt);
      gather = λ rec x d low x_lt. kept_at t x d (Gather s (f.world.links d) x)
          (λ p q. subst (λ y. Gather s (f.world.links y) x z) (sym q) (subst (λ y. Gather s (f.world.links c) x (f.old y c)) p (v.gather rec x c low x_lt)))
          (λ r. v.gather rec x d low x_lt);
      mono = λ x y d o lt2 y_lt. omega (arith, same_kept t ℕ (λ k. k.reg) refl x d, same_kept t ℕ (λ k. k.reg) refl y d, v.mono x y d o lt2 y_lt);
      pair = λ rec x y d o lt2 low y_lt m r. v.pair rec x y d o lt2 low y_lt (sym (same_kept t Bool (λ k. k.missing) refl y d) ∙ m) (sym (same_kept t ℕ (λ k. k.reg) refl x d) ∙ r);
      past = λ rec x d o x_lt. kept_at t x d (Past (f.world.links d) f.bound)
          (λ p q. λ r u g. v.past rec x d o x_lt (ap (λ y. (f.old y d).reg) p ∙ ap (λ y. (f.old e y).reg) q ∙ r) u g)
          (λ r. v.past rec x d o x_lt);
    }
