-- A push of an old server.
use Rattle.krl_failover.proofs.Machine.Names.{◌≡◌, ◌≢◌, ℕ, suc, ◌≤◌, ◌<◌, ◌∷◌, Bool, true, false, Option, ◌⊎◌, inl, inr, refl, sym, ap, subst, ◌∙◌, true≢false, arith, Value}
use Rattle.krl_failover.proofs.Machine.Names.{Recovering, Serving, Push, Shared, Link, IsLive}
use Rattle.krl_failover.proofs.Machine.Names.{Changed}
use Rattle.krl_machine.proofs.Basics.{Inv, LiveOk}
use Rattle.krl_machine.proofs.Writes.{history_link}
use Rattle.krl_failover.specs.Fenced.{Kept, Fenced, Turned, MayPush}
use Rattle.krl_failover.proofs.Machine.Basics.{Extra, Old, Top, Gather}
use Rattle.krl_failover.proofs.Machine.Pushes.{push_inv, push_old, push_other, push_top, push_top_other, push_wrotes}
use Rattle.krl_failover.proofs.Machine.Invariant.{Past, FencedInv, link_at, kept_at, changed_world, same_kept}

-- A push of any old server, once it is known to be in order if it is live, and what is stated of the bound

module _ (index : ℕ → Option Value) (f : Fenced) (e c : ℕ) (p : Push) (links : ℕ → Link) (old : ℕ → ℕ → Kept) (one : 1 ≤ e) (lt : e < f.world.shared.epoch)
    (may : MayPush (f.world.links c) e (f.old e c) p) (v : FencedInv index f) (ok : IsLive (f.world.links c) p → LiveOk f.world.shared (f.world.links c) p)
    (served : e ≤ f.bound)
    (ch : Changed f.world.links links c (record (f.world.links c) { pushes = p ∷ (f.world.links c).pushes }))
    (t : Turned f.old old e c (record (f.old e c) { last = suc (f.old e c).last; acked = false })) where
  abbrev sh : Shared
  sh = f.world.shared

  abbrev ln : Link
  ln = record (f.world.links c) { pushes = p ∷ (f.world.links c).pushes }

  abbrev zn : Kept
  zn = record (f.old e c) { last = suc (f.old e c).last; acked = false }

  i : Inv f.world.shared (f.world.links c)
  i = v.world.links c

  o : Old f.world.shared (f.world.links c) e (f.old e c)
  o = v.old e c one lt

  other : (x d : ℕ) → d ≡ c → (x ≢ e) ⊎ (d ≢ c) → x ≢ e
  other x d a (inl ne) = ne
  other x d a (inr ne) = absurd (ne a)

  olds : (x d : ℕ) → 1 ≤ x → x < f.world.shared.epoch → Old f.world.shared (links d) x (old x d)
  olds x d x_one x_lt = link_at ch d (λ m. Old f.world.shared m x (old x d))
      (λ a. kept_at t x d (Old f.world.shared ln x)
      (λ b g. subst (λ y. Old f.world.shared ln y zn) (sym b) (push_old f.world.shared (f.world.links c) e (f.old e c) p i o one lt may))
      (λ g. push_other f.world.shared (f.world.links c) e (f.old e c) p i o one lt may x (f.old x d) (other x d a g) (subst (λ y. Old f.world.shared (f.world.links y) x (f.old x d)) a (v.old x d x_one x_lt))))
      (λ ne. kept_at t x d (Old f.world.shared (f.world.links d) x) (λ b g. absurd (ne g)) (λ g. v.old x d x_one x_lt))

  tops : f.world.shared.phase ≡ Recovering → (x d : ℕ) → f.bound ≤ x → x < f.world.shared.epoch → Top f.world.shared (links d) x (old x d)
  tops rec x d le x_lt = link_at ch d (λ m. Top f.world.shared m x (old x d))
      (λ a. kept_at t x d (Top f.world.shared ln x)
      (λ b g. subst (λ y. Top f.world.shared ln y zn) (sym b) (push_top f.world.shared (f.world.links c) e (f.old e c) p i o one lt may (subst (λ y. Top f.world.shared (f.world.links c) y (f.old y c)) b (v.top rec x c le x_lt))))
      (λ g. push_top_other f.world.shared (f.world.links c) e (f.old e c) p i o one lt may x (f.old x d) (λ k. omega arith) (subst (λ y. Top f.world.shared (f.world.links y) x (f.old x d)) a (v.top rec x d le x_lt))))
      (λ ne. kept_at t x d (Top f.world.shared (f.world.links d) x) (λ b g. absurd (ne g)) (λ g. v.top rec x d le x_lt))

  gathers : f.world.shared.phase ≡ Recovering → (x d : ℕ) → f.bound < x → x < f.world.shared.epoch → Gather f.world.shared (links d) x (old x d)
  gathers rec x d le x_lt = link_at ch d (λ m. Gather f.world.shared m x (old x d))
      (λ a. kept_at t x d (Gather f.world.shared ln x)
      (λ b g. absurd (omega (arith, b, served, le)))
      (λ g. subst (λ y. Gather f.world.shared (f.world.links y) x (f.old x d)) a (v.gather rec x d le x_lt)))
      (λ ne. kept_at t x d (Gather f.world.shared (f.world.links d) x) (λ b g. absurd (ne g)) (λ g. v.gather rec x d le x_lt))

  pairs : f.world.shared.phase ≡ Recovering → (x y d : ℕ) → 1 ≤ x → x < y → f.bound < y → y < f.world.shared.epoch → (old y d).missing ≡ false → Past (links d) y (old x d)
  pairs rec x y d x_one lt2 bl y_lt m = link_at ch d (λ k. Past k y (old x d))
      (λ a r u g. v.pair rec x y c x_one lt2 bl y_lt (subst (λ w. (f.old y w).missing ≡ false) a (sym (same_kept t Bool (λ k. k.missing) refl y d) ∙ m)) (ap (λ w. (f.old x w).reg) (sym a) ∙ sym (same_kept t ℕ (λ k. k.reg) refl x d) ∙ r) u g)
      (λ ne r u g. v.pair rec x y d x_one lt2 bl y_lt (sym (same_kept t Bool (λ k. k.missing) refl y d) ∙ m) (sym (same_kept t ℕ (λ k. k.reg) refl x d) ∙ r) u g)

  pasts : f.world.shared.phase ≡ Recovering → (x d : ℕ) → 1 ≤ x → x < f.bound → Past (links d) f.bound (old x d)
  pasts rec x d x_one x_lt = link_at ch d (λ m. Past m f.bound (old x d))
      (λ a. kept_at t x d (Past ln f.bound)
      (λ b g. λ r u h. v.past rec e c one (omega (arith, b, x_lt)) r u h)
      (λ g. subst (λ y. Past (f.world.links y) f.bound (f.old x d)) a (v.past rec x d x_one x_lt)))
      (λ ne. kept_at t x d (Past (f.world.links d) f.bound) (λ b g. absurd (ne g)) (λ g. v.past rec x d x_one x_lt))

  pub pushed_kept : FencedInv index (record f { world = record f.world { links = links }; old = old })
  pushed_kept = record {
    world = changed_world index f c ln links v ch (push_inv f.world.shared (f.world.links c) e (f.old e c) p i o one lt may ok) (λ q. ((omega arith, omega arith), omega arith));
    history = history_link index f.world c ln links ch refl v.history (push_wrotes f.world.shared (f.world.links c) e (f.old e c) p i o one lt may (v.history.each c));
    extra = λ d. link_at ch d (Extra f.world.shared) (λ a. v.extra c) (λ ne. v.extra d);
    old = olds;
    some = v.some;
    phase = v.phase;
    copies = v.copies;
    top = tops;
    gather = gathers;
    mono = λ x y d o' lt2 y_lt. omega (arith, same_kept t ℕ (λ k. k.reg) refl x d, same_kept t ℕ (λ k. k.reg) refl y d, v.mono x y d o' lt2 y_lt);
    pair = pairs;
    past = pasts;
  }

-- a push of a server that is past, or to an incarnation that is gone, is never live
pub stale_dead : (index : ℕ → Option Value) (f : Fenced) (e c : ℕ) (p : Push) → 1 ≤ e → e < f.world.shared.epoch →
    (e < f.bound) ⊎ ((f.old e c).reg ≢ (f.world.links c).reg) ⊎ ((f.world.links c).left ≡ true) →
    MayPush (f.world.links c) e (f.old e c) p → FencedInv index f → IsLive (f.world.links c) p → ⊥
stale_dead index f e c p one lt why may v live =
    let i = v.world.links c in
    let o = v.old e c one lt in
    let same : (f.old e c).reg ≡ (f.world.links c).reg = omega (arith, may.inc, live.inc, o.reg, i.standing.reg) in
    let now : (f.world.links c).inc ≡ (f.world.links c).reg = omega (arith, may.inc, live.inc, o.reg, i.standing.reg) in
    by_why same now why
  where
    early : (f.old e c).reg ≡ (f.world.links c).reg → (f.world.links c).inc ≡ (f.world.links c).reg → e < f.bound → ((f.world.shared.phase ≡ Serving) × (f.bound ≡ f.world.shared.epoch)) ⊎ ((f.world.shared.phase ≡ Recovering) × (f.bound < f.world.shared.epoch)) → ⊥
    early same now less (inl a) = omega (arith, (v.old e c one lt).present same ((v.world.links c).standing.serving a.0) live.up now, live.epoch, may.epoch, lt)
    early same now less (inr a) = omega (arith, v.past a.0 e c one less same live.up now, live.epoch, may.epoch, less)

    by_why : (f.old e c).reg ≡ (f.world.links c).reg → (f.world.links c).inc ≡ (f.world.links c).reg → (e < f.bound) ⊎ ((f.old e c).reg ≢ (f.world.links c).reg) ⊎ ((f.world.links c).left ≡ true) → ⊥
    by_why same now (inl less) = early same now less v.phase
    by_why same now (inr (inl ne)) = ne same
    by_why same now (inr (inr left)) = true≢false (sym live.up ∙ (v.world.links c).standing.stays left now)
