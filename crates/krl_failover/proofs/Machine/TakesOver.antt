-- A start, which fences the server before it, keeps the invariant.
use Rattle.std.specs.Bool.{◌==◌}
use Rattle.krl_failover.proofs.Machine.Names.{◌≡◌, ◌≢◌, ℕ, suc, ◌≤◌, ◌<◌, Bool, true, false, Option, ◌⊎◌, inl, inr, refl, sym, ap, subst, ◌∙◌, ⊎_elim, true≢false, arith, RangePart, KeyPart, Value, if◌then◌else◌, eq-eqb, ne_eqb}
use Rattle.krl_failover.proofs.Machine.Names.{Down, Recovering, Serving, Report, Shared, Link, IsRebuilt, no_range, no_key}
use Rattle.krl_failover.proofs.Machine.Names.{World, IsMissing, crash, start}
use Rattle.krl_machine.proofs.Worlds.{eq_cases}
use Rattle.krl_machine.proofs.Runs.{world_kept}
use Rattle.krl_machine.proofs.Writes.{history_kept}
use Rattle.krl_failover.specs.Fenced.{Kept, kept_of, Fenced}
use Rattle.krl_failover.proofs.Machine.Basics.{Old, Top, Gather}
use Rattle.krl_failover.proofs.Machine.Invariant.{Past, FencedInv, is_on}

module _ (index : ℕ → Option Value) (f : Fenced) (missing : ℕ → Bool) (is : (c : ℕ) → IsMissing (f.world.links c) (missing c)) (v : FencedInv index f) where
  abbrev shared' : Shared
  shared' = record f.world.shared { epoch = suc f.world.shared.epoch; phase = Recovering }

  abbrev link' : ℕ → Link
  link' c = record (f.world.links c) { missing = missing c; last_push = 0; acked = true; new_range = no_range; new_key = no_key }

  abbrev down : World
  down = record { shared = record f.world.shared { phase = Down }; links = f.world.links; log = f.world.log }

  abbrev old' : ℕ → ℕ → Kept
  old' e c = if e == f.world.shared.epoch then kept_of (f.world.links c) else f.old e c

  old_new : (c : ℕ) → old' f.world.shared.epoch c ≡ kept_of (f.world.links c)
  old_new c = ap (λ b. if b then kept_of (f.world.links c) else f.old f.world.shared.epoch c) (eq-eqb f.world.shared.epoch f.world.shared.epoch refl)

  old_old : (e c : ℕ) → e ≢ f.world.shared.epoch → old' e c ≡ f.old e c
  old_old e c ne = ap (λ b. if b then kept_of (f.world.links c) else f.old e c) (ne_eqb e f.world.shared.epoch ne)

  absent : (c : ℕ) → missing c ≡ false → (f.world.links c).up ≡ true → (f.world.links c).inc ≡ (f.world.links c).reg → ⊥
  absent c m u e =
      let i = v.world.links c in
      ⊎_elim (λ (a : (f.world.links c).left ≡ true). true≢false (sym u ∙ i.standing.stays a e)) (λ (a : (f.world.links c).reg ≡ 0). omega (arith, i.standing.counts u, a, e)) (is c m)

  new_old : (c : ℕ) → Old shared' (link' c) f.world.shared.epoch (kept_of (f.world.links c))
  new_old c =
      let i = v.world.links c in let x = v.extra c in let w = v.history.each c in
      record {
        reg = omega arith;
        done = λ r. omega arith;
        session = record {
          seen = λ r g h. i.counting.seen g h;
          acked = λ r g h a. i.counting.acked g h a;
          early = λ r g h. i.counting.early g h;
          pushes = λ r p at g h. (i.counting.pushes p at).last_push g h;
        };
        heads = λ r. x.seen;
        present = λ r m u e. absurd (absent c m u e);
        judged = record { did = w.did; did_not = w.did_not };
      }

  past_old : (e c : ℕ) → Old f.world.shared (f.world.links c) e (f.old e c) → Old shared' (link' c) e (f.old e c)
  past_old e c o = record {
    reg = o.reg;
    done = o.done;
    session = o.session;
    heads = o.heads;
    present = λ r m u g. absurd (absent c m u g);
    judged = o.judged;
  }

  each_old : (e c : ℕ) → 1 ≤ e → e < suc f.world.shared.epoch → Old shared' (link' c) e (old' e c)
  each_old e c one lt = eq_cases e f.world.shared.epoch
      (λ a. subst (λ x. Old shared' (link' c) x (old' x c)) (sym a) (subst (Old shared' (link' c) f.world.shared.epoch) (sym (old_new c)) (new_old c)))
      (λ ne. subst (Old shared' (link' c) e) (sym (old_old e c ne)) (past_old e c (v.old e c one (omega (arith, lt, ne)))))

  served_top : (c : ℕ) → Top shared' (link' c) f.world.shared.epoch (kept_of (f.world.links c))
  served_top c =
      let i = v.world.links c in
      record {
        sent = record {
          same = λ r. (refl, refl);
          low = λ p at e. (i.counting.pushes p at).epoch;
          told = λ zr r at a b d x xat e g. absurd (omega (arith, (i.standing.reports x xat).2, g));
          off = λ x xat e g. absurd (omega (arith, (i.standing.reports x xat).2, g));
          order = λ x y xat yat e a g. absurd (omega (arith, (i.standing.reports y yat).2, g));
        };
        belief = λ zr r at a b d e q lo hi.
            let h = (i.counting.heads r.head (i.counting.releases r at)).1 (a ∙ sym e) in
            let now : (f.world.links c).epoch ≡ f.world.shared.epoch = omega (arith, h.0, b, i.standing.epoch) in
            let k = h.1 (b ∙ sym now) in
            let n = (i.counting.seen e now).0 in
            i.released r at (a ∙ sym e) (b ∙ sym now) (omega (arith, k, n, d)) q lo hi;
        reports = λ lf x xat e g. absurd (omega (arith, (i.standing.reports x xat).2, g));
        covers = λ x xat e g. absurd (omega (arith, (i.standing.reports x xat).2, g));
        new = inl (λ q. (refl, refl));
      }

  again_top : (c b : ℕ) (z : Kept) → Top f.world.shared (f.world.links c) b z → Top shared' (link' c) b z
  again_top c b z t = record {
    sent = t.sent;
    belief = t.belief;
    reports = t.reports;
    covers = t.covers;
    new = inl (λ q. (refl, refl));
  }

  abbrev Phases : Type 0
  Phases = ((f.world.shared.phase ≡ Serving) × (f.bound ≡ f.world.shared.epoch)) ⊎ ((f.world.shared.phase ≡ Recovering) × (f.bound < f.world.shared.epoch))

  abbrev copy' : ℕ → ℕ → Option Value
  copy' e = if e == f.world.shared.epoch then f.world.shared.index else f.copy e

  copy_new : copy' f.world.shared.epoch ≡ f.world.shared.index
  copy_new = ap (λ b. if b then f.world.shared.index else f.copy f.world.shared.epoch) (eq-eqb f.world.shared.epoch f.world.shared.epoch refl)

  copy_old : (e : ℕ) → e ≢ f.world.shared.epoch → copy' e ≡ f.copy e
  copy_old e ne = ap (λ b. if b then f.world.shared.index else f.copy e) (ne_eqb e f.world.shared.epoch ne)

  -- before this start the server recovered, if an earlier epoch is not yet past
  recovered : ((f.world.shared.phase ≡ Serving) × (f.bound ≡ f.world.shared.epoch)) ⊎ ((f.world.shared.phase ≡ Recovering) × (f.bound < f.world.shared.epoch)) → f.bound < f.world.shared.epoch → f.world.shared.phase ≡ Recovering
  recovered (inl a) lt = absurd (omega (arith, a.1, lt))
  recovered (inr a) lt = a.0

  each_copy : (e : ℕ) → f.bound ≤ e → e < suc f.world.shared.epoch → copy' e ≡ f.world.shared.index
  each_copy e le lt = eq_cases e f.world.shared.epoch
      (λ a. subst (λ x. copy' x ≡ f.world.shared.index) (sym a) copy_new)
      (λ ne. let lt' : e < f.world.shared.epoch = omega (arith, lt, ne) in copy_old e ne ∙ v.copies (recovered v.phase (omega (arith, le, lt'))) e le lt')

  each_top : (e c : ℕ) → f.bound ≤ e → e < suc f.world.shared.epoch → Top shared' (link' c) e (old' e c)
  each_top e c le lt = eq_cases e f.world.shared.epoch
      (λ a. subst (λ x. Top shared' (link' c) x (old' x c)) (sym a) (subst (Top shared' (link' c) f.world.shared.epoch) (sym (old_new c)) (served_top c)))
      (λ ne. let lt' : e < f.world.shared.epoch = omega (arith, lt, ne) in
      subst (Top shared' (link' c) e) (sym (old_old e c ne)) (again_top c e (f.old e c) (v.top (recovered v.phase (omega (arith, le, lt'))) e c le lt')))

  rebuilt_on : (x : Report) (ranges : ℕ → RangePart) (keys : ℕ → KeyPart) → IsRebuilt f.world.shared x ranges keys → IsRebuilt shared' x ranges keys
  rebuilt_on x ranges keys b = record { row = b.row; above = b.above; key_above = b.key_above; least = b.least }

  new_gather : (c : ℕ) → f.world.shared.phase ≡ Recovering → f.bound < f.world.shared.epoch → Gather shared' (link' c) f.world.shared.epoch (kept_of (f.world.links c))
  new_gather c rec lt =
      let i = v.world.links c in
      record {
        new = ⊎_elim (λ a. inl a) (λ a. inr (a.0, a.1, a.2, a.3, rebuilt_on a.0 (f.world.links c).new_range (f.world.links c).new_key a.4)) (v.top rec f.bound c (omega arith) lt).new;
        present = λ m r u g. ⊎_elim (λ a. inl (omega (arith, a))) (λ a. inr (a.0, λ n at h. omega (arith, a.1 n at h))) (i.standing.present m u g);
        high = λ m h. i.recovery.high rec m;
        later = λ m h x xat xi xe. absurd (omega (arith, (i.standing.reports x xat).2, xe));
      }

  again_gather : (c e : ℕ) (z : Kept) → Gather f.world.shared (f.world.links c) e z → Gather shared' (link' c) e z
  again_gather c e z g = record {
    new = ⊎_elim (λ a. inl a) (λ a. inr (a.0, a.1, a.2, a.3, rebuilt_on a.0 z.new_range z.new_key a.4)) g.new;
    present = g.present;
    high = g.high;
    later = g.later;
  }

  each_gather : (e c : ℕ) → f.bound < e → e < suc f.world.shared.epoch → Gather shared' (link' c) e (old' e c)
  each_gather e c low lt = eq_cases e f.world.shared.epoch
      (λ a. let lt' : f.bound < f.world.shared.epoch = omega (arith, low, a) in subst (λ x. Gather shared' (link' c) x (old' x c)) (sym a) (subst (Gather shared' (link' c) f.world.shared.epoch) (sym (old_new c)) (new_gather c (recovered v.phase lt') lt')))
      (λ ne. let lt' : e < f.world.shared.epoch = omega (arith, lt, ne) in
      subst (Gather shared' (link' c) e) (sym (old_old e c ne)) (again_gather c e (f.old e c) (v.gather (recovered v.phase (omega (arith, low, lt'))) e c low lt')))

  each_mono : (e d c : ℕ) → 1 ≤ e → e < d → d < suc f.world.shared.epoch → (old' e c).reg ≤ (old' d c).reg
  each_mono e d c one lt d_lt =
      let e_lt : e < f.world.shared.epoch = omega (arith, lt, d_lt) in
      let a = ap (λ z. z.reg) (old_old e c (λ x. omega (arith, e_lt, x))) in
      eq_cases d f.world.shared.epoch
      (λ b. subst (λ x. (old' e c).reg ≤ (old' x c).reg) (sym b) (omega (arith, a, ap (λ z. z.reg) (old_new c), (v.old e c one e_lt).reg)))
      (λ ne. omega (arith, a, ap (λ z. z.reg) (old_old d c ne), v.mono e d c one lt (omega (arith, d_lt, ne))))

  each_pair : (e d c : ℕ) → 1 ≤ e → e < d → f.bound < d → d < suc f.world.shared.epoch → (old' d c).missing ≡ false → Past (link' c) d (old' e c)
  each_pair e d c one lt low d_lt m r u g =
      let e_lt : e < f.world.shared.epoch = omega (arith, lt, d_lt) in
      let r' = ap (λ z. z.reg) (sym (old_old e c (λ x. omega (arith, e_lt, x)))) ∙ r in
      eq_cases d f.world.shared.epoch
      (λ b. omega (arith, b, (v.old e c one e_lt).present r' (sym (ap (λ z. z.missing) (subst (λ x. old' x c ≡ kept_of (f.world.links c)) (sym b) (old_new c))) ∙ m) u g))
      (λ ne. let lt' : d < f.world.shared.epoch = omega (arith, d_lt, ne) in
      v.pair (recovered v.phase (omega (arith, low, lt'))) e d c one lt low lt' (sym (ap (λ z. z.missing) (old_old d c ne)) ∙ m) r' u g)

  each_past : ((f.world.shared.phase ≡ Serving) × (f.bound ≡ f.world.shared.epoch)) ⊎ ((f.world.shared.phase ≡ Recovering) × (f.bound < f.world.shared.epoch)) → (e c : ℕ) → 1 ≤ e → e < f.bound → (old' e c).reg ≡ (f.world.links c).reg → (f.world.links c).up ≡ true → (f.world.links c).inc ≡ (f.world.links c).reg → f.bound ≤ (f.world.links c).epoch
  each_past (inl a) e c one lt r u g =
      let r' = ap (λ z. z.reg) (sym (old_old e c (λ x. omega (arith, a.1, lt, x)))) ∙ r in
      let p = (v.old e c one (omega (arith, a.1, lt))).present r' ((v.world.links c).standing.serving a.0) u g in
      omega (arith, p, a.1)
  each_past (inr a) e c one lt r u g = v.past a.0 e c one lt (ap (λ z. z.reg) (sym (old_old e c (λ x. omega (arith, a.1, lt, x)))) ∙ r) u g

  low_bound : ((f.world.shared.phase ≡ Serving) × (f.bound ≡ f.world.shared.epoch)) ⊎ ((f.world.shared.phase ≡ Recovering) × (f.bound < f.world.shared.epoch)) → f.bound < suc f.world.shared.epoch
  low_bound (inl a) = omega (arith, a.1)
  low_bound (inr a) = omega (arith, a.1)

  on : f.world.shared.phase ≢ Down
  on = is_on f.world.shared f.bound v.phase

  pub takes_kept : FencedInv index (record { world = record { shared = shared'; links = λ c. link' c; log = f.world.log }; bound = f.bound; old = λ e c. old' e c; copy = λ e. copy' e })
  takes_kept = record {
    world = world_kept down _ (start missing refl is) (world_kept f.world down (crash on) v.world);
    history = history_kept index down _ (start missing refl is) (world_kept f.world down (crash on) v.world) (history_kept index f.world down (crash on) v.world v.history);
    extra = λ c. let x = v.extra c in record { heads = x.heads; reports = x.reports; seen = λ a at e g. absurd (omega (arith, (v.world.links c).counting.head_epochs a at, g)) };
    old = each_old;
    some = v.some;
    phase = inr (refl, low_bound v.phase);
    copies = λ r. each_copy;
    top = λ r. each_top;
    gather = λ r. each_gather;
    mono = each_mono;
    pair = λ r. each_pair;
    past = λ r. each_past v.phase;
  }
