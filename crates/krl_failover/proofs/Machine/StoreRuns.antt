-- The steps of clients and of the store's server keep the invariant.
use Rattle.krl_failover.proofs.Machine.Names.{◌≡◌, ◌≢◌, ℕ, zero, suc, ◌≤◌, ◌<◌, ◌∷◌, true, false, Option, ◌⊎◌, inl, inr, refl, sym, ap, subst, ◌∙◌, true≢false, arith, each_more, KeyPart, Value}
use Rattle.krl_failover.proofs.Machine.Names.{Down, Recovering, Serving, Shared, Link, Wrote}
use Rattle.krl_failover.proofs.Machine.Names.{World, Step, at_link, raises, applies, crash, start, finish, wrote_by, LinkStep, starts, crashes, leaves, joins, registers}
use Rattle.krl_machine.proofs.Basics.{Inv}
use Rattle.krl_machine.proofs.Links.{not_both}
use Rattle.krl_machine.proofs.Worlds.{WorldInv}
use Rattle.krl_machine.proofs.Runs.{world_kept}
use Rattle.krl_machine.proofs.Writes.{Wrotes, history_kept}
use Rattle.krl_failover.specs.Fenced.{Kept, Fenced}
use Rattle.krl_failover.proofs.Machine.Basics.{Extra, Old, Top, Gather}
use Rattle.krl_failover.proofs.Machine.KeptCounts.{extra_kept, old_kept}
use Rattle.krl_failover.proofs.Machine.KeptBounds.{top_kept, gather_kept}
use Rattle.krl_failover.proofs.Machine.Invariant.{Past, FencedInv, link_at, phase_serves, is_on}

-- A step of a client, or of the store's server

applied_old : (s : Shared) (l : Link) (index : ℕ → Option Value) (w : Wrote) (key : ℕ → KeyPart) (e : ℕ) (z : Kept) → w.inc ≡ l.reg → w.number ≡ suc l.done → Old s l e z → Old (record s { index = index }) (record l { done = suc l.done; applied = true; wrote = w ∷ l.wrote; top_key = key }) e z
applied_old s l index w key e z winc wnum o = record {
  reg = o.reg;
  done = λ r. omega (arith, o.done r);
  session = o.session;
  heads = o.heads;
  present = o.present;
  judged = record {
    did = λ a b m at f g. let d = o.judged.did a b m at f g in (d.0, inr d.1, d.2, d.3);
    did_not = λ a. each_more (λ x. x.inc ≡ z.reg → x.number ≢ z.done) w l.wrote (λ g h. omega (arith, o.done (sym g ∙ winc), wnum, h)) (o.judged.did_not a);
  };
}

runs_extra : (w u : World) → Step w u → u.shared.phase ≡ w.shared.phase → w.shared.phase ≢ Down → WorldInv w → ((c : ℕ) → Extra w.shared (w.links c)) → (d : ℕ) → Extra u.shared (u.links d)
runs_extra w u (at_link c l links step ch) same on i x d = link_at ch d (Extra w.shared) (λ e. extra_kept w.shared (w.links c) l step (i.links c) (x c)) (λ ne. x d)
runs_extra w u (raises c range key links serving row up agrees ch) same on i x d = link_at ch d (Extra w.shared) (λ e. x c) (λ ne. x d)
runs_extra w u (applies c m index key links at ok acked next ap' ch) same on i x d = link_at ch d (Extra (record w.shared { index = index })) (λ e. x c) (λ ne. x d)
runs_extra w u (crash up) same on i x d = absurd (on (sym same))
runs_extra w u (start missing down is) same on i x d = absurd (on down)
runs_extra w u (finish rec all) same on i x d = absurd (not_both refl (same ∙ rec))

runs_old : (w u : World) (old : ℕ → ℕ → Kept) (e : ℕ) → Step w u → u.shared.phase ≡ w.shared.phase → w.shared.phase ≢ Down → WorldInv w → ((c : ℕ) → Wrotes (w.links c)) → e < w.shared.epoch → ((c : ℕ) → Old w.shared (w.links c) e (old e c)) → (d : ℕ) → Old u.shared (u.links d) e (old e d)
runs_old w u old e (at_link c l links step ch) same on i h lt o d = link_at ch d (λ m. Old w.shared m e (old e d)) (λ a. subst (λ x. Old w.shared l e (old e x)) (sym a) (old_kept w.shared (w.links c) l e (old e c) step lt (i.links c) (h c) (o c))) (λ ne. o d)
runs_old w u old e (raises c range key links serving row up agrees ch) same on i h lt o d = link_at ch d (λ m. Old w.shared m e (old e d)) (λ a. subst (λ x. Old w.shared (record (w.links c) { top_range = range; top_key = key }) e (old e x)) (sym a) (o c)) (λ ne. o d)
runs_old w u old e (applies c m index key links at ok acked next ap' ch) same on i h lt o d = link_at ch d (λ y. Old (record w.shared { index = index }) y e (old e d))
    (λ a. subst (λ x. Old (record w.shared { index = index }) (record (w.links c) { done = suc (w.links c).done; applied = true; wrote = wrote_by (w.links c) m ∷ (w.links c).wrote; top_key = key }) e (old e x)) (sym a)
    (applied_old w.shared (w.links c) index (wrote_by (w.links c) m) key e (old e c) refl refl (o c)))
    (λ ne. o d)
runs_old w u old e (crash up) same on i h lt o d = absurd (on (sym same))
runs_old w u old e (start missing down is) same on i h lt o d = absurd (on down)
runs_old w u old e (finish rec all) same on i h lt o d = absurd (not_both refl (same ∙ rec))

runs_top : (w u : World) (old : ℕ → ℕ → Kept) (b : ℕ) → Step w u → u.shared.phase ≡ w.shared.phase → w.shared.phase ≡ Recovering → b < w.shared.epoch → WorldInv w → ((c : ℕ) → Extra w.shared (w.links c)) → ((c : ℕ) → Old w.shared (w.links c) b (old b c)) → ((c : ℕ) → Top w.shared (w.links c) b (old b c)) → (d : ℕ) → Top u.shared (u.links d) b (old b d)
runs_top w u old b (at_link c l links step ch) same rec lt i x o t d = link_at ch d (λ m. Top w.shared m b (old b d)) (λ a. subst (λ y. Top w.shared l b (old b y)) (sym a) (top_kept w.shared (w.links c) l b (old b c) step rec lt (i.links c) (x c) (o c) (t c))) (λ ne. t d)
runs_top w u old b (raises c range key links serving row up agrees ch) same rec lt i x o t d = absurd (not_both serving rec)
runs_top w u old b (applies c m index key links at ok acked next ap' ch) same rec lt i x o t d = absurd (not_both ok.serving rec)
runs_top w u old b (crash up) same rec lt i x o t d = absurd (up (sym same))
runs_top w u old b (start missing down is) same rec lt i x o t d = let e = sym down ∙ rec in absurd (cc)
runs_top w u old b (finish rec' all) same rec lt i x o t d = absurd (not_both refl (same ∙ rec))

past_kept : (s : Shared) (l l' : Link) (b : ℕ) (z : Kept) → LinkStep s l l' → Inv s l → z.reg ≤ l.reg → Past l b z → Past l' b z
past_kept s l l' b z (starts down) i le p r u e = absurd (omega (arith, i.standing.reg, e))
past_kept s l l' b z crashes i le p r u e = absurd (true≢false (sym u))
past_kept s l l' b z (leaves up) i le p r u e = absurd (true≢false (sym u))
past_kept s l l' b z (joins n at up same later) i le p r u e = omega (arith, p r u e, later)
past_kept s l l' b z (registers h at on newer) i le p r u e = absurd (omega (arith, r, le, newer))
past_kept s l l' b z _ i le p r u e = p r u e

runs_past : (w u : World) (old : ℕ → ℕ → Kept) (C : ℕ → Type 0) (b e : ℕ) → Step w u → u.shared.phase ≡ w.shared.phase → w.shared.phase ≡ Recovering → WorldInv w → ((c : ℕ) → (old e c).reg ≤ (w.links c).reg) → ((c : ℕ) → C c → Past (w.links c) b (old e c)) → (d : ℕ) → C d → Past (u.links d) b (old e d)
runs_past w u old C b e (at_link c l links step ch) same rec i le p d k = link_at ch d (λ m. C d → Past m b (old e d)) (λ a. subst (λ y. C y → Past l b (old e y)) (sym a) (λ k. past_kept w.shared (w.links c) l b (old e c) step (i.links c) (le c) (p c k))) (λ ne. p d) k
runs_past w u old C b e (raises c range key links serving row up agrees ch) same rec i le p d k = absurd (not_both serving rec)
runs_past w u old C b e (applies c m index key links at ok acked next ap' ch) same rec i le p d k = absurd (not_both ok.serving rec)
runs_past w u old C b e (crash up) same rec i le p d k = absurd (up (sym same))
runs_past w u old C b e (start missing down is) same rec i le p d k = let x = sym down ∙ rec in absurd (cc)
runs_past w u old C b e (finish rec' all) same rec i le p d k = absurd (not_both refl (same ∙ rec))

runs_gather : (w u : World) (old : ℕ → ℕ → Kept) (b e : ℕ) → Step w u → u.shared.phase ≡ w.shared.phase → w.shared.phase ≡ Recovering → b < e → e < w.shared.epoch → WorldInv w → ((c : ℕ) → Top w.shared (w.links c) b (old b c)) → ((c : ℕ) → Old w.shared (w.links c) e (old e c)) → ((c : ℕ) → Gather w.shared (w.links c) e (old e c)) → (d : ℕ) → Gather u.shared (u.links d) e (old e d)
runs_gather w u old b e (at_link c l links step ch) same rec lt lt' i t o g d = link_at ch d (λ m. Gather w.shared m e (old e d)) (λ a. subst (λ y. Gather w.shared l e (old e y)) (sym a) (gather_kept w.shared (w.links c) l b e (old e c) step lt lt' (i.links c) (t c).sent.low (o c) (g c))) (λ ne. g d)
runs_gather w u old b e (raises c range key links serving row up agrees ch) same rec lt lt' i t o g d = absurd (not_both serving rec)
runs_gather w u old b e (applies c m index key links at ok acked next ap' ch) same rec lt lt' i t o g d = absurd (not_both ok.serving rec)
runs_gather w u old b e (crash up) same rec lt lt' i t o g d = absurd (up (sym same))
runs_gather w u old b e (start missing down is) same rec lt lt' i t o g d = let x = sym down ∙ rec in absurd (cc)
runs_gather w u old b e (finish rec' all) same rec lt lt' i t o g d = absurd (not_both refl (same ∙ rec))

-- nobody writes while the store's server recovers
runs_index : (w u : World) → Step w u → u.shared.phase ≡ w.shared.phase → w.shared.phase ≡ Recovering → u.shared ≡ w.shared
runs_index w u (at_link c l links step ch) same rec = refl
runs_index w u (raises c range key links serving row up agrees ch) same rec = absurd (not_both serving rec)
runs_index w u (applies c m index key links at ok acked next ap' ch) same rec = absurd (not_both ok.serving rec)
runs_index w u (crash up) same rec = absurd (up (sym same))
runs_index w u (start missing down is) same rec = let x = sym down ∙ rec in absurd (cc)
runs_index w u (finish rec' all) same rec = absurd (not_both refl (same ∙ rec))

runs_phase : (w u : World) (b : ℕ) → u.shared.phase ≡ w.shared.phase → u.shared.epoch ≡ w.shared.epoch → ((w.shared.phase ≡ Serving) × (b ≡ w.shared.epoch)) ⊎ ((w.shared.phase ≡ Recovering) × (b < w.shared.epoch)) → ((u.shared.phase ≡ Serving) × (b ≡ u.shared.epoch)) ⊎ ((u.shared.phase ≡ Recovering) × (b < u.shared.epoch))
runs_phase w u b p e (inl a) = inl (p ∙ a.0, a.1 ∙ sym e)
runs_phase w u b p e (inr a) = inr (p ∙ a.0, omega (arith, a.1, e))

pub runs_kept : (index : ℕ → Option Value) (f : Fenced) (u : World) → Step f.world u → u.shared.phase ≡ f.world.shared.phase → u.shared.epoch ≡ f.world.shared.epoch → FencedInv index f → FencedInv index (record f { world = u })
runs_kept index f u step p ep v = record {
  world = world_kept f.world u step v.world;
  history = history_kept index f.world u step v.world v.history;
  extra = runs_extra f.world u step p (is_on f.world.shared f.bound v.phase) v.world v.extra;
  old = λ x c one lt. let lt' : x < f.world.shared.epoch = omega (arith, lt, ep) in runs_old f.world u f.old x step p (is_on f.world.shared f.bound v.phase) v.world v.history.each lt' (λ d. v.old x d one lt') c;
  some = v.some;
  phase = runs_phase f.world u f.bound p ep v.phase;
  copies = λ rec e le lt. let rec' = sym p ∙ rec in v.copies rec' e le (omega (arith, lt, ep)) ∙ sym (ap (λ s. s.index) (runs_index f.world u step p rec'));
  top = λ rec e c le lt. let rec' = sym p ∙ rec in let lt' : e < f.world.shared.epoch = omega (arith, lt, ep) in
      runs_top f.world u f.old e step p rec' lt' v.world v.extra (λ d. v.old e d (omega (arith, v.some, le)) lt') (λ d. v.top rec' e d le lt') c;
  gather = λ rec e c le lt. let rec' = sym p ∙ rec in let lt' : e < f.world.shared.epoch = omega (arith, lt, ep) in
      runs_gather f.world u f.old f.bound e step p rec' le lt' v.world (λ d. v.top rec' f.bound d (omega arith) (omega (arith, le, lt'))) (λ d. v.old e d (omega (arith, v.some, le)) lt') (λ d. v.gather rec' e d le lt') c;
  mono = λ e d c one lt d_lt. v.mono e d c one lt (omega (arith, d_lt, ep));
  pair = λ rec e d c one lt low d_lt m. let rec' = sym p ∙ rec in let lt' : d < f.world.shared.epoch = omega (arith, d_lt, ep) in
      runs_past f.world u f.old (λ x. (f.old d x).missing ≡ false) d e step p rec' v.world (λ x. (v.old e x one (omega (arith, lt, lt'))).reg) (λ x k. v.pair rec' e d x one lt low lt' k) c m;
  past = λ rec x c one lt. let rec' = sym p ∙ rec in let lt' = phase_serves f.world.shared f.bound v.phase rec' in runs_past f.world u f.old (λ y. 0 ≡ suc zero → ⊥) f.bound x step p rec' v.world (λ d. (v.old x d one (omega (arith, lt, lt'))).reg) (λ d k. v.past rec' x d one lt) c (λ k. absurd (omega (arith, k)));
}

-- The store's server has every report

pub finishes_kept : (index : ℕ → Option Value) (f : Fenced) (rec : f.world.shared.phase ≡ Recovering) (all : (c : ℕ) → (f.world.links c).missing ≡ false) → FencedInv index f → FencedInv index (record {
  world = record {
    shared = record f.world.shared { phase = Serving };
    links = λ c. record (f.world.links c) { top_range = (f.world.links c).new_range; top_key = (f.world.links c).new_key };
    log = f.world.log;
  };
  bound = f.world.shared.epoch;
  old = f.old;
  copy = f.copy;
})
finishes_kept index f rec all v = record {
  world = world_kept f.world _ (finish rec all) v.world;
  history = history_kept index f.world _ (finish rec all) v.world v.history;
  extra = v.extra;
  old = v.old;
  some = (v.world.links 0).standing.server;
  phase = inl (refl, refl);
  copies = λ r. absurd (not_both refl r);
  top = λ r. absurd (not_both refl r);
  gather = λ r. absurd (not_both refl r);
  mono = v.mono;
  pair = λ r. absurd (not_both refl r);
  past = λ r. absurd (not_both refl r);
}
