-- The invariant of many servers, and what holds after a change of one link or of what one old server keeps.
use Rattle.krl_failover.proofs.Machine.Names.{◌≡◌, ◌≢◌, ℕ, ◌≤◌, ◌<◌, true, false, Option, ◌⊎◌, inl, inr, refl, sym, ap, subst, ◌∙◌, arith, Value}
use Rattle.krl_failover.proofs.Machine.Names.{Down, Recovering, Serving, Shared, Link}
use Rattle.krl_failover.proofs.Machine.Names.{Changed}
use Rattle.krl_machine.proofs.Basics.{Inv}
use Rattle.krl_machine.proofs.Links.{not_both}
use Rattle.krl_machine.proofs.Worlds.{eq_cases, WorldInv}
use Rattle.krl_machine.proofs.Runs.{agree_below, all_agree}
use Rattle.krl_machine.proofs.Writes.{History}
use Rattle.krl_failover.specs.Fenced.{Kept, Fenced, Turned}
use Rattle.krl_machine.proofs.RowChanges.{Below}
use Rattle.krl_failover.proofs.Machine.Basics.{Extra, Old, Top, Gather}

-- the client of an incarnation that an old server before b knows is in b or later
abbrev pub Past : Link → ℕ → Kept → Type 0
Past l b z = z.reg ≡ l.reg → l.up ≡ true → l.inc ≡ l.reg → b ≤ l.epoch

pub record FencedInv (index : ℕ → Option Value) (f : Fenced) : Type 0 where
  pub world : WorldInv f.world
  pub history : History index f.world
  pub extra : (c : ℕ) → Extra f.world.shared (f.world.links c)
  pub old : (e c : ℕ) → 1 ≤ e → e < f.world.shared.epoch → Old f.world.shared (f.world.links c) e (f.old e c)
  pub some : 1 ≤ f.bound
  pub phase : ((f.world.shared.phase ≡ Serving) × (f.bound ≡ f.world.shared.epoch)) ⊎ ((f.world.shared.phase ≡ Recovering) × (f.bound < f.world.shared.epoch))
  pub copies : f.world.shared.phase ≡ Recovering → (e : ℕ) → f.bound ≤ e → e < f.world.shared.epoch → f.copy e ≡ f.world.shared.index
  pub top : f.world.shared.phase ≡ Recovering → (e c : ℕ) → f.bound ≤ e → e < f.world.shared.epoch → Top f.world.shared (f.world.links c) e (f.old e c)
  pub gather : f.world.shared.phase ≡ Recovering → (e c : ℕ) → f.bound < e → e < f.world.shared.epoch → Gather f.world.shared (f.world.links c) e (f.old e c)
  pub mono : (e d c : ℕ) → 1 ≤ e → e < d → d < f.world.shared.epoch → (f.old e c).reg ≤ (f.old d c).reg
  pub pair : f.world.shared.phase ≡ Recovering → (e d c : ℕ) → 1 ≤ e → e < d → f.bound < d → d < f.world.shared.epoch → (f.old d c).missing ≡ false → Past (f.world.links c) d (f.old e c)
  pub past : f.world.shared.phase ≡ Recovering → (e c : ℕ) → 1 ≤ e → e < f.bound → Past (f.world.links c) f.bound (f.old e c)

-- a fact of the links after a change of one
pub link_at : {old new : ℕ → Link} {c : ℕ} {l : Link} → Changed old new c l → (d : ℕ) → (P : Link → Type 0) → (d ≡ c → P l) → (d ≢ c → P (old d)) → P (new d)
link_at {old = old} {new = new} {c = c} {l = l} ch d P here rest = eq_cases d c
    (λ e. subst (λ x. P (new x)) (sym e) (subst P (sym ch.here) (here e)))
    (λ ne. subst P (sym (ch.rest d ne)) (rest ne))

pub kept_at : {old new : ℕ → ℕ → Kept} {e c : ℕ} {z : Kept} → Turned old new e c z → (f d : ℕ) → (P : Kept → Type 0) → (f ≡ e → d ≡ c → P z) → ((f ≢ e) ⊎ (d ≢ c) → P (old f d)) → P (new f d)
kept_at {old = old} {new = new} {e = e} {c = c} {z = z} t f d P here rest = eq_cases f e
    (λ a. eq_cases d c
    (λ b. subst (λ x. P (new x d)) (sym a) (subst (λ x. P (new e x)) (sym b) (subst P (sym t.here) (here a b))))
    (λ b. subst P (sym (t.rest f d (inr b))) (rest (inr b))))
    (λ a. subst P (sym (t.rest f d (inl a))) (rest (inl a)))

-- a change of one link that keeps its rows' agreement, its applied writes and what is stated of it
module _ (index : ℕ → Option Value) (f : Fenced) (c : ℕ) (l : Link) (links : ℕ → Link) (v : FencedInv index f) (ch : Changed f.world.links links c l) where
  pub changed_world : Inv f.world.shared l → ((q : ℕ) → Below (l.top_range q) (l.top_key q) ((f.world.links c).top_range q) ((f.world.links c).top_key q)) → WorldInv (record f.world { links = links })
  changed_world i low = record {
    links = λ d. link_at ch d (Inv f.world.shared) (λ e. i) (λ ne. v.world.links d);
    agree = all_agree f.world.shared f.world.shared f.world.links links c l ch (λ d ne q. agree_below (l.top_range q) ((f.world.links c).top_range q) ((f.world.links d).top_range q) ((f.world.links d).top_range q) (l.top_key q) ((f.world.links c).top_key q) ((f.world.links d).top_key q) ((f.world.links d).top_key q)
        (low q) ((omega arith, omega arith), omega arith) (v.world.agree c d (λ e. ne (sym e)) q)) v.world.agree;
  }

pub phase_serves : (s : Shared) (b : ℕ) → ((s.phase ≡ Serving) × (b ≡ s.epoch)) ⊎ ((s.phase ≡ Recovering) × (b < s.epoch)) → s.phase ≡ Recovering → b < s.epoch
phase_serves s b (inl a) rec = absurd (not_both a.0 rec)
phase_serves s b (inr a) rec = a.1

pub is_on : (s : Shared) (b : ℕ) → ((s.phase ≡ Serving) × (b ≡ s.epoch)) ⊎ ((s.phase ≡ Recovering) × (b < s.epoch)) → s.phase ≢ Down
is_on s b (inl a) d = let e = sym a.0 ∙ d in absurd (cc)
is_on s b (inr a) d = let e = sym a.0 ∙ d in absurd (cc)

pub phase_recovers : (s : Shared) (b : ℕ) → ((s.phase ≡ Serving) × (b ≡ s.epoch)) ⊎ ((s.phase ≡ Recovering) × (b < s.epoch)) → b < s.epoch → s.phase ≡ Recovering
phase_recovers s b (inl a) lt = absurd (omega (arith, a.1, lt))
phase_recovers s b (inr a) lt = a.0

-- what an old server keeps of the register and of the missing is as before
pub same_kept : {old new : ℕ → ℕ → Kept} {e c : ℕ} {z : Kept} → Turned old new e c z → (A : Type 0) (F : Kept → A) → F z ≡ F (old e c) → (x d : ℕ) → F (new x d) ≡ F (old x d)
same_kept {old = old} {new = new} {e = e} {c = c} {z = z} t A F same x d = kept_at t x d (λ y. F y ≡ F (old x d)) (λ p q. same ∙ sym (ap (λ y. F (old y d)) p ∙ ap (λ y. F (old e y)) q)) (λ r. refl)
