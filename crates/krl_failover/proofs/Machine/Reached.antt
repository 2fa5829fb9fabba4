-- Each step keeps the invariant; so it holds in each world that can be reached. What follows from it.
use Rattle.krl_failover.proofs.Machine.Names.{◌≡◌, ℕ, ◌≤◌, ◌<◌, Option, Some, inl, refl, subst, arith, Value}
use Rattle.krl_failover.proofs.Machine.Names.{Recovering, Said, Shared, IsRow, IsSlot, SlotLowered, IsRebuilt, MaySay}
use Rattle.krl_failover.proofs.Machine.Names.{blank_link, begun, IsCompatible, ScanIsRange, WritesOnce, first, NoAlarm, IsBounded}
use Rattle.krl_machine.proofs.Links.{not_both}
use Rattle.krl_machine.proofs.Runs.{reachable_inv, compatible_of, bounded_of, scans_of, no_alarm_of}
use Rattle.krl_machine.proofs.Writes.{reachable_history, writes_of}
use Rattle.krl_failover.specs.Fenced.{Fenced, seen_by}
use Rattle.krl_failover.specs.Steps.{FencedStep, runs, finishes, takes_over, old_notifies, old_hears, old_raises, old_releases, old_pushes, stale_pushes, old_takes_report, old_finishes, FencedReachable, opened, went}
use Rattle.krl_failover.proofs.Machine.Basics.{Extra}
use Rattle.krl_failover.proofs.Machine.Pushes.{bound_live}
use Rattle.krl_failover.proofs.Machine.Invariant.{FencedInv, phase_serves, phase_recovers}
use Rattle.krl_failover.proofs.Machine.StoreRuns.{runs_kept, finishes_kept}
use Rattle.krl_failover.proofs.Machine.TakesOver.{takes_kept}
use Rattle.krl_failover.proofs.Machine.OldSessions.{notifies_kept, hears_kept}
use Rattle.krl_failover.proofs.Machine.OldRows.{raises_kept, releases_kept}
use Rattle.krl_failover.proofs.Machine.OldPushes.{pushed_kept, stale_dead}
use Rattle.krl_failover.proofs.Machine.OldRecovers.{took_kept, old_finishes_kept}

-- an old server's copy of the index is the store's index, while it is not past
of_copy : (index : ℕ → Option Value) (f : Fenced) (e : ℕ) → FencedInv index f → f.world.shared.phase ≡ Recovering → f.bound ≤ e → e < f.world.shared.epoch → (P : Shared → Type 0) → P (seen_by f e) → P f.world.shared
of_copy index f e v rec le lt P h = subst (λ i. P (record f.world.shared { index = i })) (v.copies rec e le lt) h

-- Every step

pub fenced_kept : (index : ℕ → Option Value) (f g : Fenced) → FencedStep f g → FencedInv index f → FencedInv index g
fenced_kept index f g (runs u step p e) v = runs_kept index f u step p e v
fenced_kept index f g (finishes rec all) v = finishes_kept index f rec all v
fenced_kept index f g (takes_over missing is) v = takes_kept index f missing is v
fenced_kept index f g (old_notifies e c links one lt ch) v = notifies_kept index f e c links one lt ch v
fenced_kept index f g (old_hears e c a old one lt at inc epoch seen t) v = hears_kept index f e c a old one lt at inc epoch seen t v
fenced_kept index f g (old_raises c range key links rec row up agrees ch) v = raises_kept index f c range key links (of_copy index f f.bound v rec (omega arith) (phase_serves f.world.shared f.bound v.phase rec) (λ s. IsRow s range key) row) up agrees ch v
fenced_kept index f g (old_releases c r range key links rec here at inc epoch seen slots row ch) v =
    let lt = phase_serves f.world.shared f.bound v.phase rec in
    releases_kept index f c r range key links rec here at inc epoch seen
    (of_copy index f f.bound v rec (omega arith) lt (λ s. (n : ℕ) → IsSlot s n → SlotLowered s r (f.world.links c) range key n) slots)
    (of_copy index f f.bound v rec (omega arith) lt (λ s. IsRow s range key) row) ch v
fenced_kept index f g (old_pushes c p links old rec here may says ch t) v =
    let lt = phase_serves f.world.shared f.bound v.phase rec in
    pushed_kept index f f.bound c p links old v.some lt may v
    (bound_live f.world.shared (f.world.links c) f.bound (f.old f.bound c) p (v.world.links c) (v.old f.bound c v.some lt) v.some lt may (v.top rec f.bound c (omega arith) lt) here (of_copy index f f.bound v rec (omega arith) lt (λ s. (q : ℕ) (t : Said) → p.says q ≡ Some t → MaySay s (f.world.links c) q t) says))
    (omega arith) ch t
fenced_kept index f g (stale_pushes e c p links old one lt served why may ch t) v =
    pushed_kept index f e c p links old one lt may v
    (λ live. absurd (stale_dead index f e c p one lt why may v live))
    served ch t
fenced_kept index f g (old_takes_report e c r range key old low lt at missing inc epoch built t) v =
    took_kept index f e c r range key old low lt at inc epoch (of_copy index f e v (phase_recovers f.world.shared f.bound v.phase (omega (arith, low, lt))) (omega (arith, low)) lt (λ s. IsRebuilt s r range key) built) t v
fenced_kept index f g (old_finishes e links low lt all fin) v = old_finishes_kept index f e links low lt all fin v

first_extra : (s : Shared) → Extra s blank_link
first_extra s = record { heads = λ a at. absurd at; reports = λ a at. absurd at; seen = λ a at. absurd at }

pub fenced_inv : (index : ℕ → Option Value) (end : ℕ) (f : Fenced) → FencedReachable index end f → FencedInv index f
fenced_inv index end f opened = record {
  world = reachable_inv index end (first index end) begun;
  history = reachable_history index end (first index end) begun;
  extra = λ c. first_extra (first index end).shared;
  old = λ e c one lt. absurd (omega arith);
  some = omega arith;
  phase = inl (refl, refl);
  copies = λ r. absurd (not_both refl r);
  top = λ r. absurd (not_both refl r);
  gather = λ r. absurd (not_both refl r);
  mono = λ e d c one lt d_lt. absurd (omega arith);
  pair = λ r. absurd (not_both refl r);
  past = λ r. absurd (not_both refl r);
}
fenced_inv index end f (went e g r step) = fenced_kept index e g step (fenced_inv index end e r)

-- What follows

pub fenced_compatible : (index : ℕ → Option Value) (end : ℕ) (f : Fenced) → FencedReachable index end f → IsCompatible f.world
fenced_compatible index end f r = compatible_of f.world (fenced_inv index end f r).world

pub fenced_scans : (index : ℕ → Option Value) (end : ℕ) (f : Fenced) → FencedReachable index end f → ScanIsRange f.world
fenced_scans index end f r = scans_of f.world (fenced_inv index end f r).world

pub fenced_writes : (index : ℕ → Option Value) (end : ℕ) (f : Fenced) → FencedReachable index end f → WritesOnce index f.world
fenced_writes index end f r = writes_of index f.world (fenced_inv index end f r).history

pub fenced_alarm : (index : ℕ → Option Value) (end : ℕ) (f : Fenced) → FencedReachable index end f → NoAlarm f.world
fenced_alarm index end f r = no_alarm_of f.world (fenced_inv index end f r).world

pub fenced_bounded : (index : ℕ → Option Value) (end : ℕ) (f : Fenced) → FencedReachable index end f → IsBounded f.world
fenced_bounded index end f r = bounded_of f.world (fenced_inv index end f r).world
