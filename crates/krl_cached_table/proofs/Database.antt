-- What happens to the database as a whole keeps a world sound.
use Rattle.std.proofs.Common.{◌≡◌, ◌≢◌, ◌≤◌, ◌<◌, ℕ, suc, inl, inr, Bool, true, false, refl, sym, subst, true≢false, arith}
use Rattle.krl_cached_table.specs.Worlds.{Setting, Recovering, Count, PlaceStage, Held, Counted, Unnoticed, Quiet, Load, World}
use Rattle.krl_cached_table.specs.Steps.{crashed}
use Rattle.krl_cached_table.proofs.Sound.{HasFound, IsRead, IsTrusted, CountsAsKept, IsGuarded, PlaceFacts, LoadFacts, Sound}
use Rattle.krl_cached_table.proofs.Frames.{Frame, all_framed, going}
use Rattle.krl_cached_table.proofs.Transactions.{crash_goes, crash_proper, crash_not_found}

-- It crashes, which ends each call of krl.quiet

module _ (g : Setting) (w : World) (loads : ℕ → Load) where
  abbrev down : World
  down = record w { is_up = false; loads = loads }

  place_cut_off : (l : Load) (p : ℕ) (s : PlaceStage) → PlaceFacts g w l p s → PlaceFacts g down (record l { found_open = false }) p s
  place_cut_off l p Held h = tt
  place_cut_off l p (Counted recalls) h = (h.0, λ t mark. ((h.1 t mark).0, λ found. absurd (true≢false (sym found))))
  place_cut_off l p (Unnoticed recalls) h = (h.0, λ t mark. ((h.1 t mark).0, λ found. absurd (true≢false (sym found))))
  place_cut_off l p Quiet h = h

  cut_off : (l : Load) → LoadFacts g w l → LoadFacts g down (record l { found_open = false })
  cut_off l h = record {
    home = h.home;
    answered = λ found. absurd (true≢false (sym found));
    places = λ p listed. place_cut_off l p (l.stage p) (h.places p listed);
    rows = h.rows;
  }

module _ (g : Setting) (w : World) where
  abbrev without_running : World
  without_running = record w { transactions = λ t. crashed (w.transactions t).stage (w.transactions t) }

  abbrev all_cut_off : ℕ → Load
  all_cut_off n = record (w.loads n) { found_open = false }

  crashing : Sound g w → Frame g w without_running
  crashing s = going g w without_running.transactions s.compatible s.suspended (λ t. crash_goes g w (w.transactions t) (w.transactions t).stage refl)

  pub crash_kept : Sound g w → Sound g (record without_running { is_up = false; loads = all_cut_off })
  crash_kept s = record {
    compatible = s.compatible;
    nonce = s.nonce;
    proper = λ t. crash_proper g (w.transactions t) (w.transactions t).stage refl (s.proper t);
    suspended = s.suspended;
    closed = s.closed;
    found = λ down t. crash_not_found (w.transactions t) (w.transactions t).stage refl;
    recovered = λ up. absurd (true≢false (sym up));
    loads = λ n. cut_off g without_running all_cut_off (w.loads n) (all_framed g w without_running (crashing s) s n);
  }

-- The workers draw another nonce. The counts are others after a crash only

module _ (g : Setting) (w : World) (up : Bool) (counts : ℕ → Count) (still_up : w.is_up ≡ true → up ≡ true) (same : w.is_up ≡ true → counts ≡ w.counts) (same_found : (t : ℕ) → HasFound (w.transactions t) → counts ≡ w.counts) (s : Sound g w) where
  abbrev pub renewed : World
  renewed = record w { is_up = up; start = suc w.start; counts = counts }

  still_kept : (p : ℕ) → IsGuarded w p → IsTrusted renewed → (counts p).is_kept ≡ true
  still_kept p k (inl new) = let old : w.nonce ≤ w.start = s.nonce in absurd (omega arith)
  still_kept p k (inr f) = subst (λ (k : ℕ → Count). (k p).is_kept ≡ true) (sym (same_found f.0 f.1)) (k.kept (inr f))

  renewing : Frame g w renewed
  renewing = record {
    home = λ l h. h;
    tenure = λ l p h t. t;
    start = omega arith;
    up = still_up;
    active = λ p read a. a;
    counted = λ p recalls up c. subst (λ (k : ℕ → Count). CountsAsKept (k p) recalls) (sym (same up)) c;
    unnoticed = λ p recalls read active up u. record {
      counted = subst (λ (k : ℕ → Count). CountsAsKept (k p) recalls) (sym (same up)) u.counted;
      took = u.took;
      skipped = λ t not_ended skip. subst (λ (k : ℕ → Count). recalls < (k p).recalls) (sym (same up)) (u.skipped t not_ended skip);
    };
    guarded = λ p read mark active k. record {
      took = k.took;
      skipped = k.skipped;
      kept = λ trusted. still_kept p k trusted;
    };
    rows = λ key k. refl;
  }

  pub renewed_kept : (up ≡ false → (t : ℕ) → HasFound (w.transactions t) → ⊥) → (up ≡ true → (t : ℕ) → (w.transactions t).stage ≢ Recovering) → Sound g renewed
  renewed_kept found recovered = record {
    compatible = s.compatible;
    nonce = let old : w.nonce ≤ w.start = s.nonce in omega arith;
    proper = s.proper;
    suspended = s.suspended;
    closed = s.closed;
    found = found;
    recovered = recovered;
    loads = all_framed g w renewed renewing s;
  }

-- The cluster is suspended, and resumed

module _ (g : Setting) (w : World) (closed suspended was_suspended : Bool) (active : (p : ℕ) → IsRead g w p → w.was_suspended ≡ false → was_suspended ≡ false) where
  abbrev pub operated : World
  operated = record w { is_closed = closed; is_suspended = suspended; was_suspended = was_suspended }

  operating : Frame g w operated
  operating = record {
    home = λ l h. h;
    tenure = λ l p h t. t;
    start = omega arith;
    up = λ up. up;
    active = active;
    counted = λ p recalls up c. c;
    unnoticed = λ p recalls read active up u. u;
    guarded = λ p read mark active k. k;
    rows = λ key k. refl;
  }

  pub operated_kept : (suspended ≡ true → was_suspended ≡ true) → (was_suspended ≡ true → closed ≡ true) → Sound g w → Sound g operated
  operated_kept marked shut s = record {
    compatible = s.compatible;
    nonce = s.nonce;
    proper = s.proper;
    suspended = marked;
    closed = shut;
    found = s.found;
    recovered = s.recovered;
    loads = all_framed g w operated operating s;
  }
