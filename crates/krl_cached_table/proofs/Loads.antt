-- A step of a load gives it the facts of its next stage.
use Rattle.std.proofs.Common.{◌≡◌, ◌≢◌, ◌∙◌, ◌<◌, ℕ, ◌⊎◌, inl, inr, Bool, true, refl, sym, subst, ⊎_elim, true≢false, arith}
use Rattle.std.proofs.lemmas.Bool.{false_from_ne_true}
use Rattle.krl_cached_table.specs.Worlds.{Setting, Stage, Running, Prepared, Committed, Visible, Recovering, Ended, Counted, Unnoticed, Quiet, Load, World, new_load}
use Rattle.krl_cached_table.specs.Steps.{LoadStep, begins, begins_elsewhere, finds_open, sees_no_notice, finds_count, takes_rows, has_locks, NobodyGaveNotice}
use Rattle.krl_cached_table.proofs.Sound.{HasNotEnded, NobodyTook, IsHome, PlaceFacts, LoadFacts, Sound}
use Rattle.krl_cached_table.proofs.Frames.{concluded, staged}

pub locked : (s : Stage) → s ≢ Recovering → s ≢ Ended → has_locks s ≡ true
locked Running r e = refl
locked Prepared r e = refl
locked Committed r e = refl
locked Visible r e = refl
locked Recovering r e = absurd (r refl)
locked Ended r e = absurd (e refl)

-- who took the place back, or skipped it, gave notice, and has its locks
none_took : (g : Setting) (w : World) (p : ℕ) → Sound g w → w.is_up ≡ true → NobodyGaveNotice w p → NobodyTook w p
none_took g w p s up nobody t not_ended took =
    nobody t (locked (w.transactions t).stage (s.recovered up t) not_ended, (s.proper t).took p took)

none_skipped : (g : Setting) (w : World) (p : ℕ) → Sound g w → w.is_up ≡ true → NobodyGaveNotice w p → (t : ℕ) → HasNotEnded (w.transactions t) → (w.transactions t).skipped p ≡ true → ⊥
none_skipped g w p s up nobody t not_ended skip =
    nobody t (locked (w.transactions t).stage (s.recovered up t) not_ended, (s.proper t).skipped p skip)

pub new_load_kept : (g : Setting) (w : World) (client : ℕ) (places : ℕ → Bool) (tenures : ℕ → ℕ) (nonce : ℕ) → IsHome g w (new_load client places tenures nonce) ⊎ (nonce < w.start) → LoadFacts g w (new_load client places tenures nonce)
new_load_kept g w client places tenures nonce home = record {
  home = home;
  answered = λ found. absurd (true≢false (sym found));
  places = λ p listed. tt;
  rows = λ kept. absurd (true≢false (sym kept));
}

pub load_kept : (g : Setting) (w : World) (l m : Load) → Sound g w → LoadStep g w l m → LoadFacts g w l → LoadFacts g w m
load_kept g w l m s (begins c places reader holds) h =
    new_load_kept g w c places (w.tenure c) w.nonce (inl (record { reader = reader; past = λ p listed. omega arith; holds = λ p t. holds p t.0 }))
load_kept g w l m s (begins_elsewhere c nonce places tenures older) h = new_load_kept g w c places tenures nonce (inr older)
load_kept g w l m s (finds_open is_open) h = record {
  home = h.home;
  answered = λ found. record {
    up = is_open.0;
    home = ⊎_elim (λ (a : IsHome g w l). a) (λ (b : l.nonce < w.start). let same : l.nonce ≡ w.start = is_open.2 in absurd (omega arith)) h.home;
    active = λ p t. false_from_ne_true w.was_suspended (λ was. true≢false (sym (s.closed was) ∙ is_open.1));
  };
  places = λ p listed. tt;
  rows = h.rows;
}
load_kept g w l m s (sees_no_notice p recalls counted found nobody) h = staged g w l p (Unnoticed recalls) h (λ listed.
    let k : PlaceFacts g w l p (Counted recalls) = subst (PlaceFacts g w l p) counted (h.places p listed) in
    let up : w.is_up ≡ true = (h.answered found).up in
    concluded g w l p k (λ c open_still. record {
      counted = c found;
      took = none_took g w p s up nobody;
      skipped = λ x not_ended skip. absurd (none_skipped g w p s up nobody x not_ended skip);
    }))
load_kept g w l m s (finds_count p recalls unnoticed found same kept) h = staged g w l p Quiet h (λ listed.
    let k : PlaceFacts g w l p (Unnoticed recalls) = subst (PlaceFacts g w l p) unnoticed (h.places p listed) in
    concluded g w l p k (λ u. record {
      took = (u found).took;
      skipped = λ x not_ended skip. let late : recalls < (w.counts p).recalls = (u found).skipped x not_ended skip in omega arith;
      kept = λ trusted. kept;
    }))
load_kept g w l m s (takes_rows quiet) h = record {
  home = h.home;
  answered = h.answered;
  places = h.places;
  rows = λ kept key listed. record {
    quiet = λ p i. subst (PlaceFacts g w l p) (quiet p (listed p i)) (h.places p (listed p i));
    row = λ t. refl;
  };
}
