-- Each step keeps a world sound.
use Rattle.std.proofs.Common.{◌≡◌, ◌≢◌, ◌∙◌, ◌<◌, ◌≤◌, ℕ, suc, inl, inr, true, false, List, [], ◌∷◌, ◌++◌, refl, sym, subst, ⊎_elim, true≢false, eqb, arith}
use Rattle.std.proofs.lemmas.Bool.{eqb-true, cond_both}
use Rattle.krl_modes.specs.declared.part.KeyPart.{KeyPart}
use Rattle.krl_modes.specs.Parts.{reads_key}
use Rattle.krl_cached_table.specs.Worlds.{Setting, IsPlaceOf, Change, row_after, Stage, Running, Visible, Recovering, Ended, Transaction, Count, Held, Counted, Load, World, new_count, first}
use Rattle.krl_cached_table.specs.Steps.{put, IsCompatible, Holds, IsExclusive, NotesLosses, IsSettled, IsChanged, shown, Step, locks_change, takes_cluster_mark, transacts, counts_recall, becomes_visible, crashes, recovers, starts, closes, suspends, resumes, suspends_again, opens, joins_again, loads, counts_as_kept, Reachable, begun, stepped}
use Rattle.krl_cached_table.specs.Promises.{HasTenure}
use Rattle.krl_cached_table.proofs.Sound.{put_all, put_at, put_here, IsFixed, IsProper, HasNotEnded, HasFound, CountsAsKept, IsGuarded, IsHome, PlaceFacts, LoadFacts, Sound, excluded}
use Rattle.krl_cached_table.proofs.Frames.{Frame, load_framed, all_framed, staged, Goes, going}
use Rattle.krl_cached_table.proofs.Transactions.{goes_same, goes_to, step_goes, new_proper, step_proper, step_recovered, step_not_found, proper_unfixed, committed_not_ended, recovering_not_ended}
use Rattle.krl_cached_table.proofs.Loads.{new_load_kept, load_kept}
use Rattle.krl_cached_table.proofs.Database.{crash_kept, renewed_kept, operated_kept}

-- Locks change

module _ (g : Setting) (w : World) (held : ℕ → ℕ → KeyPart) (tenure : ℕ → ℕ → ℕ) (notes : NotesLosses w held tenure) where
  abbrev relocked : World
  relocked = record w { held = held; tenure = tenure }

  pub later_tenure : (c p : ℕ) → w.tenure c p ≤ tenure c p
  later_tenure c p = ⊎_elim (λ (a : w.tenure c p < tenure c p). omega arith)
      (λ (b : (tenure c p ≡ w.tenure c p) × (reads_key (w.held c p) ≡ true → reads_key (held c p) ≡ true)). let same : tenure c p ≡ w.tenure c p = b.0 in omega arith) (notes c p)

  same_tenure : (c p since : ℕ) → since ≤ w.tenure c p → tenure c p ≡ since → w.tenure c p ≡ since
  same_tenure c p since past e = let rises : w.tenure c p ≤ tenure c p = later_tenure c p in omega arith

  still_holds : (c p since : ℕ) → since ≤ w.tenure c p → tenure c p ≡ since → Holds w c p → reads_key (held c p) ≡ true
  still_holds c p since past e holds = ⊎_elim (λ (a : w.tenure c p < tenure c p). absurd (omega arith))
      (λ (b : (tenure c p ≡ w.tenure c p) × (reads_key (w.held c p) ≡ true → reads_key (held c p) ≡ true)). b.1 holds) (notes c p)

  had_tenure : (l : Load) (p : ℕ) → IsHome g w l → HasTenure relocked l p → HasTenure w l p
  had_tenure l p h t = (t.0, same_tenure l.client p (l.tenures p) (h.past p t.0) t.1)

  still_home : (l : Load) → IsHome g w l → IsHome g relocked l
  still_home l h = record {
    reader = h.reader;
    past = λ p listed. let past : l.tenures p ≤ w.tenure l.client p = h.past p listed in
        let later : w.tenure l.client p ≤ tenure l.client p = later_tenure l.client p in
        omega arith;
    holds = λ p t. still_holds l.client p (l.tenures p) (h.past p t.0) t.1 (h.holds p (had_tenure l p h t));
  }

  relocking : Frame g w relocked
  relocking = record {
    home = still_home;
    tenure = had_tenure;
    start = omega arith;
    up = λ up. up;
    active = λ p read a. a;
    counted = λ p recalls up c. c;
    unnoticed = λ p recalls read active up u. u;
    guarded = λ p read mark active k. k;
    rows = λ key k. refl;
  }

  locks_kept : IsCompatible held → Sound g w → Sound g relocked
  locks_kept compatible s = record {
    compatible = compatible;
    nonce = s.nonce;
    proper = s.proper;
    suspended = s.suspended;
    closed = s.closed;
    found = s.found;
    recovered = s.recovered;
    loads = all_framed g w relocked relocking s;
  }

-- The cluster's mark is taken, which takes everything back from all readers

module _ (g : Setting) (w : World) (exclusive : IsExclusive g w g.cluster_mark) where
  abbrev marked : World
  marked = record w { nonce = w.start }

  marking : IsCompatible w.held → Frame g w marked
  marking compatible = record {
    home = λ l h. h;
    tenure = λ l p h t. t;
    start = omega arith;
    up = λ up. up;
    active = λ p read a. a;
    counted = λ p recalls up c. c;
    unnoticed = λ p recalls read active up u. u;
    guarded = λ p read mark active k. absurd (excluded g w g.cluster_mark compatible mark exclusive);
    rows = λ key k. refl;
  }

  mark_kept : Sound g w → Sound g marked
  mark_kept s = record {
    compatible = s.compatible;
    nonce = omega arith;
    proper = s.proper;
    suspended = s.suspended;
    closed = s.closed;
    found = s.found;
    recovered = s.recovered;
    loads = all_framed g w marked (marking s.compatible) s;
  }

-- A transaction goes on

all_go : (g : Setting) (w : World) (t : ℕ) (x : Transaction) → Goes g w (w.transactions t) x → (u : ℕ) → Goes g w (w.transactions u) (put w.transactions t x u)
all_go g w t x goes = put_all (λ u y. Goes g w (w.transactions u) y) w.transactions t x goes (λ u. goes_same g w (w.transactions u))

transaction_kept : (g : Setting) (w : World) (t : ℕ) (x : Transaction) → Goes g w (w.transactions t) x → IsProper g x → (w.is_up ≡ false → HasFound x → ⊥) → (w.is_up ≡ true → x.stage ≢ Recovering) → Sound g w → Sound g (record w { transactions = put w.transactions t x })
transaction_kept g w t x goes proper not_found recovered s = record {
  compatible = s.compatible;
  nonce = s.nonce;
  proper = put_all (λ u y. IsProper g y) w.transactions t x proper s.proper;
  suspended = s.suspended;
  closed = s.closed;
  found = λ down. put_all (λ u (y : Transaction). HasFound y → ⊥) w.transactions t x (not_found down) (s.found down);
  recovered = λ up. put_all (λ u (y : Transaction). y.stage ≢ Recovering) w.transactions t x (recovered up) (s.recovered up);
  loads = all_framed g w (record w { transactions = put w.transactions t x }) (going g w (put w.transactions t x) s.compatible s.suspended (all_go g w t x goes)) s;
}

-- A transaction becomes visible

unchanged_row : (xs ys : List Change) (key : ℕ) → (IsChanged key xs → ⊥) → row_after (xs ++ ys) key ≡ row_after ys key
unchanged_row [] ys key unchanged = refl
unchanged_row (c ∷ cs) ys key unchanged =
    cond_both (eqb key c.key) c.row (row_after (cs ++ ys) key) (λ r. r ≡ row_after ys key)
    (λ e. absurd (unchanged (inl (eqb-true key c.key e)))) (λ e. unchanged_row cs ys key (λ i. unchanged (inr i)))

module _ (g : Setting) (w : World) (t : ℕ) (stage : Stage) (decided : stage ≢ Running) (s : Sound g w) (not_ended : HasNotEnded (w.transactions t)) (fixed : IsFixed (w.transactions t).stage) where
  abbrev x : Transaction
  x = w.transactions t

  abbrev y : Transaction
  y = record (w.transactions t) { stage = stage }

  -- a key whose row is kept is not changed
  not_changed : (key : ℕ) → ((p : ℕ) → IsPlaceOf g key p → IsGuarded w p) → IsChanged key x.changes → ⊥
  not_changed key k i =
      let settled : (p : ℕ) × IsPlaceOf g key p × IsSettled x p = (s.proper t).settled fixed key i in
      let guarded : IsGuarded w settled.0 = k settled.0 settled.1 in
      let how : IsSettled x settled.0 = settled.2 in
      ⊎_elim (λ (took : x.took_back settled.0 ≡ true). guarded.took t not_ended took) (λ (skip : x.skipped settled.0 ≡ true). guarded.skipped t not_ended skip) how.1

  showing : Frame g w (shown w t stage)
  showing =
      let f : Frame g w (record w { transactions = put w.transactions t y }) = going g w (put w.transactions t y) s.compatible s.suspended (all_go g w t y (goes_to g w x stage not_ended decided)) in
      record {
        home = f.home;
        tenure = f.tenure;
        start = f.start;
        up = f.up;
        active = f.active;
        counted = f.counted;
        unnoticed = f.unnoticed;
        guarded = f.guarded;
        rows = λ key k. sym (unchanged_row x.changes w.changes key (not_changed key k));
      }

  shown_kept : (IsFixed stage → ⊥) → stage ≢ Recovering → Sound g (shown w t stage)
  shown_kept unfixed recovered = record {
    compatible = s.compatible;
    nonce = s.nonce;
    proper = put_all (λ u z. IsProper g z) w.transactions t y (proper_unfixed g x stage unfixed (s.proper t)) s.proper;
    suspended = s.suspended;
    closed = s.closed;
    found = λ down. put_all (λ u (z : Transaction). HasFound z → ⊥) w.transactions t y (λ f. decided f.0) (s.found down);
    recovered = λ up. put_all (λ u (z : Transaction). z.stage ≢ Recovering) w.transactions t y recovered (s.recovered up);
    loads = all_framed g w (shown w t stage) showing s;
  }

-- A count rises

module _ (g : Setting) (w : World) (t p : ℕ) (run : (w.transactions t).stage ≡ Running) (took : (w.transactions t).took_back p ≡ true) where
  abbrev risen : Count
  risen = record { recalls = suc (w.counts p).recalls; is_kept = false }

  abbrev counted_up : World
  counted_up = record w { counts = put w.counts p risen }

  past_at : (q recalls : ℕ) → CountsAsKept (w.counts q) recalls → q ≡ p → recalls ≤ (w.counts p).recalls
  past_at q recalls c e = subst (λ r. recalls ≤ (w.counts r).recalls) e c.past

  counted_still : (q recalls : ℕ) → CountsAsKept (w.counts q) recalls → CountsAsKept (put w.counts p risen q) recalls
  counted_still q recalls c = put_at (λ k. CountsAsKept k recalls) w.counts p risen q
      (λ e. let past : recalls ≤ (w.counts p).recalls = past_at q recalls c e in record { past = omega arith; kept = λ same. absurd (omega arith) }) c

  rising : Frame g w counted_up
  rising = record {
    home = λ l h. h;
    tenure = λ l p h t. t;
    start = omega arith;
    up = λ up. up;
    active = λ p read a. a;
    counted = λ q recalls up c. counted_still q recalls c;
    unnoticed = λ q recalls read active up u. record {
      counted = counted_still q recalls u.counted;
      took = u.took;
      skipped = λ x n skip. put_at (λ k. recalls < k.recalls) w.counts p risen q
          (λ e. let past : recalls ≤ (w.counts p).recalls = past_at q recalls u.counted e in omega arith) (u.skipped x n skip);
    };
    guarded = λ q read mark active k. record {
      took = k.took;
      skipped = k.skipped;
      kept = λ trusted. put_at (λ c. c.is_kept ≡ true) w.counts p risen q
          (λ e. absurd (k.took t (λ ended. running_ended run ended) (subst (λ r. (w.transactions t).took_back r ≡ true) (sym e) took))) (k.kept trusted);
    };
    rows = λ key k. refl;
  }
    where
      running_ended : {s : Stage} → s ≡ Running → s ≡ Ended → ⊥
      running_ended a b = cc

  rise_kept : Sound g w → Sound g counted_up
  rise_kept s = record {
    compatible = s.compatible;
    nonce = s.nonce;
    proper = s.proper;
    suspended = s.suspended;
    closed = s.closed;
    found = s.found;
    recovered = s.recovered;
    loads = all_framed g w counted_up rising s;
  }

-- A place counts as kept

module _ (g : Setting) (w : World) (n p : ℕ) (held : (w.loads n).stage p ≡ Held) (found : (w.loads n).found_open ≡ true) where
  abbrev kept_count : Count
  kept_count = record (w.counts p) { is_kept = true }

  abbrev counted_load : Load
  counted_load = record (w.loads n) { stage = put (w.loads n).stage p (Counted (w.counts p).recalls) }

  abbrev counted_world : World
  counted_world = record w { counts = put w.counts p kept_count; loads = put w.loads n counted_load }

  kept_still : (q recalls : ℕ) → CountsAsKept (w.counts q) recalls → CountsAsKept (put w.counts p kept_count q) recalls
  kept_still q recalls c = put_at (λ k. CountsAsKept k recalls) w.counts p kept_count q
      (λ e. record { past = subst (λ r. recalls ≤ (w.counts r).recalls) e c.past; kept = λ same. refl }) c

  counting : Frame g w counted_world
  counting = record {
    home = λ l h. h;
    tenure = λ l q h t. t;
    start = omega arith;
    up = λ up. up;
    active = λ q read a. a;
    counted = λ q recalls up c. kept_still q recalls c;
    unnoticed = λ q recalls read active up u. record {
      counted = kept_still q recalls u.counted;
      took = u.took;
      skipped = λ x not_ended skip. put_at (λ k. recalls < k.recalls) w.counts p kept_count q
          (λ e. subst (λ r. recalls < (w.counts r).recalls) e (u.skipped x not_ended skip)) (u.skipped x not_ended skip);
    };
    guarded = λ q read mark active k. record {
      took = k.took;
      skipped = k.skipped;
      kept = λ trusted. put_at (λ c. c.is_kept ≡ true) w.counts p kept_count q (λ e. refl) (k.kept trusted);
    };
    rows = λ key k. refl;
  }

  counted_facts : Sound g w → PlaceFacts g counted_world (w.loads n) p (Counted (w.counts p).recalls)
  counted_facts s = (
    ((s.loads n).answered found).home,
    λ t mark. (
      ((s.loads n).answered found).active p t,
      λ open_still. record {
        past = subst (λ (k : Count). (w.counts p).recalls ≤ k.recalls) (sym (put_here w.counts p kept_count)) (omega arith);
        kept = λ same. subst (λ (k : Count). k.is_kept ≡ true) (sym (put_here w.counts p kept_count)) refl;
      },
    ),
  )

  count_kept : Sound g w → Sound g counted_world
  count_kept s = record {
    compatible = s.compatible;
    nonce = s.nonce;
    proper = s.proper;
    suspended = s.suspended;
    closed = s.closed;
    found = s.found;
    recovered = s.recovered;
    loads = put_all (λ m (l : Load). LoadFacts g counted_world l) w.loads n counted_load
        (staged g counted_world (w.loads n) p (Counted (w.counts p).recalls) (load_framed g w counted_world counting (w.loads n) (s.loads n)) (λ listed. counted_facts s))
        (all_framed g w counted_world counting s);
  }

-- A load goes on

module _ (g : Setting) (w : World) (n : ℕ) (l : Load) where
  abbrev with_load : World
  with_load = record w { loads = put w.loads n l }

  loading : Frame g w with_load
  loading = record {
    home = λ l h. h;
    tenure = λ l p h t. t;
    start = omega arith;
    up = λ up. up;
    active = λ p read a. a;
    counted = λ p recalls up c. c;
    unnoticed = λ p recalls read active up u. u;
    guarded = λ p read mark active k. k;
    rows = λ key k. refl;
  }

  with_load_kept : Sound g w → LoadFacts g w l → Sound g with_load
  with_load_kept s facts = record {
    compatible = s.compatible;
    nonce = s.nonce;
    proper = s.proper;
    suspended = s.suspended;
    closed = s.closed;
    found = s.found;
    recovered = s.recovered;
    loads = put_all (λ m (k : Load). LoadFacts g with_load k) w.loads n l (load_framed g w with_load loading l facts) (all_framed g w with_load loading s);
  }

-- Each step

pub step_kept : (g : Setting) (w v : World) → Step g w v → Sound g w → Sound g v
step_kept g w v (locks_change held tenure compatible notes) s = locks_kept g w held tenure notes compatible s
step_kept g w v (takes_cluster_mark exclusive) s = mark_kept g w exclusive s
step_kept g w v (transacts t x step) s =
    transaction_kept g w t x (step_goes g w (w.transactions t) x step) (step_proper g w (w.transactions t) x step (s.proper t)) (λ down. step_not_found g w (w.transactions t) x step down (s.found down t)) (λ up. step_recovered g w (w.transactions t) x step (s.recovered up t)) s
step_kept g w v (counts_recall t p run took) s = rise_kept g w t p run took s
step_kept g w v (becomes_visible t committed) s =
    shown_kept g w t Visible (λ e. cc) s (committed_not_ended (w.transactions t).stage committed) (subst IsFixed (sym committed) tt) (λ never. never) (λ e. cc)
step_kept g w v crashes s = crash_kept g w s
step_kept g w v (recovers t recovering) s =
    shown_kept g w t Ended (λ e. cc) s (recovering_not_ended (w.transactions t).stage recovering) (subst IsFixed (sym recovering) tt) (λ never. never) (λ e. cc)
step_kept g w v (starts down recovered) s = renewed_kept g w true (λ p. new_count) (λ up. refl) (λ up. absurd (true≢false (sym up ∙ down))) (λ t f. absurd (s.found down t f)) s (λ down. absurd (true≢false down)) (λ up. recovered)
step_kept g w v joins_again s = renewed_kept g w w.is_up w.counts (λ up. up) (λ up. refl) (λ t f. refl) s s.found s.recovered
step_kept g w v closes s = operated_kept g w true w.is_suspended w.was_suspended (λ p read a. a) s.suspended (λ e. refl) s
step_kept g w v (suspends closed nobody) s = operated_kept g w w.is_closed true true (λ p read a. absurd (nobody read.0 p read.1 read.2)) (λ e. refl) (λ e. closed) s
step_kept g w v resumes s = operated_kept g w w.is_closed false w.was_suspended (λ p read a. a) (λ e. absurd (true≢false (sym e))) s.closed s
step_kept g w v (suspends_again was) s = operated_kept g w w.is_closed true w.was_suspended (λ p read a. a) (λ e. was) s.closed s
step_kept g w v (opens active) s = operated_kept g w false w.is_suspended false (λ p read a. refl) (λ e. absurd (true≢false (sym e ∙ active))) (λ e. absurd (true≢false (sym e))) s
step_kept g w v (loads n l step) s = with_load_kept g w n l s (load_kept g w (w.loads n) l s step (s.loads n))
step_kept g w v (counts_as_kept n p held found) s = count_kept g w n p held found s

-- Each reachable world

pub sound : (g : Setting) (w : World) → Reachable g w → Sound g w
sound g w (begun changes) = record {
  compatible = λ c d p differ. refl;
  nonce = omega arith;
  proper = λ t. new_proper g;
  suspended = λ e. e;
  closed = λ e. absurd (true≢false (sym e));
  found = λ down. absurd (true≢false down);
  recovered = λ up t e. cc;
  loads = λ n. new_load_kept g (first changes) 0 (λ p. false) (λ p. 0) 0 (inr (omega arith));
}
sound g w (stepped u v r step) = step_kept g u v step (sound g u r)
