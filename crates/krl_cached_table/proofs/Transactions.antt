-- A step of a transaction goes on from what it had, and keeps it proper; so does a crash of the database.
use Rattle.std.proofs.Common.{◌≡◌, ◌≢◌, ℕ, ◌⊎◌, inl, inr, Bool, true, false, refl, sym, subst, ⊎_elim, ◌∙◌, true≢false, eqb}
use Rattle.std.proofs.lemmas.Bool.{eqb-true, cond_both}
use Rattle.krl_cached_table.specs.Worlds.{Setting, Stage, Running, Prepared, Committed, Visible, Recovering, Ended, Transaction, World, new_transaction}
use Rattle.krl_cached_table.specs.Steps.{put, TransactionStep, begins_another, changes_row, gives_notice, takes_back, finds_nonce, skips, prepares, commits, commits_prepared, rolls_back, ends, crashed, IsExclusive}
use Rattle.krl_cached_table.proofs.Sound.{IsFixed, IsProper, HasNotEnded, HasFound}
use Rattle.krl_cached_table.proofs.Frames.{Goes}

pub put_true : (f : ℕ → Bool) (n m : ℕ) → put f n true m ≡ true → (m ≡ n) ⊎ (f m ≡ true)
put_true f n m = cond_both (eqb m n) true (f m) (λ b. b ≡ true → (m ≡ n) ⊎ (f m ≡ true)) (λ e t. inl (eqb-true m n e)) (λ e t. inr t)

pub put_keeps : (f : ℕ → Bool) (n m : ℕ) → f m ≡ true → put f n true m ≡ true
put_keeps f n m t = cond_both (eqb m n) true (f m) (λ b. b ≡ true) (λ e. refl) (λ e. t)

pub running_not_ended : (s : Stage) → s ≡ Running → s ≢ Ended
running_not_ended s a b = cc

pub prepared_not_ended : (s : Stage) → s ≡ Prepared → s ≢ Ended
prepared_not_ended s a b = cc

pub committed_not_ended : (s : Stage) → s ≡ Committed → s ≢ Ended
committed_not_ended s a b = cc

pub visible_not_ended : (s : Stage) → s ≡ Visible → s ≢ Ended
visible_not_ended s a b = cc

pub recovering_not_ended : (s : Stage) → s ≡ Recovering → s ≢ Ended
recovering_not_ended s a b = cc

-- It goes on

pub goes_same : (g : Setting) (w : World) (x : Transaction) → Goes g w x x
goes_same g w x = record { took = λ p n t. inl (n, t); skipped = λ p n t. inl (n, t); found = λ f. inl f }

-- to any later stage, from one in which it has not ended
pub goes_to : (g : Setting) (w : World) (x : Transaction) (s : Stage) → HasNotEnded x → s ≢ Running → Goes g w x (record x { stage = s })
goes_to g w x s here later = record { took = λ p n t. inl (here, t); skipped = λ p n t. inl (here, t); found = λ f. absurd (later f.0) }

to_end : (g : Setting) (w : World) (x : Transaction) → Goes g w x (record x { stage = Ended })
to_end g w x = record { took = λ p n t. absurd (n refl); skipped = λ p n t. absurd (n refl); found = λ f. absurd (running_not_ended Ended f.0 refl) }

pub step_goes : (g : Setting) (w : World) (x y : Transaction) → TransactionStep g w x y → Goes g w x y
step_goes g w x y (begins_another ended) = record { took = λ p n t. absurd (true≢false (sym t)); skipped = λ p n t. absurd (true≢false (sym t)); found = λ f. absurd (true≢false (sym f.1)) }
step_goes g w x y (changes_row c run) = record { took = λ p n t. inl (n, t); skipped = λ p n t. inl (n, t); found = λ f. inl f }
step_goes g w x y (gives_notice p run) = record { took = λ q n t. inl (n, t); skipped = λ q n t. inl (n, t); found = λ f. inl f }
step_goes g w x y (takes_back p run notice exclusive) = record {
  took = λ q n t. ⊎_elim (λ (e : q ≡ p). inr (subst (λ r. IsExclusive g w r ⊎ (w.is_suspended ≡ true)) (sym e) exclusive)) (λ (a : x.took_back q ≡ true). inl (n, a)) (put_true x.took_back p q t);
  skipped = λ q n t. inl (n, t);
  found = λ f. inl f;
}
step_goes g w x y (finds_nonce run up new) = record { took = λ p n t. inl (n, t); skipped = λ p n t. inl (n, t); found = λ f. inr new }
step_goes g w x y (skips p run notice found unkept) = record {
  took = λ q n t. inl (n, t);
  skipped = λ q n t. ⊎_elim (λ (e : q ≡ p). inr ((run, found), subst (λ r. (w.counts r).is_kept ≡ false) (sym e) unkept)) (λ (a : x.skipped q ≡ true). inl (n, a)) (put_true x.skipped p q t);
  found = λ f. inl f;
}
step_goes g w x y (prepares run settled) = goes_to g w x Prepared (running_not_ended x.stage run) (λ e. cc)
step_goes g w x y (commits run settled) = goes_to g w x Committed (running_not_ended x.stage run) (λ e. cc)
step_goes g w x y (commits_prepared prepared) = goes_to g w x Committed (prepared_not_ended x.stage prepared) (λ e. cc)
step_goes g w x y (rolls_back undecided) = to_end g w x
step_goes g w x y (ends visible) = to_end g w x

pub crash_goes : (g : Setting) (w : World) (x : Transaction) (s : Stage) → x.stage ≡ s → Goes g w x (crashed s x)
crash_goes g w x Running e = to_end g w x
crash_goes g w x Prepared e = goes_same g w x
crash_goes g w x Committed e = goes_to g w x Recovering (committed_not_ended x.stage e) (λ i. cc)
crash_goes g w x Visible e = to_end g w x
crash_goes g w x Recovering e = goes_same g w x
crash_goes g w x Ended e = goes_same g w x

-- It stays proper

-- in a stage in which it will not become visible, or is
pub proper_unfixed : (g : Setting) (x : Transaction) (s : Stage) → (IsFixed s → ⊥) → IsProper g x → IsProper g (record x { stage = s })
proper_unfixed g x s unfixed h = record { took = h.took; skipped = h.skipped; settled = λ fixed. absurd (unfixed fixed) }

running_unfixed : (x : Transaction) → x.stage ≡ Running → IsFixed x.stage → ⊥
running_unfixed x run fixed = subst IsFixed run fixed

pub new_proper : (g : Setting) → IsProper g new_transaction
new_proper g = record { took = λ p t. absurd (true≢false (sym t)); skipped = λ p t. absurd (true≢false (sym t)); settled = λ fixed. absurd fixed }

pub step_proper : (g : Setting) (w : World) (x y : Transaction) → TransactionStep g w x y → IsProper g x → IsProper g y
step_proper g w x y (begins_another ended) h = new_proper g
step_proper g w x y (changes_row c run) h = record { took = h.took; skipped = h.skipped; settled = λ fixed. absurd (running_unfixed x run fixed) }
step_proper g w x y (gives_notice p run) h = record {
  took = λ q t. put_keeps x.gave_notice p q (h.took q t);
  skipped = λ q t. put_keeps x.gave_notice p q (h.skipped q t);
  settled = λ fixed. absurd (running_unfixed x run fixed);
}
step_proper g w x y (takes_back p run notice exclusive) h = record {
  took = λ q t. ⊎_elim (λ (e : q ≡ p). subst (λ r. x.gave_notice r ≡ true) (sym e) notice) (λ (a : x.took_back q ≡ true). h.took q a) (put_true x.took_back p q t);
  skipped = h.skipped;
  settled = λ fixed. absurd (running_unfixed x run fixed);
}
step_proper g w x y (finds_nonce run up new) h = record { took = h.took; skipped = h.skipped; settled = λ fixed. absurd (running_unfixed x run fixed) }
step_proper g w x y (skips p run notice found unkept) h = record {
  took = h.took;
  skipped = λ q t. ⊎_elim (λ (e : q ≡ p). subst (λ r. x.gave_notice r ≡ true) (sym e) notice) (λ (a : x.skipped q ≡ true). h.skipped q a) (put_true x.skipped p q t);
  settled = λ fixed. absurd (running_unfixed x run fixed);
}
step_proper g w x y (prepares run settled) h = record { took = h.took; skipped = h.skipped; settled = λ fixed. settled }
step_proper g w x y (commits run settled) h = record { took = h.took; skipped = h.skipped; settled = λ fixed. settled }
step_proper g w x y (commits_prepared prepared) h = record { took = h.took; skipped = h.skipped; settled = λ fixed. h.settled (subst IsFixed (sym prepared) tt) }
step_proper g w x y (rolls_back undecided) h = proper_unfixed g x Ended (λ never. never) h
step_proper g w x y (ends visible) h = proper_unfixed g x Ended (λ never. never) h

pub crash_proper : (g : Setting) (x : Transaction) (s : Stage) → x.stage ≡ s → IsProper g x → IsProper g (crashed s x)
crash_proper g x Running e h = proper_unfixed g x Ended (λ never. never) h
crash_proper g x Prepared e h = h
crash_proper g x Committed e h = record { took = h.took; skipped = h.skipped; settled = λ fixed. h.settled (subst IsFixed (sym e) tt) }
crash_proper g x Visible e h = proper_unfixed g x Ended (λ never. never) h
crash_proper g x Recovering e h = h
crash_proper g x Ended e h = h

-- While the database is up, it does not have to be recovered

pub step_recovered : (g : Setting) (w : World) (x y : Transaction) → TransactionStep g w x y → x.stage ≢ Recovering → y.stage ≢ Recovering
step_recovered g w x y (begins_another ended) h = λ e. cc
step_recovered g w x y (changes_row c run) h = h
step_recovered g w x y (gives_notice p run) h = h
step_recovered g w x y (takes_back p run notice exclusive) h = h
step_recovered g w x y (finds_nonce run up new) h = h
step_recovered g w x y (skips p run notice found unkept) h = h
step_recovered g w x y (prepares run settled) h = λ e. cc
step_recovered g w x y (commits run settled) h = λ e. cc
step_recovered g w x y (commits_prepared prepared) h = λ e. cc
step_recovered g w x y (rolls_back undecided) h = λ e. cc
step_recovered g w x y (ends visible) h = λ e. cc

-- While the database is down, no transaction that runs has found the nonce

pub decided_not_found : (x : Transaction) (s : Stage) → s ≢ Running → HasFound (record x { stage = s }) → ⊥
decided_not_found x s decided f = decided f.0

pub step_not_found : (g : Setting) (w : World) (x y : Transaction) → TransactionStep g w x y → w.is_up ≡ false → (HasFound x → ⊥) → HasFound y → ⊥
step_not_found g w x y (begins_another ended) down h f = true≢false (sym f.1)
step_not_found g w x y (changes_row c run) down h f = h f
step_not_found g w x y (gives_notice p run) down h f = h f
step_not_found g w x y (takes_back p run notice exclusive) down h f = h f
step_not_found g w x y (finds_nonce run up new) down h f = true≢false (sym up ∙ down)
step_not_found g w x y (skips p run notice found unkept) down h f = h f
step_not_found g w x y (prepares run settled) down h f = decided_not_found x Prepared (λ e. cc) f
step_not_found g w x y (commits run settled) down h f = decided_not_found x Committed (λ e. cc) f
step_not_found g w x y (commits_prepared prepared) down h f = decided_not_found x Committed (λ e. cc) f
step_not_found g w x y (rolls_back undecided) down h f = decided_not_found x Ended (λ e. cc) f
step_not_found g w x y (ends visible) down h f = decided_not_found x Ended (λ e. cc) f

found_not_running : (x : Transaction) (s : Stage) → x.stage ≡ s → s ≢ Running → HasFound x → ⊥
found_not_running x s e decided f = decided (sym e ∙ f.0)

pub crash_not_found : (x : Transaction) (s : Stage) → x.stage ≡ s → HasFound (crashed s x) → ⊥
crash_not_found x Running e f = decided_not_found x Ended (λ i. cc) f
crash_not_found x Prepared e f = found_not_running x Prepared e (λ i. cc) f
crash_not_found x Committed e f = decided_not_found x Recovering (λ i. cc) f
crash_not_found x Visible e f = decided_not_found x Ended (λ i. cc) f
crash_not_found x Recovering e f = found_not_running x Recovering e (λ i. cc) f
crash_not_found x Ended e f = found_not_running x Ended e (λ i. cc) f
