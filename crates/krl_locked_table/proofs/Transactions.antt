-- A step of a transaction goes on from what it had, and keeps it proper; so does a crash of the database.
use Rattle.std.proofs.Common.{◌≡◌, ◌≢◌, ℕ, ◌⊎◌, inl, inr, true, false, Option, Some, refl, sym, subst, ⊎_elim, true≢false, eqb}
use Rattle.std.proofs.lemmas.Bool.{eqb-true, cond_both}
use Rattle.krl_cached_table.specs.Worlds.{Stage, Running, Prepared, Committed, Visible, Recovering, Ended}
use Rattle.krl_cached_table.specs.Steps.{put, has_locks}
use Rattle.krl_cached_table.proofs.Sound.{IsFixed}
use Rattle.krl_cached_table.proofs.Transactions.{put_true, put_keeps, running_not_ended, prepared_not_ended, committed_not_ended}
use Rattle.krl_locked_table.specs.Worlds.{Setting, Transaction, World, new_transaction}
use Rattle.krl_locked_table.specs.Steps.{TransactionStep, begins_another, changes_row, shares_lock, sees_open, begins_to_wait, has_waited, prepares, commits, commits_prepared, rolls_back, ends, crashed}
use Rattle.krl_locked_table.proofs.Sound.{IsProper, HasNotEnded}
use Rattle.krl_locked_table.proofs.Frames.{Goes, goes_same}

put_some : (f : ℕ → Option ℕ) (n since m now : ℕ) → put f n (Some now) m ≡ Some since → ((m ≡ n) × (since ≡ now)) ⊎ (f m ≡ Some since)
put_some f n since m now = cond_both (eqb m n) (Some now) (f m) (λ o. o ≡ Some since → ((m ≡ n) × (since ≡ now)) ⊎ (f m ≡ Some since))
    (λ e s. inl (eqb-true m n e, cc)) (λ e s. inr s)

-- It goes on

-- to any later stage, from one in which it has not ended and had its locks
pub goes_to : (g : Setting) (w : World) (x : Transaction) (s : Stage) → HasNotEnded x → (has_locks s ≡ true → has_locks x.stage ≡ true) → Goes g w x (record x { stage = s })
goes_to g w x s here locks = record {
  waits = λ p since n e. inl (here, e);
  settled = λ p n e. inl (here, e);
  lock = λ p h. inl (locks h.0, h.1);
}

pub to_end : (g : Setting) (w : World) (x : Transaction) → Goes g w x (record x { stage = Ended })
to_end g w x = record {
  waits = λ p since n e. absurd (n refl);
  settled = λ p n e. absurd (n refl);
  lock = λ p h. absurd (true≢false (sym h.0));
}

pub step_goes : (g : Setting) (w : World) (x y : Transaction) → TransactionStep g w x y → Goes g w x y
step_goes g w x y (begins_another ended) = record {
  waits = λ p since n e. cc;
  settled = λ p n e. absurd (true≢false (sym e));
  lock = λ p h. absurd (true≢false (sym h.1));
}
step_goes g w x y (changes_row c run) = record { waits = λ p since n e. inl (n, e); settled = λ p n e. inl (n, e); lock = λ p h. inl h }
step_goes g w x y (shares_lock p run free) = record {
  waits = λ q since n e. inl (n, e);
  settled = λ q n e. inl (n, e);
  lock = λ q h. ⊎_elim (λ (e : q ≡ p). inr (subst (λ r. w.locks r ≡ false) (sym e) free)) (λ (a : x.shares q ≡ true). inl (h.0, a)) (put_true x.shares p q h.1);
}
step_goes g w x y (sees_open p run shares opened) = record {
  waits = λ q since n e. inl (n, e);
  settled = λ q n e. ⊎_elim (λ (i : q ≡ p). inr (inl opened)) (λ (a : x.settled q ≡ true). inl (n, a)) (put_true x.settled p q e);
  lock = λ q h. inl h;
}
step_goes g w x y (begins_to_wait p run shares) = record {
  waits = λ q since n e. ⊎_elim (λ (a : (q ≡ p) × (since ≡ w.now)). inr a.1) (λ (a : x.waits q ≡ Some since). inl (n, a)) (put_some x.waits p since q w.now e);
  settled = λ q n e. inl (n, e);
  lock = λ q h. inl h;
}
step_goes g w x y (has_waited p began run waits late) = record {
  waits = λ q since n e. inl (n, e);
  settled = λ q n e. ⊎_elim
      (λ (i : q ≡ p). inr (inr (began, n, subst (λ r. x.waits r ≡ Some began) (sym i) waits, late)))
      (λ (a : x.settled q ≡ true). inl (n, a)) (put_true x.settled p q e);
  lock = λ q h. inl h;
}
step_goes g w x y (prepares run settled) = goes_to g w x Prepared (running_not_ended x.stage run) (λ e. subst (λ s. has_locks s ≡ true) (sym run) refl)
step_goes g w x y (commits run settled) = goes_to g w x Committed (running_not_ended x.stage run) (λ e. subst (λ s. has_locks s ≡ true) (sym run) refl)
step_goes g w x y (commits_prepared prepared) = goes_to g w x Committed (prepared_not_ended x.stage prepared) (λ e. subst (λ s. has_locks s ≡ true) (sym prepared) refl)
step_goes g w x y (rolls_back undecided) = to_end g w x
step_goes g w x y (ends visible) = to_end g w x

pub crash_goes : (g : Setting) (w : World) (x : Transaction) (s : Stage) → x.stage ≡ s → Goes g w x (crashed s x)
crash_goes g w x Running e = to_end g w x
crash_goes g w x Prepared e = goes_same g w x
crash_goes g w x Committed e = goes_to g w x Recovering (committed_not_ended x.stage e) (λ i. absurd (true≢false (sym i)))
crash_goes g w x Visible e = to_end g w x
crash_goes g w x Recovering e = goes_same g w x
crash_goes g w x Ended e = goes_same g w x

-- It stays proper

-- in a stage in which it will not become visible, or is
pub proper_unfixed : (g : Setting) (x : Transaction) (s : Stage) → (IsFixed s → ⊥) → IsProper g x → IsProper g (record x { stage = s })
proper_unfixed g x s unfixed h = record { waited = h.waited; settled = h.settled; fixed = λ fixed. absurd (unfixed fixed) }

running_unfixed : (x : Transaction) → x.stage ≡ Running → IsFixed x.stage → ⊥
running_unfixed x run fixed = subst IsFixed run fixed

pub new_proper : (g : Setting) → IsProper g new_transaction
new_proper g = record { waited = λ p since e. cc; settled = λ p e. absurd (true≢false (sym e)); fixed = λ fixed. absurd fixed }

pub step_proper : (g : Setting) (w : World) (x y : Transaction) → TransactionStep g w x y → IsProper g x → IsProper g y
step_proper g w x y (begins_another ended) h = new_proper g
step_proper g w x y (changes_row c run) h = record { waited = h.waited; settled = h.settled; fixed = λ fixed. absurd (running_unfixed x run fixed) }
step_proper g w x y (shares_lock p run free) h = record {
  waited = λ q since e. put_keeps x.shares p q (h.waited q since e);
  settled = λ q e. put_keeps x.shares p q (h.settled q e);
  fixed = λ fixed. absurd (running_unfixed x run fixed);
}
step_proper g w x y (sees_open p run shares opened) h = record {
  waited = h.waited;
  settled = λ q e. ⊎_elim (λ (i : q ≡ p). subst (λ r. x.shares r ≡ true) (sym i) shares) (λ (a : x.settled q ≡ true). h.settled q a) (put_true x.settled p q e);
  fixed = λ fixed. absurd (running_unfixed x run fixed);
}
step_proper g w x y (begins_to_wait p run shares) h = record {
  waited = λ q since e. ⊎_elim (λ (a : (q ≡ p) × (since ≡ w.now)). subst (λ r. x.shares r ≡ true) (sym a.0) shares) (λ (a : x.waits q ≡ Some since). h.waited q since a) (put_some x.waits p since q w.now e);
  settled = h.settled;
  fixed = λ fixed. absurd (running_unfixed x run fixed);
}
step_proper g w x y (has_waited p began run waits late) h = record {
  waited = h.waited;
  settled = λ q e. ⊎_elim (λ (i : q ≡ p). subst (λ r. x.shares r ≡ true) (sym i) (h.waited p began waits)) (λ (a : x.settled q ≡ true). h.settled q a) (put_true x.settled p q e);
  fixed = λ fixed. absurd (running_unfixed x run fixed);
}
step_proper g w x y (prepares run settled) h = record { waited = h.waited; settled = h.settled; fixed = λ fixed. settled }
step_proper g w x y (commits run settled) h = record { waited = h.waited; settled = h.settled; fixed = λ fixed. settled }
step_proper g w x y (commits_prepared prepared) h = record { waited = h.waited; settled = h.settled; fixed = λ fixed. h.fixed (subst IsFixed (sym prepared) tt) }
step_proper g w x y (rolls_back undecided) h = proper_unfixed g x Ended (λ never. never) h
step_proper g w x y (ends visible) h = proper_unfixed g x Ended (λ never. never) h

pub crash_proper : (g : Setting) (x : Transaction) (s : Stage) → x.stage ≡ s → IsProper g x → IsProper g (crashed s x)
crash_proper g x Running e h = proper_unfixed g x Ended (λ never. never) h
crash_proper g x Prepared e h = h
crash_proper g x Committed e h = record { waited = h.waited; settled = h.settled; fixed = λ fixed. h.fixed (subst IsFixed (sym e) tt) }
crash_proper g x Visible e h = proper_unfixed g x Ended (λ never. never) h
crash_proper g x Recovering e h = h
crash_proper g x Ended e h = h

-- While the database is up, it does not have to be recovered
pub step_recovered : (g : Setting) (w : World) (x y : Transaction) → TransactionStep g w x y → x.stage ≢ Recovering → y.stage ≢ Recovering
step_recovered g w x y (begins_another ended) h = λ e. cc
step_recovered g w x y (changes_row c run) h = h
step_recovered g w x y (shares_lock p run free) h = h
step_recovered g w x y (sees_open p run shares opened) h = h
step_recovered g w x y (begins_to_wait p run shares) h = h
step_recovered g w x y (has_waited p began run waits late) h = h
step_recovered g w x y (prepares run settled) h = λ e. cc
step_recovered g w x y (commits run settled) h = λ e. cc
step_recovered g w x y (commits_prepared prepared) h = λ e. cc
step_recovered g w x y (rolls_back undecided) h = λ e. cc
step_recovered g w x y (ends visible) h = λ e. cc
