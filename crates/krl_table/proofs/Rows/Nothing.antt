-- A table without rows.
use Rattle.krl_table.proofs.Names.{◌≡◌, ◌≤◌, ℕ, List, Option, None, IsSome, length, refl, sym, ap, subst, arith, get, END, In, Waiter, Index, Row, blank_row, Kept, row_there, rows_of, IsOver}
use Rattle.krl_table.proofs.Names.{IsSound, AreCompatible, AreListed, times, waiter_in}
use Rattle.krl_table.proofs.Invariant.Sounds.{some_none}

module _ (t : Kept) (none : (n : ℕ) → get t n ≡ None) where
  pub nothing_rows : (n : ℕ) → rows_of t n ≡ blank_row
  nothing_rows n = ap row_there (none n)

  nobody : (n : ℕ) (u : Waiter) → In u (rows_of t n).queue → ⊥
  nobody n u at = subst (λ (r : Row). In u r.queue) (nothing_rows n) at

  pub nothing_sound : IsSound t
  nothing_sound = record {
    near = λ n lt. none n;
    used = λ n r e. absurd (some_none (get t n) r e (none n));
    strangers = λ n c le. ap (λ (r : Row). r.modes c) (nothing_rows n);
    beside = λ n. subst (λ (r : Row). AreCompatible r.modes) (sym (nothing_rows n)) (λ c d ne. refl);
    clients = λ n u at. absurd (nobody n u at);
    alone = λ c i j ne. let a = ap (λ (r : Row). times c r.queue) (nothing_rows i) in let b = ap (λ (r : Row). times c r.queue) (nothing_rows j) in omega (arith, a, b);
  }

  pub nothing_over : (m : Index) → ((n : ℕ) → END ≤ n → get m n ≡ None) → IsOver m t
  nothing_over m near = record {
    near = near;
    within = λ n h. absurd (let bad = subst IsSome (none n) h in cc);
    points = λ n u at. absurd (nobody n u at);
    placed = λ n u at. absurd (nobody n u at);
  }

  pub nothing_listed : (waiting : List (Option Waiter)) → length waiting ≡ 64 → ((c : ℕ) → waiter_in waiting c ≡ None) → AreListed waiting t
  nothing_listed waiting full free = record {
    full = full;
    here = λ n u at. absurd (nobody n u at);
    there = λ c u e. absurd (some_none (waiter_in waiting c) u e (free c));
  }
