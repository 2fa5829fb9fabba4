-- What a read returns from memory is the table.
use Rattle.std.proofs.Common.{◌≡◌, true, ◌<◌, ◌≤◌, ℕ, zero, suc, ◌+◌, Option, refl, sym, ◌∙◌, ap, arith}
use Rattle.krl_cached_table.specs.Worlds.{Setting, row_after, Load, World}
use Rattle.krl_cached_table.specs.Steps.{Step, locks_change, takes_cluster_mark, transacts, counts_recall, becomes_visible, crashes, recovers, starts, closes, suspends, resumes, suspends_again, opens, joins_again, loads, counts_as_kept, Steps, none, more}
use Rattle.krl_cached_table.specs.Promises.{HasTenure, AnswersAreTable, with_row, range, RangesAreTable}
use Rattle.krl_cached_table.proofs.Sound.{IsHome, RowFacts}
use Rattle.krl_cached_table.proofs.Worlds.{sound, later_tenure}

-- No step gives a client an earlier tenure

step_rises : (g : Setting) (w v : World) → Step g w v → (c p : ℕ) → w.tenure c p ≤ v.tenure c p
step_rises g w v (locks_change held tenure compatible notes) c p = later_tenure g w held tenure notes c p
step_rises g w v (takes_cluster_mark exclusive) c p = omega arith
step_rises g w v (transacts t x step) c p = omega arith
step_rises g w v (counts_recall t q run took) c p = omega arith
step_rises g w v (becomes_visible t committed) c p = omega arith
step_rises g w v crashes c p = omega arith
step_rises g w v (recovers t recovering) c p = omega arith
step_rises g w v (starts down recovered) c p = omega arith
step_rises g w v closes c p = omega arith
step_rises g w v (suspends closed nobody) c p = omega arith
step_rises g w v resumes c p = omega arith
step_rises g w v (suspends_again was) c p = omega arith
step_rises g w v (opens active) c p = omega arith
step_rises g w v joins_again c p = omega arith
step_rises g w v (loads n l step) c p = omega arith
step_rises g w v (counts_as_kept n q held found) c p = omega arith

steps_rise : (g : Setting) (w v : World) → Steps g w v → (c p : ℕ) → w.tenure c p ≤ v.tenure c p
steps_rise g w v none c p = omega arith
steps_rise g w v (more {v = u} before step) c p =
    let first : w.tenure c p ≤ u.tenure c p = steps_rise g w u before c p in
    let last : u.tenure c p ≤ v.tenure c p = step_rises g u v step c p in
    omega arith

-- so a client that has its tenure later has it now
had_tenure : (g : Setting) (w v : World) (l : Load) (p : ℕ) → Steps g w v → IsHome g w l → HasTenure v l p → HasTenure w l p
had_tenure g w v l p later h t =
    let past : l.tenures p ≤ w.tenure l.client p = h.past p t.0 in
    let rises : w.tenure l.client p ≤ v.tenure l.client p = steps_rise g w v later l.client p in
    let same : v.tenure l.client p ≡ l.tenures p = t.1 in
    (t.0, omega arith)

pub answers_are_table : AnswersAreTable
answers_are_table g w key row reachable a =
    let l : Load = w.loads a.load in
    let h : RowFacts g w l key = ((sound g w reachable).loads a.load).rows a.kept key (λ p i. listed (a.tenures p i).0 p (a.tenures p i).2) in
    sym a.taken ∙ h.row (λ p i. had_tenure g w (a.tenures p i).0 l p (a.tenures p i).1 (h.quiet p i).0 (a.tenures p i).2)
  where
    listed : (v : World) (p : ℕ) → HasTenure v (w.loads a.load) p → (w.loads a.load).places p ≡ true
    listed v p t = t.0

-- Ranges

pub range_same : (f h : ℕ → Option ℕ) (lo n : ℕ) → ((key : ℕ) → lo ≤ key → key < lo + n → f key ≡ h key) → range f lo n ≡ range h lo n
range_same f h lo zero same = refl
range_same f h lo (suc n) same =
    let here : f lo ≡ h lo = same lo (omega arith) (omega arith) in
    let rest : range f (suc lo) n ≡ range h (suc lo) n = range_same f h (suc lo) n (λ key low high. same key (omega arith) (omega arith)) in
    ap (λ r. with_row lo r (range f (suc lo) n)) here ∙ ap (with_row lo (h lo)) rest

pub ranges_are_table : RangesAreTable
ranges_are_table g w lo n row_of reachable answers =
    range_same row_of (row_after w.changes) lo n (λ key low high. answers_are_table g w key (row_of key) reachable (answers key low high))
