-- Changes of many rows: a client is cleared, or lowered on a span.
use Rattle.krl_table.proofs.Names.{◌≡◌, ℕ, suc, ◌+◌, ◌≤◌, ◌<◌, Bool, true, false, not, cond, ◌&&◌, List, [], ◌∷◌, Option, Some, None, IsSome, set, refl, sym, ap, subst, ◌∙◌, ⊎_elim, arith, nat_eq}
use Rattle.krl_table.proofs.Names.{cases_lt, nat_tests, nat_le, nat_lt, if◌then◌else◌, get, END, Mode, meet, Bounds, within, In, Waiter, without_first, Index, low_of, span_of, is_slot}
use Rattle.krl_table.proofs.Names.{IsSlotOf, SlotRow, Row, blank_row, set_mode, mode_at, with_mode, unqueue, cleared, lowered, Kept, row_there, rows_of, cleared_row, lowered_between, IsAll, IsOver}
use Rattle.krl_table.proofs.Names.{IsSound, AreCompatible, AreListed, times}
use Rattle.krl_modes.specs.declared.mode.Mode.TheVariants as mode
use Rattle.krl_table.proofs.Rows.RowChanges.{eq_cases, queue_stays}
use Rattle.krl_table.proofs.Invariant.Alone.{alone_here, times_fewer, one_same, times_more}
use Rattle.krl_table.proofs.Invariant.Compatible.{cleared_compatible, lowered_compatible}
use Rattle.krl_table.proofs.Invariant.Stands.{in_unqueue, unqueue_in}
use Rattle.krl_table.proofs.Rows.Slots.{low_under, low_past, slot_end}
use Rattle.krl_table.proofs.Rows.Walk.{lower_before, lower_past, lower_here}
use Rattle.krl_table.proofs.Invariant.Sounds.{NoStrangers, set_strangers, listed_less}
use Rattle.krl_modes.proofs.Basics.{not_both}

pub none_left : (c : ℕ) (ws : List Waiter) → times c ws ≡ 0 → unqueue c ws ≡ ws
none_left c [] e = refl
none_left c (w ∷ ws) e = by_test (nat_eq c w.client) refl (λ g. none_left c ws g)
  where
    by_test : (b : Bool) → nat_eq c w.client ≡ b → (times c ws ≡ 0 → unqueue c ws ≡ ws) → (if not b then w ∷ unqueue c ws else unqueue c ws) ≡ w ∷ ws
    by_test true f ih = absurd (let m = times_more c w ws ∙ ap (λ b. cond b 1 0 + times c ws) f in omega (arith, m, e))
    by_test false f ih = let m = times_more c w ws ∙ ap (λ b. cond b 1 0 + times c ws) f in ap (λ us. w ∷ us) (ih (omega (arith, m, e)))

-- of a client that waits once at most, all waiters are the first
pub only_first : (c : ℕ) (ws : List Waiter) → times c ws ≤ 1 → without_first c ws ≡ unqueue c ws
only_first c [] le = refl
only_first c (w ∷ ws) le = ap (λ b. if b then ws else w ∷ without_first c ws) (one_same w.client c) ∙ by_test (nat_eq c w.client) refl (λ g. only_first c ws g)
  where
    by_test : (b : Bool) → nat_eq c w.client ≡ b → (times c ws ≤ 1 → without_first c ws ≡ unqueue c ws) → (if b then ws else w ∷ without_first c ws) ≡ (if not b then w ∷ unqueue c ws else unqueue c ws)
    by_test true f ih = let m = times_more c w ws ∙ ap (λ b. cond b 1 0 + times c ws) f in sym (none_left c ws (omega (arith, m, le)))
    by_test false f ih = let m = times_more c w ws ∙ ap (λ b. cond b 1 0 + times c ws) f in ap (λ us. w ∷ us) (ih (omega (arith, m, le)))

-- no row is new
module _ (f : ℕ → Row → Row) (t u : Kept) (made : IsAll f t u) where
  near_all : IsSound t → (n : ℕ) → END < n → get u n ≡ None
  near_all s n lt = by_row (get u n) refl
    where
      by_row : (o : Option SlotRow) → get u n ≡ o → get u n ≡ None
      by_row None e = e
      by_row (Some r) e = absurd (let there = made.kept n (subst IsSome (sym e) refl) in let bad = subst IsSome (s.near n lt) there in cc)

  pub all_over : ((n : ℕ) (v : Waiter) → In v (rows_of u n).queue → In v (rows_of t n).queue) → (m : Index) → IsOver m t → IsOver m u
  all_over fewer m over = record {
    near = over.near;
    within = λ n h. over.within n (made.kept n h);
    points = λ n v at. over.points n v (fewer n v at);
    placed = λ n v at. over.placed n v (fewer n v at);
  }

-- Clear

module _ (c : ℕ) (client : c < 64) (t u : Kept) (sound : IsSound t) (made : IsAll (λ n. cleared_row c) t u) where
  pub cleared_is : (n : ℕ) → rows_of u n ≡ cleared (rows_of t) c n
  cleared_is n = made.rows n ∙ (λ i. record {
    modes = set_mode (rows_of t n).modes c mode.N;
    queue = only_first c (rows_of t n).queue (alone_here (λ i. times c (rows_of t i).queue) (sound.alone c) n) i;
  })

  queue_is : (n : ℕ) → (rows_of u n).queue ≡ unqueue c (rows_of t n).queue
  queue_is n = ap (λ (r : Row). r.queue) (cleared_is n)

  pub cleared_sound : IsSound u
  cleared_sound = record {
    near = near_all (λ n. cleared_row c) t u made sound;
    used = made.used;
    strangers = λ n d le. ap (λ (r : Row). r.modes d) (made.rows n) ∙ set_strangers (rows_of t n).modes c mode.N client (sound.strangers n) d le;
    beside = λ n. subst (λ (r : Row). AreCompatible r.modes) (sym (made.rows n)) (cleared_compatible (rows_of t n).modes c (sound.beside n));
    clients = λ n v at. sound.clients n v (in_unqueue (rows_of t n).queue c v (subst (In v) (queue_is n) at)).0;
    alone = λ d i j ne. let x = sound.alone d i j ne in let a = ap (times d) (queue_is i) in let b = ap (times d) (queue_is j) in
        let f = times_fewer d (λ w. not (nat_eq c w.client)) (rows_of t i).queue in let g = times_fewer d (λ w. not (nat_eq c w.client)) (rows_of t j).queue in omega (arith, x, a, b, f, g);
  }

  pub cleared_over : (m : Index) → IsOver m t → IsOver m u
  cleared_over = all_over (λ n. cleared_row c) t u made (λ n v at. (in_unqueue (rows_of t n).queue c v (subst (In v) (queue_is n) at)).0)

  pub cleared_listed : (waiting : List (Option Waiter)) → AreListed waiting t → AreListed (set waiting c None) u
  cleared_listed waiting = listed_less waiting t u c client
      (λ n w at. in_unqueue (rows_of t n).queue c w (subst (In w) (queue_is n) at))
      (λ n w at ne. subst (In w) (sym (queue_is n)) (unqueue_in (rows_of t n).queue c w at ne))

-- Lower

module _ (from hi c : ℕ) (keep : Mode) (client : c < 64) (t u : Kept) (made : IsAll (lowered_between from hi c keep) t u) where
  -- each row is as it was, or the client's mode is lowered
  by_row : (P : Row → Type 0) (n : ℕ) → P (rows_of t n) → P (with_mode (rows_of t n) c (meet (mode_at (rows_of t) n c) keep)) → P (rows_of u n)
  by_row P n same low = subst P (sym (made.rows n)) (by_test (nat_le from n && nat_lt n hi))
    where
      by_test : (b : Bool) → P (if b then with_mode (rows_of t n) c (meet (mode_at (rows_of t) n c) keep) else rows_of t n)
      by_test true = low
      by_test false = same

  pub lowered_queue : (n : ℕ) → (rows_of u n).queue ≡ (rows_of t n).queue
  lowered_queue n = ap (λ (r : Row). r.queue) (made.rows n) ∙ queue_stays (nat_le from n && nat_lt n hi) (rows_of t n) c (meet (mode_at (rows_of t) n c) keep)

  pub lowered_sound : IsSound t → IsSound u
  lowered_sound s = record {
    near = near_all (lowered_between from hi c keep) t u made s;
    used = made.used;
    strangers = λ n. by_row NoStrangers n (s.strangers n) (set_strangers (rows_of t n).modes c (meet (mode_at (rows_of t) n c) keep) client (s.strangers n));
    beside = λ n. by_row (λ r. AreCompatible r.modes) n (s.beside n) (lowered_compatible (rows_of t n).modes c keep (s.beside n));
    clients = λ n v at. s.clients n v (subst (In v) (lowered_queue n) at);
    alone = λ d i j ne. let x = s.alone d i j ne in let a = ap (times d) (lowered_queue i) in let b = ap (times d) (lowered_queue j) in omega (arith, x, a, b);
  }

  pub lowered_over : (m : Index) → IsOver m t → IsOver m u
  lowered_over = all_over (lowered_between from hi c keep) t u made (λ n v at. subst (In v) (lowered_queue n) at)

  module _ (m : Index) (over : IsOver m t) (span : Bounds) (ends : hi ≡ span.hi) (begins : ((n : ℕ) → is_slot m n ≡ true → n < from → low_of m n < span.lo) × ((n : ℕ) → is_slot m n ≡ true → from ≤ n → span.lo ≤ low_of m n)) where
    pub lowered_is : (n : ℕ) → rows_of u n ≡ lowered m (rows_of t) c span keep n
    lowered_is n = made.rows n ∙ by_slot (is_slot m n) refl
      where
        low : Row
        low = with_mode (rows_of t n) c (meet (mode_at (rows_of t) n c) keep)

        blank : is_slot m n ≡ false → rows_of t n ≡ blank_row
        blank e = no_row (get t n) refl
          where
            no_row : (o : Option SlotRow) → get t n ≡ o → row_there (get t n) ≡ blank_row
            no_row None f = ap row_there f
            no_row (Some r) f = absurd (not_both (is_slot m n) (over.within n (subst IsSome (sym f) refl)) e)

        outside : is_slot m n ≡ true → n < from → within (span_of m n) span ≡ false
        outside e lt = let under = begins.0 n e lt in let test : nat_le span.lo (low_of m n) ≡ false = grind (arith, nat_tests) in ap (λ b. b && nat_le (suc n) span.hi) test

        inside : is_slot m n ≡ true → from ≤ n → within (span_of m n) span ≡ nat_lt n hi
        inside e le = let at = begins.1 n e le in let test : nat_le span.lo (low_of m n) ≡ true = grind (arith, nat_tests) in
            ap (λ b. b && nat_le (suc n) span.hi) test ∙ (let same : nat_le (suc n) span.hi ≡ nat_lt n hi = grind (arith, nat_tests) in same)

        by_slot : (b : Bool) → is_slot m n ≡ b → lowered_between from hi c keep n (rows_of t n) ≡ (if is_slot m n && within (span_of m n) span then with_mode (rows_of t n) c (meet (mode_at (rows_of t) n c) keep) else rows_of t n)
        by_slot false e = ap (lowered_between from hi c keep n) (blank e) ∙ Rattle.krl_table.proofs.Rows.Walk.lower_keeps from hi c keep n ∙ sym (blank e)
            ∙ sym (ap (λ b. if b && within (span_of m n) span then with_mode (rows_of t n) c (meet (mode_at (rows_of t) n c) keep) else rows_of t n) e)
        by_slot true e = ⊎_elim
            (λ (lt : n < from). lower_before from hi c keep n (rows_of t n) lt
            ∙ sym ((λ i. if e i && outside e lt i then with_mode (rows_of t n) c (meet (mode_at (rows_of t) n c) keep) else rows_of t n)))
            (λ (le : from ≤ n). ⊎_elim
            (λ (lt : n < hi). lower_here from hi c keep n (rows_of t n) le lt
            ∙ sym ((λ i. if e i && (inside e le ∙ (let test : nat_lt n hi ≡ true = grind (arith, nat_tests) in test)) i then with_mode (rows_of t n) c (meet (mode_at (rows_of t) n c) keep) else rows_of t n)))
            (λ (ge : hi ≤ n). lower_past from hi c keep n (rows_of t n) ge
            ∙ sym ((λ i. if e i && (inside e le ∙ (let test : nat_lt n hi ≡ false = grind (arith, nat_tests) in test)) i then with_mode (rows_of t n) c (meet (mode_at (rows_of t) n c) keep) else rows_of t n)))
            (cases_lt n hi))
            (cases_lt n from)

-- the slots whose spans begin at the point or above are those from one on
module _ (m : Index) (near : (k : ℕ) → END ≤ k → get m k ≡ None) (p s : ℕ) (at : IsSlotOf m p s) where
  pub begins_past : low_of m s < p → ((n : ℕ) → is_slot m n ≡ true → n < s + 1 → low_of m n < p) × ((n : ℕ) → is_slot m n ≡ true → s + 1 ≤ n → p ≤ low_of m n)
  begins_past lt = (
    λ n e under. eq_cases n s (λ f. subst (λ k. low_of m k < p) (sym f) lt)
        (λ ne. ⊎_elim (λ (a : n < p). let b = low_under m n in omega (arith, a, b)) (λ (a : p ≤ n). absurd (not_both (is_slot m n) e (at.least n a (omega (arith, under, ne))))) (cases_lt n p)),
    λ n e le. let a = low_past m near s n at.slot (omega (arith, le)) (slot_end m near n e) in let b = at.above in omega (arith, a, b),
  )

  pub begins_at : p ≤ low_of m s → ((n : ℕ) → is_slot m n ≡ true → n < s → low_of m n < p) × ((n : ℕ) → is_slot m n ≡ true → s ≤ n → p ≤ low_of m n)
  begins_at ge = (
    λ n e under. ⊎_elim (λ (a : n < p). let b = low_under m n in omega (arith, a, b)) (λ (a : p ≤ n). absurd (not_both (is_slot m n) e (at.least n a under))) (cases_lt n p),
    λ n e le. eq_cases n s (λ f. subst (λ k. p ≤ low_of m k) (sym f) ge)
        (λ ne. let a = low_past m near s n at.slot (omega (arith, le, ne)) (slot_end m near n e) in let b = at.above in omega (arith, a, b)),
  )
