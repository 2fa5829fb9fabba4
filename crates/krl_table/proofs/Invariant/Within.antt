-- Each client holds and waits only in its extent.
use Rattle.krl_table.proofs.Names.{◌≡◌, ◌≢◌, ℕ, ◌+◌, ◌≤◌, ◌<◌, Bool, true, false, not, ◌&&◌, List, [], ◌∷◌, ◌++◌, None, ◌⊎◌, inl, inr, length, set, refl, sym, ap, subst, ◌∙◌, ⊎_elim, arith}
use Rattle.krl_table.proofs.Names.{nat_eq, eq-eqb, ne_eqb, nat_tests, get_or-set_same, get_or-set_other, fun_ext, nat_le, nat_lt, if◌then◌else◌, get, TOP, Mode, lets_insert, range_of}
use Rattle.krl_table.proofs.Names.{at_or_above, meet, Waiter, without_first, up_to, beyond, Extent, Row, blank_row, set_mode, with_mode, with_queue, queue_with, unqueue}
use Rattle.krl_table.proofs.Names.{behind_first, split_modes, mode_beside, wanted, grant_first, Kept, row_there, rows_of, cleared_row, lowered_between, times, IsSet, AreSet, IsAll, IsSound, nowhere}
use Rattle.krl_table.proofs.Names.{extent_in, Lies, AreWider, IsFreeOf, AreWithin, cleared_within}
use Rattle.krl_modes.specs.declared.part.KeyPart.TheVariants as key
use Rattle.krl_modes.specs.declared.mode.Mode.TheVariants as mode
use Rattle.krl_table.proofs.Rows.RowChanges.{eq_cases}
use Rattle.krl_table.proofs.Invariant.Alone.{one, times_more, times_both, times_fewer, times_parted, times_with}
use Rattle.krl_table.proofs.Invariant.Alone.{alone_here}
use Rattle.krl_table.proofs.Invariant.Sounds.{other_row}
use Rattle.krl_table.proofs.Calls.Clears.{none_left, only_first}
use Rattle.krl_table.proofs.Rows.Walk.{meet_n}

pub same_wider : (es : List Extent) → AreWider es es
same_wider es c n at = at

pub within_wider : (es fs : List Extent) (t : Kept) → AreWider es fs → AreWithin es t → AreWithin fs t
within_wider es fs t wider w n c lt = ⊎_elim (λ (a : Lies (extent_in es c) n). inl (wider c n a)) (λ (b : IsFreeOf (rows_of t n) c). inr b) (w n c lt)

-- each client up to one follows, and this one too
module _ (es fs : List Extent) (k from to : ℕ) (x : Extent) (full : length fs ≡ 64) (lt : k < 64) (wider : AreWider es fs) (kept : (n : ℕ) → Lies (extent_in fs k) n → Lies x n) where
  pub follow_wider : AreWider es (set fs k x)
  follow_wider c n at = eq_cases c k
      (λ e. subst (λ (y : Extent). Lies y n) (sym (ap (extent_in (set fs k x)) e ∙ get_or-set_same fs k x nowhere (omega (arith, full, lt)))) (kept n (subst (λ j. Lies (extent_in fs j) n) e (wider c n at))))
      (λ ne. subst (λ (y : Extent). Lies y n) (sym (get_or-set_other fs k c x nowhere ne)) (wider c n at))

  pub follow_there : ((c : ℕ) → c < k → Lies (extent_in es c) from → Lies (extent_in fs c) to) → (Lies (extent_in fs k) from → Lies x to) → (c : ℕ) → c < k + 1 → Lies (extent_in es c) from → Lies (extent_in (set fs k x) c) to
  follow_there before here c under at = eq_cases c k
      (λ e. subst (λ (y : Extent). Lies y to) (sym (ap (extent_in (set fs k x)) e ∙ get_or-set_same fs k x nowhere (omega (arith, full, lt)))) (here (subst (λ j. Lies (extent_in fs j) from) e (wider c from at))))
      (λ ne. subst (λ (y : Extent). Lies y to) (sym (get_or-set_other fs k c x nowhere ne)) (before c (omega (arith, under, ne)) at))

blank_free : (c : ℕ) → IsFreeOf blank_row c
blank_free c = (refl, omega arith)

pub none_within : (es : List Extent) (t : Kept) → ((n : ℕ) → get t n ≡ None) → AreWithin es t
none_within es t none n c lt = inr (subst (λ (r : Row). IsFreeOf r c) (sym (ap row_there (none n))) (blank_free c))

-- One row is set

module _ (es fs : List Extent) (t u : Kept) (k : ℕ) (row : Row) (s : IsSet t u k row) (wider : AreWider es fs) (w : AreWithin es t) where
  within_set : ((c : ℕ) → c < 64 → Lies (extent_in fs c) k ⊎ IsFreeOf row c) → AreWithin fs u
  within_set here n c lt = eq_cases n k
      (λ e. subst (λ j. Lies (extent_in fs c) j ⊎ IsFreeOf (rows_of u j) c) (sym e) (subst (λ (r : Row). Lies (extent_in fs c) k ⊎ IsFreeOf r c) (sym s.here) (here c lt)))
      (λ ne. subst (λ (r : Row). Lies (extent_in fs c) n ⊎ IsFreeOf r c) (sym (other_row t u k row s n ne)) (within_wider es fs t wider w n c lt))

  -- nobody has more there
  pub within_less : ((c : ℕ) → IsFreeOf (rows_of t k) c → IsFreeOf row c) → AreWithin fs u
  within_less less = within_set (λ c lt. ⊎_elim (λ (a : Lies (extent_in es c) k). inl (wider c k a)) (λ (b : IsFreeOf (rows_of t k) c). inr (less c b)) (w k c lt))

  -- nobody but one client has more there
  pub within_one : (d : ℕ) → Lies (extent_in fs d) k → ((c : ℕ) → c ≢ d → IsFreeOf (rows_of t k) c → IsFreeOf row c) → AreWithin fs u
  within_one d there less = within_set (λ c lt. eq_cases c d
      (λ e. inl (subst (λ x. Lies (extent_in fs x) k) (sym e) there))
      (λ ne. ⊎_elim (λ (a : Lies (extent_in es c) k). inl (wider c k a)) (λ (b : IsFreeOf (rows_of t k) c). inr (less c ne b)) (w k c lt)))

pub free_mode : (row : Row) (d c : ℕ) (g : Mode) → c ≢ d → IsFreeOf row c → IsFreeOf (with_mode row d g) c
free_mode row d c g ne f = (ap (λ b. if b then g else row.modes c) (ne_eqb c d ne) ∙ f.0, f.1)

pub free_queue_with : (row : Row) (u : Waiter) (c : ℕ) → c ≢ u.client → IsFreeOf row c → IsFreeOf (with_queue row (queue_with row u)) c
free_queue_with row u c ne f = (f.0, (let a = times_with row u c in let b = ap one (ne_eqb c u.client ne) in let z = f.1 in omega (arith, a, b, z)))

times_behind : (c : ℕ) (us : List Waiter) → times c (behind_first us) ≤ times c us
times_behind c [] = omega arith
times_behind c (u ∷ us) = omega (arith, times_more c u us)

pub free_behind : (row : Row) (c : ℕ) → IsFreeOf row c → IsFreeOf (with_queue row (behind_first row.queue)) c
free_behind row c f = (f.0, (let a = times_behind c row.queue in let z = f.1 in omega (arith, a, z)))

pub free_granted : (row : Row) (c : ℕ) → IsFreeOf row c → IsFreeOf (grant_first row row.queue) c
free_granted row c f = by_queue row.queue f.1
  where
    by_queue : (us : List Waiter) → times c us ≡ 0 → IsFreeOf (grant_first row us) c
    by_queue [] e = f
    by_queue (u ∷ us) e = (
      ap (λ b. if b then wanted row u else row.modes c) (ne_eqb c u.client (λ g. let here = ap one (eq-eqb c u.client g) in omega (arith, times_more c u us, e, here))) ∙ f.0,
      omega (arith, times_more c u us, e),
    )

-- Two rows are set

module _ (es fs : List Extent) (t u : Kept) (i : ℕ) (a : Row) (j : ℕ) (b : Row) (s : AreSet t u i a j b) (wider : AreWider es fs) (w : AreWithin es t) where
  within_both : ((c : ℕ) → c < 64 → Lies (extent_in fs c) i ⊎ IsFreeOf a c) → ((c : ℕ) → c < 64 → Lies (extent_in fs c) j ⊎ IsFreeOf b c) → AreWithin fs u
  within_both at_i at_j n c lt = eq_cases n i
      (λ e. subst (λ k. Lies (extent_in fs c) k ⊎ IsFreeOf (rows_of u k) c) (sym e) (subst (λ (r : Row). Lies (extent_in fs c) i ⊎ IsFreeOf r c) (sym s.first) (at_i c lt)))
      (λ ni. eq_cases n j
      (λ e. subst (λ k. Lies (extent_in fs c) k ⊎ IsFreeOf (rows_of u k) c) (sym e) (subst (λ (r : Row). Lies (extent_in fs c) j ⊎ IsFreeOf r c) (sym s.second) (at_j c lt)))
      (λ nj. subst (λ (r : Row). Lies (extent_in fs c) n ⊎ IsFreeOf r c) (sym (ap row_there (s.others n ni nj))) (within_wider es fs t wider w n c lt)))

-- the slot s is parted at k
module _ (es fs : List Extent) (t u : Kept) (k s c : ℕ) (wider : AreWider es fs) (w : AreWithin es t) (follows : (d : ℕ) → d < 64 → Lies (extent_in es d) s → Lies (extent_in fs d) k) (may : lets_insert (range_of ((rows_of t s).modes c)) ≡ true) where
  abbrev new : Row
  new = record { modes = split_modes (rows_of t s).modes c; queue = up_to k (rows_of t s).queue }

  abbrev old : Row
  old = with_queue (rows_of t s) (beyond k (rows_of t s).queue)

  -- a client that writes holds something
  writer : IsFreeOf (rows_of t s) c → ⊥
  writer f = let bad : lets_insert (range_of mode.N) ≡ true = subst (λ g. lets_insert (range_of g) ≡ true) f.0 may in absurd (cc)

  new_free : (d : ℕ) → IsFreeOf (rows_of t s) d → IsFreeOf new d
  new_free d f = (
    eq_cases d c
        (λ e. absurd (writer (subst (IsFreeOf (rows_of t s)) e f)))
        (λ ne. ap (λ b. if b then at_or_above (range_of ((rows_of t s).modes c)) key.X else mode_beside (range_of ((rows_of t s).modes d))) (ne_eqb d c ne) ∙ ap (λ g. mode_beside (range_of g)) f.0),
    (let a = times_parted d k (rows_of t s).queue in let z = f.1 in omega (arith, a, z)),
  )

  old_free : (d : ℕ) → IsFreeOf (rows_of t s) d → IsFreeOf old d
  old_free d f = (f.0, (let a = times_parted d k (rows_of t s).queue in let z = f.1 in omega (arith, a, z)))

  pub split_within : AreSet t u k new s old → AreWithin fs u
  split_within set = within_both es fs t u k new s old set wider w
      (λ d lt. ⊎_elim (λ (a : Lies (extent_in es d) s). inl (follows d lt a)) (λ (b : IsFreeOf (rows_of t s) d). inr (new_free d b)) (w s d lt))
      (λ d lt. ⊎_elim (λ (a : Lies (extent_in es d) s). inl (wider d s a)) (λ (b : IsFreeOf (rows_of t s) d). inr (old_free d b)) (w s d lt))

-- the slot k goes, and s comes after it
module _ (es fs : List Extent) (t u : Kept) (k s : ℕ) (wider : AreWider es fs) (w : AreWithin es t) (follows : (d : ℕ) → d < 64 → Lies (extent_in es d) k → Lies (extent_in fs d) s) where
  abbrev both : Row
  both = with_queue (rows_of t s) ((rows_of t k).queue ++ (rows_of t s).queue)

  pub merge_within : AreSet t u k blank_row s both → AreWithin fs u
  merge_within set = within_both es fs t u k blank_row s both set wider w
      (λ d lt. inr (blank_free d))
      (λ d lt. ⊎_elim (λ (a : Lies (extent_in es d) k). inl (follows d lt a))
      (λ (b : IsFreeOf (rows_of t k) d). ⊎_elim (λ (a : Lies (extent_in es d) s). inl (wider d s a))
      (λ (a : IsFreeOf (rows_of t s) d). inr (a.0, (let x = times_both d (rows_of t k).queue (rows_of t s).queue in let y = a.1 in let z = b.1 in omega (arith, x, y, z)))) (w s d lt)) (w k d lt))

-- Many rows change

pub within_all : (es : List Extent) (f : ℕ → Row → Row) (t u : Kept) → IsAll f t u → ((n c : ℕ) (row : Row) → IsFreeOf row c → IsFreeOf (f n row) c) → AreWithin es t → AreWithin es u
within_all es f t u made free w n c lt = ⊎_elim
    (λ (a : Lies (extent_in es c) n). inl a)
    (λ (b : IsFreeOf (rows_of t n) c). inr (subst (λ (r : Row). IsFreeOf r c) (sym (made.rows n)) (free n c (rows_of t n) b)))
    (w n c lt)

pub free_lowered : (from hi d : ℕ) (keep : Mode) (n c : ℕ) (row : Row) → IsFreeOf row c → IsFreeOf (lowered_between from hi d keep n row) c
free_lowered from hi d keep n c row f = by_test (nat_le from n && nat_lt n hi)
  where
    low : Mode
    low = meet (row.modes d) keep

    by_test : (b : Bool) → IsFreeOf (if b then with_mode row d (meet (row.modes d) keep) else row) c
    by_test false = f
    by_test true = eq_cases c d
        (λ e. (ap (λ b. if b then meet (row.modes d) keep else row.modes c) (eq-eqb c d e) ∙ ap (λ x. meet (row.modes x) keep) (sym e) ∙ ap (λ g. meet g keep) f.0 ∙ meet_n keep, f.1))
        (λ ne. free_mode row d c (meet (row.modes d) keep) ne f)

pub lower_within : (es : List Extent) (from hi d : ℕ) (keep : Mode) (t u : Kept) → IsAll (lowered_between from hi d keep) t u → AreWithin es t → AreWithin es u
lower_within es from hi d keep t u made = within_all es (lowered_between from hi d keep) t u made (free_lowered from hi d keep)

-- A client is cleared

module _ (c : ℕ) (client : c < 64) (es : List Extent) (t u : Kept) (w : AreWithin es t) where
  -- what is free already
  set_free : (modes : ℕ → Mode) (g : Mode) → modes c ≡ mode.N → g ≡ mode.N → modes ≡ set_mode modes c g
  set_free modes g e f = fun_ext (λ (d : ℕ). by_test d (nat_eq d c) refl)
    where
      by_test : (d : ℕ) (b : Bool) → nat_eq d c ≡ b → modes d ≡ set_mode modes c g d
      by_test d true h = ap modes (Rattle.std.proofs.Common.eqb-true d c h) ∙ e ∙ sym f ∙ sym (ap (λ b. if b then g else modes d) h)
      by_test d false h = sym (ap (λ b. if b then g else modes d) h)

  clear_free : (row : Row) → IsFreeOf row c → row ≡ cleared_row c row
  clear_free row f = λ i. record {
    modes = set_free row.modes mode.N f.0 refl i;
    queue = sym (only_first c row.queue (let z = f.1 in omega (arith, z)) ∙ none_left c row.queue f.1) i;
  }

  -- a walk over its extent clears it everywhere
  pub all_cleared : (e : Extent) → e ≡ extent_in es c → IsAll (cleared_within e c) t u → IsAll (λ n. cleared_row c) t u
  all_cleared e is there = record { rows = λ n. made.rows n ∙ here n (w n c client); kept = made.kept; used = made.used }
    where
      made : IsAll (cleared_within (extent_in es c) c) t u
      made = subst (λ (x : Extent). IsAll (cleared_within x c) t u) is there

      inside : (n : ℕ) → Lies (extent_in es c) n → cleared_within (extent_in es c) c n (rows_of t n) ≡ cleared_row c (rows_of t n)
      inside n at = let x = at.0 in let y = at.1 in let a : nat_le (extent_in es c).first n ≡ true = grind (arith, nat_tests) in let b : nat_le n (extent_in es c).last ≡ true = grind (arith, nat_tests) in
          (λ i. if a i && b i then cleared_row c (rows_of t n) else rows_of t n)

      either : (row : Row) (b : Bool) → IsFreeOf row c → (if b then cleared_row c row else row) ≡ cleared_row c row
      either row true f = refl
      either row false f = clear_free row f

      here : (n : ℕ) → Lies (extent_in es c) n ⊎ IsFreeOf (rows_of t n) c → cleared_within (extent_in es c) c n (rows_of t n) ≡ cleared_row c (rows_of t n)
      here n at = ⊎_elim (λ (a : Lies (extent_in es c) n). inside n a)
          (λ (f : IsFreeOf (rows_of t n) c). either (rows_of t n) (nat_le (extent_in es c).first n && nat_le n (extent_in es c).last) f) at

  -- and one from its beginning lowers it everywhere
  pub all_lowered : (e : Extent) → e ≡ extent_in es c → IsAll (lowered_between e.first TOP c mode.N) t u → IsAll (lowered_between 0 TOP c mode.N) t u
  all_lowered e is there = record { rows = λ n. made.rows n ∙ here n (w n c client); kept = made.kept; used = made.used }
    where
      made : IsAll (lowered_between (extent_in es c).first TOP c mode.N) t u
      made = subst (λ (x : Extent). IsAll (lowered_between x.first TOP c mode.N) t u) is there

      free_low : (row : Row) → IsFreeOf row c → (from n : ℕ) → row ≡ lowered_between from TOP c mode.N n row
      free_low row f from n = by_test (nat_le from n && nat_lt n TOP)
        where
          by_test : (b : Bool) → row ≡ (if b then with_mode row c (meet (row.modes c) mode.N) else row)
          by_test true = λ i. record { modes = set_free row.modes (meet (row.modes c) mode.N) f.0 (ap (λ g. meet g mode.N) f.0 ∙ meet_n mode.N) i; queue = row.queue }
          by_test false = refl

      inside : (n : ℕ) → (extent_in es c).first ≤ n → lowered_between (extent_in es c).first TOP c mode.N n (rows_of t n) ≡ lowered_between 0 TOP c mode.N n (rows_of t n)
      inside n le = let a : nat_le (extent_in es c).first n ≡ true = grind (arith, nat_tests) in let b : nat_le 0 n ≡ true = grind (arith, nat_tests) in
          (λ i. if (a ∙ sym b) i && nat_lt n TOP then with_mode (rows_of t n) c (meet ((rows_of t n).modes c) mode.N) else rows_of t n)

      here : (n : ℕ) → Lies (extent_in es c) n ⊎ IsFreeOf (rows_of t n) c → lowered_between (extent_in es c).first TOP c mode.N n (rows_of t n) ≡ lowered_between 0 TOP c mode.N n (rows_of t n)
      here n at = ⊎_elim (λ (a : Lies (extent_in es c) n). inside n a.0)
          (λ (f : IsFreeOf (rows_of t n) c). sym (free_low (rows_of t n) f (extent_in es c).first n) ∙ free_low (rows_of t n) f 0 n) at

  times_unqueue : (us : List Waiter) → times c (unqueue c us) ≡ 0
  times_unqueue [] = omega arith
  times_unqueue (v ∷ vs) = by_test (nat_eq c v.client) refl (times_unqueue vs)
    where
      by_test : (b : Bool) → nat_eq c v.client ≡ b → times c (unqueue c vs) ≡ 0 → times c (if not b then v ∷ unqueue c vs else unqueue c vs) ≡ 0
      by_test true f ih = ih
      by_test false f ih = let a = ap one f in omega (arith, times_more c v (unqueue c vs), a, ih)

  pub cleared_free : (fs : List Extent) → IsSound t → IsAll (λ n. cleared_row c) t u → ((d : ℕ) → d ≢ c → extent_in fs d ≡ extent_in es d) → AreWithin fs u
  cleared_free fs sound made others n d lt = subst (λ (r : Row). Lies (extent_in fs d) n ⊎ IsFreeOf r d) (sym (made.rows n)) (eq_cases d c
      (λ e. inr (subst (IsFreeOf (cleared_row c (rows_of t n))) (sym e) gone))
      (λ ne. ⊎_elim (λ (a : Lies (extent_in es d) n). inl (subst (λ (x : Extent). Lies x n) (sym (others d ne)) a)) (λ (b : IsFreeOf (rows_of t n) d). inr (still ne b)) (w n d lt)))
    where
      queue : without_first c (rows_of t n).queue ≡ unqueue c (rows_of t n).queue
      queue = only_first c (rows_of t n).queue (alone_here (λ i. times c (rows_of t i).queue) (sound.alone c) n)

      gone : IsFreeOf (cleared_row c (rows_of t n)) c
      gone = (ap (λ b. if b then mode.N else (rows_of t n).modes c) (eq-eqb c c refl), ap (times c) queue ∙ times_unqueue (rows_of t n).queue)

      still : d ≢ c → IsFreeOf (rows_of t n) d → IsFreeOf (cleared_row c (rows_of t n)) d
      still ne f = (
        ap (λ b. if b then mode.N else (rows_of t n).modes d) (ne_eqb d c ne) ∙ f.0,
        (let x = ap (times d) queue in let y = times_fewer d (λ v. not (nat_eq c v.client)) (rows_of t n).queue in let z = f.1 in omega (arith, x, y, z)),
      )
