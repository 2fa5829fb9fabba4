-- The slots at which somebody waits, one after another.
use Rattle.krl_table.proofs.Names.{◌≡◌, ℕ, zero, suc, ◌+◌, ◌≤◌, ◌<◌, min, Bool, true, false, List, [], ◌∷◌, ◌++◌, length, Option, Some, None, MatchOption, inl, refl, sym, ap, subst, ◌∙◌, ⊎_elim}
use Rattle.krl_table.proofs.Names.{append_assoc, length-append, arith, ltb-true, ltb-false, append-nil, AllByRecursion, cases_lt, nat_lt, if◌then◌else◌, In, Waiter, Index, is_slot, IsSlotOf, Kept}
use Rattle.krl_table.proofs.Names.{rows_of, IsOver, IsSound, waiter_in, AreListed, AllWaitBelow, IsLeastPoint, lesser_point, lesser}
use Rattle.std.proofs.Math.Nat.{min-le_left, min-le_right, min-eq_left, min-eq_right}
use Rattle.std.proofs.lemmas.Option.{same_Some}
use Rattle.krl_table.specs.Waiters.{IsNextWaiting, AreWaiting}
use Rattle.krl_table.proofs.Rows.RowChanges.{eq_cases}
use Rattle.krl_table.proofs.Rows.Slots.{next_of, slot_same}
use Rattle.krl_table.proofs.Invariant.Sounds.{some_none, has_row}
use Rattle.krl_modes.proofs.Basics.{not_both}

-- The least point that a client below k waits for

-- some client waits for the point, which is at or above low
abbrev pub WaitsFor : List (Option Waiter) → ℕ → ℕ → Type 0
WaitsFor waiting low p = (low ≤ p) × ((c : ℕ) × (u : Waiter) × (waiter_in waiting c ≡ Some u) × (u.point ≡ p))

pub record IsLeastBelow (waiting : List (Option Waiter)) (low k : ℕ) (least : Option ℕ) : Type 0 where
  pub some : (p : ℕ) → least ≡ Some p → WaitsFor waiting low p
  pub all : (c : ℕ) (u : Waiter) → c < k → waiter_in waiting c ≡ Some u → low ≤ u.point → (p : ℕ) × (least ≡ Some p) × (p ≤ u.point)

pub none_least : (waiting : List (Option Waiter)) (low : ℕ) → IsLeastBelow waiting low 0 None
none_least waiting low = record { some = λ p e. absurd (cc); all = λ c u lt e le. absurd (omega (arith, lt)) }

-- one client more

module _ (waiting : List (Option Waiter)) (low k : ℕ) (least : Option ℕ) (h : IsLeastBelow waiting low k least) where
  no_more : waiter_in waiting k ≡ None → IsLeastBelow waiting low (k + 1) least
  no_more none = record {
    some = h.some;
    all = λ c u lt e le. eq_cases c k (λ f. absurd (some_none (waiter_in waiting c) u e (ap (waiter_in waiting) f ∙ none))) (λ ne. h.all c u (omega (arith, lt, ne)) e le);
  }

  module _ (w : Waiter) (is : waiter_in waiting k ≡ Some w) where
    passed : w.point < low → IsLeastBelow waiting low (k + 1) least
    passed far = record {
      some = h.some;
      all = λ c u lt e le. eq_cases c k
          (λ f. let same : u ≡ w = same_Some _ _ (sym e ∙ ap (waiter_in waiting) f ∙ is) in
          let below : u.point < low = subst (λ x. x.point < low) (sym same) far in absurd (omega (arith, below, le)))
          (λ ne. h.all c u (omega (arith, lt, ne)) e le);
    }

    taken : low ≤ w.point → (o : Option ℕ) → least ≡ o → IsLeastBelow waiting low (k + 1) (lesser_point o w.point)
    taken near None none = record {
      some = λ p e. subst (WaitsFor waiting low) (same_Some _ _ e) (near, (k, w, is, refl));
      all = λ c u lt e le. eq_cases c k
          (λ f. let same : u ≡ w = same_Some _ _ (sym e ∙ ap (waiter_in waiting) f ∙ is) in (w.point, refl, subst (λ x. w.point ≤ x.point) (sym same) (omega arith)))
          (λ ne. let x = h.all c u (omega (arith, lt, ne)) e le in absurd (some_none least x.0 x.1 none));
    }
    taken near (Some q) some = record {
      some = λ p e. subst (WaitsFor waiting low) (same_Some _ _ e) (either (WaitsFor waiting low) q w.point (h.some q some) (near, (k, w, is, refl)));
      all = λ c u lt e le. (
        min q w.point,
        refl,
        eq_cases c k
            (λ f. let same : u ≡ w = same_Some _ _ (sym e ∙ ap (waiter_in waiting) f ∙ is) in subst (λ x. min q w.point ≤ x.point) (sym same) (min-le_right q w.point))
            (λ ne. let x = h.all c u (omega (arith, lt, ne)) e le in
            let same : x.0 ≡ q = same_Some _ _ (sym x.1 ∙ some) in let one = x.2 in let other = min-le_left q w.point in omega (arith, same, one, other)),
      );
    }
      where
        either : (P : ℕ → Type 0) (a b : ℕ) → P a → P b → P (min a b)
        either P a b x y = ⊎_elim (λ (lt : a < b). subst P (sym (min-eq_left (omega (arith, lt)))) x) (λ (le : b ≤ a). subst P (sym (min-eq_right le)) y) (cases_lt a b)

    one_more : IsLeastBelow waiting low (k + 1) (lesser least (Some w) low)
    one_more = by_test (nat_lt w.point low) refl
      where
        by_test : (b : Bool) → nat_lt w.point low ≡ b → IsLeastBelow waiting low (k + 1) (if b then least else lesser_point least w.point)
        by_test true e = passed (ltb-true w.point low e)
        by_test false e = taken (ltb-false w.point low e) least refl

  pub next_least : (o : Option Waiter) → o ≡ waiter_in waiting k → (after : Option ℕ) → after ≡ lesser least o low → IsLeastBelow waiting low (k + 1) after
  next_least None e after is = subst (IsLeastBelow waiting low (k + 1)) (sym is) (no_more (sym e))
  next_least (Some w) e after is = subst (IsLeastBelow waiting low (k + 1)) (sym is) (one_more w (sym e))

pub all_least : (waiting : List (Option Waiter)) (low k : ℕ) (least : Option ℕ) → 64 ≤ k → IsLeastBelow waiting low k least → MatchOption least (AllWaitBelow waiting low) (IsLeastPoint waiting low)
all_least waiting low k None all h = λ c u lt is. ⊎_elim (λ (a : u.point < low). a) (λ (a : low ≤ u.point). absurd (let x = h.all c u (omega (arith, all, lt)) is a in let clash : None ≡ Some x.0 = x.1 in cc)) (cases_lt u.point low)
all_least waiting low k (Some p) all h = let x = h.some p refl in record {
  above = x.0;
  some = x.1;
  least = λ c u lt is le. let y = h.all c u (omega (arith, all, lt)) is le in subst (λ q. q ≤ u.point) (sym (same_Some _ _ y.1)) y.2;
}

-- Somebody waits at the slots of the points that are waited for

-- the walk continues from this point: whose point lies below it, that one's slot does
abbrev pub Begins : Index → ℕ → Type 0
Begins m low = (q s : ℕ) → IsSlotOf m q s → q < low → s < low

pub begins_first : (m : Index) → Begins m 0
begins_first m q s next lt = absurd (omega (arith, lt))

pub begins_after : (m : Index) (n : ℕ) → is_slot m n ≡ true → Begins m (suc n)
begins_after m n there q s next lt = ⊎_elim
    (λ (far : n < s). absurd (not_both (is_slot m n) there (next.least n (omega (arith, lt)) far)))
    (λ (near : s ≤ n). omega (arith, near)) (cases_lt n s)

module _ (m : Index) (t : Kept) (over : IsOver m t) (sound : IsSound t) (waiting : List (Option Waiter)) (l : AreListed waiting t) (low : ℕ) (begins : Begins m low) where
  -- where somebody waits, that is the slot of the point
  its_slot : (n : ℕ) (u : Waiter) → In u (rows_of t n).queue → IsSlotOf m u.point n
  its_slot n u at = subst (IsSlotOf m u.point) (over.placed n u at) (next_of m over.near u.point (over.points n u at))

  no_queue : (n : ℕ) → ((u : Waiter) → In u (rows_of t n).queue → ⊥) → (rows_of t n).queue ≡ []
  no_queue n none = by_queue (rows_of t n).queue none
    where
      by_queue : (us : List Waiter) → ((u : Waiter) → In u us → ⊥) → us ≡ []
      by_queue [] h = refl
      by_queue (u ∷ us) h = absurd (h u (inl refl))

  point_from : (s q : ℕ) → IsSlotOf m q s → low ≤ s → low ≤ q
  point_from s q next le = ⊎_elim (λ (far : q < low). absurd (let x = begins q s next far in omega (arith, x, le))) (λ (near : low ≤ q). near) (cases_lt q low)

  pub nobody_waits : AllWaitBelow waiting low → (n : ℕ) → low ≤ n → (rows_of t n).queue ≡ []
  nobody_waits below n le = no_queue n (λ u at. let far = below u.client u (sound.clients n u at) (l.here n u at) in let near = point_from n u.point (its_slot n u at) le in absurd (omega (arith, far, near)))

  pub least_waits : (p s : ℕ) → IsLeastPoint waiting low p → IsSlotOf m p s → IsNextWaiting (rows_of t) low s
  least_waits p s h next = record {
    above = let a = h.above in let b = next.above in omega (arith, a, b);
    some = λ none. let w = h.some in let x = l.there w.0 w.1 w.2 in
        let there : IsSlotOf m p x.1.0 = subst (λ q. IsSlotOf m q x.1.0) w.3 (its_slot x.1.0 w.1 x.1.1) in
        subst (In w.1) (ap (λ n. (rows_of t n).queue) (slot_same m p x.1.0 s there next) ∙ none) x.1.1;
    least = λ n a b. no_queue n (λ u at. let slot = its_slot n u at in let far = slot.above in
        let least = h.least u.client u (sound.clients n u at) (l.here n u at) (point_from n u.point slot a) in
        not_both (is_slot m n) (over.within n (has_row t n u at)) (next.least n (omega (arith, least, far)) b));
  }

-- How many wait for points from this one on

abbrev pub count_from : ℕ → List (Option Waiter) → ℕ
count_from low [] = 0
count_from low (None ∷ ws) = count_from low ws
count_from low (Some u ∷ ws) = if nat_lt u.point low then count_from low ws else suc (count_from low ws)

pub count_few : (low : ℕ) (ws : List (Option Waiter)) → count_from low ws ≤ length ws
count_few low [] = omega arith
count_few low (None ∷ ws) = let ih = count_few low ws in omega (arith, ih)
count_few low (Some u ∷ ws) = by_test (nat_lt u.point low) (count_few low ws)
  where
    by_test : (b : Bool) → count_from low ws ≤ length ws → (if b then count_from low ws else suc (count_from low ws)) ≤ suc (length ws)
    by_test true h = omega (arith, h)
    by_test false h = omega (arith, h)

fewer_above : (low high : ℕ) (ws : List (Option Waiter)) → low ≤ high → count_from high ws ≤ count_from low ws
fewer_above low high [] le = omega arith
fewer_above low high (None ∷ ws) le = fewer_above low high ws le
fewer_above low high (Some u ∷ ws) le = by_tests (nat_lt u.point high) (nat_lt u.point low) refl refl (fewer_above low high ws le)
  where
    by_tests : (a b : Bool) → nat_lt u.point high ≡ a → nat_lt u.point low ≡ b → count_from high ws ≤ count_from low ws → (if a then count_from high ws else suc (count_from high ws)) ≤ (if b then count_from low ws else suc (count_from low ws))
    by_tests true true e f h = h
    by_tests true false e f h = omega (arith, h)
    by_tests false true e f h = absurd (let x = ltb-false u.point high e in let y = ltb-true u.point low f in omega (arith, x, y, le))
    by_tests false false e f h = omega (arith, h)

-- past one of them there are fewer
pub fewer_past : (low high : ℕ) (ws : List (Option Waiter)) (c : ℕ) (u : Waiter) → low ≤ high → waiter_in ws c ≡ Some u → low ≤ u.point → u.point < high → suc (count_from high ws) ≤ count_from low ws
fewer_past low high [] c u le is near far = absurd (some_none (waiter_in [] c) u is (nobody c))
  where
    nobody : (c : ℕ) → waiter_in [] c ≡ None
    nobody c = refl
fewer_past low high (o ∷ ws) zero u le is near far = subst (λ x. suc (count_from high (x ∷ ws)) ≤ count_from low (x ∷ ws)) (sym is) (by_tests (nat_lt u.point high) (nat_lt u.point low) refl refl)
  where
    by_tests : (a b : Bool) → nat_lt u.point high ≡ a → nat_lt u.point low ≡ b → suc (if a then count_from high ws else suc (count_from high ws)) ≤ (if b then count_from low ws else suc (count_from low ws))
    by_tests true true e f = absurd (let y = ltb-true u.point low f in omega (arith, y, near))
    by_tests true false e f = let h = fewer_above low high ws le in omega (arith, h)
    by_tests false b e f = absurd (let x = ltb-false u.point high e in omega (arith, x, far))
fewer_past low high (None ∷ ws) (suc c) u le is near far = fewer_past low high ws c u le is near far
fewer_past low high (Some w ∷ ws) (suc c) u le is near far = by_tests (nat_lt w.point high) (nat_lt w.point low) refl refl (fewer_past low high ws c u le is near far)
  where
    by_tests : (a b : Bool) → nat_lt w.point high ≡ a → nat_lt w.point low ≡ b → suc (count_from high ws) ≤ count_from low ws → suc (if a then count_from high ws else suc (count_from high ws)) ≤ (if b then count_from low ws else suc (count_from low ws))
    by_tests true true e f h = h
    by_tests true false e f h = omega (arith, h)
    by_tests false true e f h = absurd (let x = ltb-false w.point high e in let y = ltb-true w.point low f in omega (arith, x, y, le))
    by_tests false false e f h = omega (arith, h)

-- The walk

-- the slots below this point at which somebody waits were found
pub record AreFound (m : Index) (t : Kept) (waiting : List (Option Waiter)) (low : ℕ) (found : List ℕ) : Type 0 where
  pub begins : Begins m low
  pub room : length found + count_from low waiting ≤ 64
  pub before : (rest : List ℕ) → AreWaiting (rows_of t) low rest → AreWaiting (rows_of t) 0 (found ++ rest)
  pub there : AllByRecursion (λ n. is_slot m n ≡ true) found

module _ (m : Index) (t : Kept) (over : IsOver m t) (sound : IsSound t) (waiting : List (Option Waiter)) (l : AreListed waiting t) where
  pub none_found : AreFound m t waiting 0 []
  none_found = record {
    begins = begins_first m;
    room = let few = count_few 0 waiting in let full = l.full in omega (arith, few, full);
    before = λ rest h. h;
    there = tt;
  }

  module _ (low : ℕ) (found : List ℕ) (h : AreFound m t waiting low found) where
    pub all_found : AllWaitBelow waiting low → AreWaiting (rows_of t) 0 found
    all_found below = subst (AreWaiting (rows_of t) 0) (append-nil found) (h.before [] (nobody_waits m t over sound waiting l low h.begins below))

    module _ (p s : ℕ) (least : IsLeastPoint waiting low p) (next : IsSlotOf m p s) where
      pub fewer_left : suc (count_from (suc s) waiting) ≤ count_from low waiting
      fewer_left = let w = least.some in let at = w.3 in let a = least.above in let b = next.above in
          fewer_past low (suc s) waiting w.0 w.1 (omega (arith, a, b)) w.2 (omega (arith, a, at)) (omega (arith, b, at))

      pub room_for_slot : length found < 64
      room_for_slot = let a = fewer_left in let b = h.room in omega (arith, a, b)

      pub one_found : AreFound m t waiting (suc s) (found ++ s ∷ [])
      one_found = record {
        begins = begins_after m s next.slot;
        room = let a = fewer_left in let b = h.room in let c = length-append found (s ∷ []) in omega (arith, a, b, c);
        before = λ rest r. subst (AreWaiting (rows_of t) 0) (sym (append_assoc found (s ∷ []) rest)) (h.before (s ∷ rest) (least_waits m t over sound waiting l low h.begins p s least next, r));
        there = all_more found h.there;
      }
        where
          all_more : (ns : List ℕ) → AllByRecursion (λ n. is_slot m n ≡ true) ns → AllByRecursion (λ n. is_slot m n ≡ true) (ns ++ s ∷ [])
          all_more [] a = (next.slot, tt)
          all_more (n ∷ ns) a = (a.0, all_more ns a.1)
