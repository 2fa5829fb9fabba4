-- A slot is parted in two.
use Rattle.krl_table.proofs.Names.{◌≡◌, ◌≢◌, ℕ, ◌≤◌, ◌<◌, Bool, true, false, ◌||◌, List, Option, Some, None, IsSome, ◌⊎◌, inl, inr, refl, sym, ap, subst, ◌∙◌, ⊎_elim, arith, nat_eq, ne_eqb, ltb-true}
use Rattle.krl_table.proofs.Names.{ltb-false, cases_lt, leb-true, nat_tests, is_some, nat_le, nat_lt, if◌then◌else◌, get, insert, END, lets_insert, range_of, key_of, at_or_above, Value}
use Rattle.krl_table.proofs.Names.{In, Waiter, up_to, beyond, Index, slot_of, is_slot, IsSlotOf, SlotRow, Row, blank_row, mode_at, with_queue, split_modes, mode_beside, split, split_at, key_off_slot}
use Rattle.krl_table.proofs.Names.{range_at, key_at, Kept, row_there, rows_of, AreSet, IsOver, IsSound, AreCompatible, AreListed, times}
use Rattle.krl_modes.specs.declared.part.RangePart.TheVariants as range
use Rattle.krl_modes.specs.declared.part.KeyPart.TheVariants as key
use Rattle.krl_table.proofs.Rows.RowChanges.{eq_cases, both_rows, by_two, goes_two, insert_at, insert_past}
use Rattle.krl_table.proofs.Invariant.Alone.{AreAlone, alone_moved, times_parted}
use Rattle.krl_table.proofs.Invariant.Compatible.{beside, split_compatible}
use Rattle.krl_table.proofs.Invariant.Stands.{in_filter, filter_in}
use Rattle.krl_table.proofs.Rows.Slots.{no_slot, next_of, slot_is, slot_end}
use Rattle.krl_table.proofs.Rows.NewSlotParts.{same_range, other_key, writer_key}
use Rattle.krl_table.proofs.Invariant.Sounds.{NoStrangers, listed_moved}
use Rattle.std.proofs.Math.Bool.{or-true}
use Rattle.krl_modes.proofs.Basics.{not_both}
use Rattle.std.proofs.lemmas.Bool.{lt-ltb}

is_up_to : (p k : ℕ) → p ≤ k → nat_le p k ≡ true
is_up_to p k le = grind (arith, nat_tests)

-- a slot k is new, below the slot s
module _ (m : Index) (k s : ℕ) (v : Value) (near : (n : ℕ) → END ≤ n → get m n ≡ None) (far : k < END) (free : get m k ≡ None) (at : IsSlotOf m k s) where
  abbrev more : Index
  more = insert m k v

  pub none_yet : is_slot m k ≡ false
  none_yet = no_slot m k (λ e. omega (arith, e, far)) free

  pub apart : k ≢ s
  apart e = not_both (is_slot m k) (ap (is_slot m) e ∙ at.slot) none_yet

  pub under : k < s
  under = let a = at.above in let ne = apart in omega (arith, a, ne)

  pub new_slot : is_slot more k ≡ true
  new_slot = ap (λ (o : Option Value). nat_eq k END || is_some o) (insert_at m k v) ∙ or-true (nat_eq k END)

  pub other_slot : (n : ℕ) → n ≢ k → is_slot more n ≡ is_slot m n
  other_slot n ne = ap (λ (o : Option Value). nat_eq n END || is_some o) (insert_past m k v n ne)

  pub more_near : (n : ℕ) → END ≤ n → get more n ≡ None
  more_near n le = insert_past m k v n (λ e. omega (arith, e, le, far)) ∙ near n le

  -- a point's slot stays, if it is not s
  pub slot_stays : (p n : ℕ) → n ≢ s → IsSlotOf m p n → IsSlotOf more p n
  slot_stays p n ns x = record {
    slot = other_slot n (λ e. not_both (is_slot m n) x.slot (ap (is_slot m) e ∙ none_yet)) ∙ x.slot;
    above = x.above;
    least = λ j a b. other_slot j (λ e. not_inside (omega (arith, e, a)) (omega (arith, e, b))) ∙ x.least j a b;
  }
    where
      -- no other span has k in it
      not_inside : p ≤ k → k < n → ⊥
      not_inside a b = ⊎_elim
          (λ (d : n < s). not_both (is_slot m n) x.slot (at.least n (omega (arith, b)) d))
          (λ (d : s ≤ n). not_both (is_slot m s) at.slot (x.least s (let c = under in omega (arith, a, c)) (omega (arith, d, ns)))) (cases_lt n s)

  -- after k it stays, too
  pub slot_beyond : (p : ℕ) → k < p → IsSlotOf m p s → IsSlotOf more p s
  slot_beyond p lt x = record {
    slot = other_slot s (λ e. apart (sym e)) ∙ x.slot;
    above = x.above;
    least = λ j a b. other_slot j (λ e. omega (arith, e, a, lt)) ∙ x.least j a b;
  }

  -- up to k it is k
  pub slot_new : (p : ℕ) → p ≤ k → IsSlotOf m p s → IsSlotOf more p k
  slot_new p le x = record {
    slot = new_slot;
    above = le;
    least = λ j a b. other_slot j (λ e. omega (arith, e, b)) ∙ x.least j a (let c = under in omega (arith, b, c));
  }

  module _ (t u : Kept) (c : ℕ) (over : IsOver m t) (sound : IsSound t) (client : c < 64) (may : lets_insert (range_of (mode_at (rows_of t) s c)) ≡ true)
      (set : AreSet t u k (record { modes = split_modes (rows_of t s).modes c; queue = up_to k (rows_of t s).queue }) s (with_queue (rows_of t s) (beyond k (rows_of t s).queue))) where
    abbrev new : Row
    new = record { modes = split_modes (rows_of t s).modes c; queue = up_to k (rows_of t s).queue }

    abbrev old : Row
    old = with_queue (rows_of t s) (beyond k (rows_of t s).queue)

    no_row : rows_of t k ≡ blank_row
    no_row = by_row (get t k) refl
      where
        by_row : (o : Option SlotRow) → get t k ≡ o → row_there (get t k) ≡ blank_row
        by_row None e = ap row_there e
        by_row (Some r) e = absurd (not_both (is_slot m k) (over.within k (subst IsSome (sym e) refl)) none_yet)

    pub split_rows : (n : ℕ) → rows_of u n ≡ split m (rows_of t) k c n
    split_rows n = both_rows t u k new s old apart set n ∙ ap (λ y. split_at (rows_of t) y k c n) (sym (slot_is m near k s (omega (arith, far)) at))

    -- in whose queue it stood
    came : (n : ℕ) (w : Waiter) → In w (rows_of u n).queue → (j : ℕ) × In w (rows_of t j).queue
    came n w = by_two t u k new s old set (λ r. In w r.queue → (j : ℕ) × In w (rows_of t j).queue)
        (λ x. (s, (in_filter (λ w. nat_le w.point k) (rows_of t s).queue w x).0))
        (λ x. (s, (in_filter (λ w. nat_lt k w.point) (rows_of t s).queue w x).0))
        (λ j x. (j, x)) n

    -- in whose queue it stands now
    goes : (w : Waiter) → In w (rows_of t s).queue → In w new.queue ⊎ In w old.queue
    goes w x = ⊎_elim
        (λ (lt : k < w.point). inr (filter_in (λ w. nat_lt k w.point) (rows_of t s).queue w x (lt-ltb k w.point lt)))
        (λ (le : w.point ≤ k). inl (filter_in (λ w. nat_le w.point k) (rows_of t s).queue w x (is_up_to w.point k le)))
        (cases_lt k w.point)

    pub split_listed : (waiting : List (Option Waiter)) → AreListed waiting t → AreListed waiting u
    split_listed waiting = listed_moved waiting t u came (λ n w. goes_two t u k new s old set w (λ x. absurd (subst (λ (r : Row). In w r.queue) no_row x)) (goes w) n)

    new_strangers : NoStrangers new
    new_strangers d le = ap (λ b. if b then at_or_above (range_of (mode_at (rows_of t) s c)) key.X else mode_beside (range_of (mode_at (rows_of t) s d))) (ne_eqb d c (λ e. omega (arith, e, le, client)))
        ∙ ap (λ x. mode_beside (range_of x)) (sound.strangers s d le)

    is_alone : (d : ℕ) → AreAlone (λ n. times d (rows_of u n).queue)
    is_alone d = alone_moved (λ n. times d (rows_of t n).queue) (λ n. times d (rows_of u n).queue) s k (λ e. apart (sym e)) (sound.alone d)
        (let a = ap (λ (r : Row). times d r.queue) set.second in let b = ap (λ (r : Row). times d r.queue) set.first in let f = times_parted d k (rows_of t s).queue in omega (arith, a, b, f))
        (λ j ns nk. let a = ap (λ (r : Row). times d r.queue) (ap row_there (set.others j nk ns)) in omega (arith, a))

    pub split_sound : IsSound u
    split_sound = record {
      near = λ n lt. set.others n (λ e. omega (arith, e, lt, far)) (λ e. let le = slot_end m near s at.slot in omega (arith, e, lt, le)) ∙ sound.near n lt;
      used = λ n r e. eq_cases n k (λ f. set.used n r (inl f) e) (λ nk. eq_cases n s (λ f. set.used n r (inr f) e) (λ ns. sound.used n r (sym (set.others n nk ns) ∙ e)));
      strangers = λ n. by_two t u k new s old set NoStrangers new_strangers (sound.strangers s) (λ j. sound.strangers j) n;
      beside = λ n. by_two t u k new s old set (λ r. AreCompatible r.modes) (split_compatible (rows_of t s).modes c may (sound.beside s)) (sound.beside s) (λ j. sound.beside j) n;
      clients = λ n w x. let y = came n w x in sound.clients y.0 w y.1;
      alone = is_alone;
    }

    pub split_over : IsOver more u
    split_over = record {
      near = more_near;
      within = λ n h. eq_cases n k (λ e. ap (is_slot more) e ∙ new_slot)
          (λ nk. other_slot n nk ∙ eq_cases n s (λ e. ap (is_slot m) e ∙ at.slot) (λ ns. over.within n (subst IsSome (set.others n nk ns) h)));
      points = λ n w x. let y = came n w x in over.points y.0 w y.1;
      placed = is_placed;
    }
      where
        its_slot : (n : ℕ) (w : Waiter) → In w (rows_of t n).queue → IsSlotOf m w.point n
        its_slot n w x = subst (IsSlotOf m w.point) (over.placed n w x) (next_of m near w.point (over.points n w x))

        is_placed : (n : ℕ) (w : Waiter) → In w (rows_of u n).queue → slot_of more w.point ≡ n
        is_placed n w = eq_cases n k
            (λ e x. let f = in_filter (λ w. nat_le w.point k) (rows_of t s).queue w (subst (λ (r : Row). In w r.queue) (ap (rows_of u) e ∙ set.first) x) in
            slot_is more more_near w.point k (over.points s w f.0) (slot_new w.point (leb-true w.point k f.1) (its_slot s w f.0)) ∙ sym e)
            (λ nk. eq_cases n s
            (λ e x. let f = in_filter (λ w. nat_lt k w.point) (rows_of t s).queue w (subst (λ (r : Row). In w r.queue) (ap (rows_of u) e ∙ set.second) x) in
            slot_is more more_near w.point s (over.points s w f.0) (slot_beyond w.point (ltb-true k w.point f.1) (its_slot s w f.0)) ∙ sym e)
            (λ ns x. let y = subst (λ (r : Row). In w r.queue) (ap row_there (set.others n nk ns)) x in
            slot_is more more_near w.point n (over.points n w y) (slot_stays w.point n ns (its_slot n w y))))

    -- Point by point: no range part changes, and of the key parts at most the writer's on the new slot

    modes_new : (d : ℕ) → mode_at (rows_of u) k d ≡ split_modes (rows_of t s).modes c d
    modes_new d = ap (λ (r : Row). r.modes d) set.first

    modes_same : (n d : ℕ) → n ≢ k → mode_at (rows_of u) n d ≡ mode_at (rows_of t) n d
    modes_same n d nk = eq_cases n s
        (λ e. ap (λ i. mode_at (rows_of u) i d) e ∙ ap (λ (r : Row). r.modes d) set.second ∙ ap (λ i. mode_at (rows_of t) i d) (sym e))
        (λ ns. ap (λ (r : Row). r.modes d) (ap row_there (set.others n nk ns)))

    range_within : (d p : ℕ) → p ≤ END → range_of (mode_at (rows_of u) (slot_of more p) d) ≡ range_of (mode_at (rows_of t) (slot_of m p) d)
    range_within d p le = let its = next_of m near p le in eq_cases (slot_of m p) s
        (λ e. let there = subst (IsSlotOf m p) e its in ⊎_elim
        (λ (a : k < p). ap (λ n. range_of (mode_at (rows_of u) n d)) (slot_is more more_near p s le (slot_beyond p a there)) ∙ ap range_of (modes_same s d (λ f. apart (sym f))) ∙ ap (λ n. range_of (mode_at (rows_of t) n d)) (sym e))
        (λ (a : p ≤ k). ap (λ n. range_of (mode_at (rows_of u) n d)) (slot_is more more_near p k le (slot_new p a there)) ∙ ap range_of (modes_new d)
        ∙ same_range (rows_of t s).modes c may (beside (rows_of t s).modes c (sound.beside s)) d ∙ ap (λ n. range_of (mode_at (rows_of t) n d)) (sym e))
        (cases_lt k p))
        (λ ne. ap (λ n. range_of (mode_at (rows_of u) n d)) (slot_is more more_near p (slot_of m p) le (slot_stays p (slot_of m p) ne its))
        ∙ ap range_of (modes_same (slot_of m p) d (λ e. not_both (is_slot m (slot_of m p)) its.slot (ap (is_slot m) e ∙ none_yet))))

    pub split_ranges : (d p : ℕ) → range_at more (rows_of u) d p ≡ range_at m (rows_of t) d p
    split_ranges d p = by_test (nat_lt END p) refl
      where
        by_test : (b : Bool) → nat_lt END p ≡ b → (if b then range.N else range_of (mode_at (rows_of u) (slot_of more p) d)) ≡ (if b then range.N else range_of (mode_at (rows_of t) (slot_of m p) d))
        by_test true e = refl
        by_test false e = range_within d p (ltb-false END p e)

    range_there : (d : ℕ) → range_at m (rows_of t) d k ≡ range_of (mode_at (rows_of t) s d)
    range_there d = by_test (nat_lt END k) refl
      where
        by_test : (b : Bool) → nat_lt END k ≡ b → (if b then range.N else range_of (mode_at (rows_of t) (slot_of m k) d)) ≡ range_of (mode_at (rows_of t) s d)
        by_test true e = absurd (let x = ltb-true END k e in omega (arith, x, far))
        by_test false e = ap (λ n. range_of (mode_at (rows_of t) n d)) (slot_is m near k s (omega (arith, far)) at)

    pub split_keys : (d p : ℕ) → (p ≢ k) ⊎ (d ≢ c) → key_at more (rows_of u) d p ≡ key_at m (rows_of t) d p
    split_keys d p which = eq_cases p k
        (λ e. subst (λ x. key_at more (rows_of u) d x ≡ key_at m (rows_of t) d x) (sym e) (at_new (⊎_elim (λ (a : p ≢ k). absurd (a e)) (λ (a : d ≢ c). a) which)))
        (λ ne. λ i. if (other_slot p ne) i then key_of ((modes_same p d ne) i) else key_off_slot ((split_ranges d p) i))
      where
        at_new : d ≢ c → key_at more (rows_of u) d k ≡ key_at m (rows_of t) d k
        at_new ne = ap (λ (b : Bool). if b then key_of (mode_at (rows_of u) k d) else key_off_slot (range_at more (rows_of u) d k)) new_slot
            ∙ ap key_of (modes_new d) ∙ other_key (rows_of t s).modes c may (beside (rows_of t s).modes c (sound.beside s)) d ne ∙ ap key_off_slot (sym (range_there d))
            ∙ sym (ap (λ (b : Bool). if b then key_of (mode_at (rows_of t) k d) else key_off_slot (range_at m (rows_of t) d k)) none_yet)

    pub split_own : key_at more (rows_of u) c k ≡ key.X
    split_own = ap (λ (b : Bool). if b then key_of (mode_at (rows_of u) k c) else key_off_slot (range_at more (rows_of u) c k)) new_slot ∙ ap key_of (modes_new c) ∙ writer_key (rows_of t s).modes c
