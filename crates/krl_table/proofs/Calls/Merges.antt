-- Two slots become one.
use Rattle.krl_table.proofs.Names.{◌≡◌, ◌≢◌, ℕ, suc, ◌≤◌, ◌<◌, Bool, true, false, ◌||◌, List, ◌++◌, Option, Some, None, IsSome, inl, inr, refl, sym, ap, subst, ◌∙◌, ⊎_elim, arith, nat_eq}
use Rattle.krl_table.proofs.Names.{ne_eqb, ltb-true, ltb-false, cases_lt, is_some, nat_lt, if◌then◌else◌, get, remove, END, RangePart, KeyPart, Mode, ranges_compatible, keys_compatible, is_key_X}
use Rattle.krl_table.proofs.Names.{range_of, key_of, compatible, Value, In, in_both, in_left, in_right, Waiter, Index, slot_of, is_slot, IsSlotOf, SlotRow, Row, blank_row, mode_at, with_queue}
use Rattle.krl_table.proofs.Names.{merged, merge_into, key_off_slot, range_at, key_at, MayDelete, Kept, row_there, rows_of, AreSet, IsOver, IsSound, AreCompatible, AreListed, times}
use Rattle.krl_modes.specs.declared.part.RangePart.TheVariants as range
use Rattle.krl_modes.specs.declared.part.KeyPart.TheVariants as key
use Rattle.krl_modes.proofs.PartLaws.{range_is_X}
use Rattle.krl_table.proofs.Rows.RowChanges.{eq_cases, both_rows, by_two, goes_two, remove_at, remove_past}
use Rattle.krl_table.proofs.Invariant.Alone.{AreAlone, alone_moved, times_both}
use Rattle.krl_table.proofs.Invariant.Compatible.{beside}
use Rattle.krl_table.proofs.Rows.Slots.{next_of, slot_is, slot_self, slot_end}
use Rattle.krl_table.proofs.Invariant.Sounds.{NoStrangers, listed_moved}
use Rattle.std.specs.Cmp.{first_so, second_so}

beside_X : (q : RangePart) → ranges_compatible range.X q ≡ true → q ≡ range.N
beside_X range.N e = refl
beside_X range.S e = absurd (cc)
beside_X range.I e = absurd (cc)
beside_X range.X e = absurd (cc)

beside_key_X : (q : KeyPart) → keys_compatible key.X q ≡ true → q ≡ key.N
beside_key_X key.N e = refl
beside_key_X key.S e = absurd (cc)
beside_key_X key.U e = absurd (cc)
beside_key_X key.X e = absurd (cc)

pub key_X : (k : KeyPart) → is_key_X k ≡ true → k ≡ key.X
key_X k e = grind arith

alone_range : (a b : Mode) → range_of a ≡ range.X → compatible a b ≡ true → range_of b ≡ range.N
alone_range a b e h = beside_X (range_of b) (ap (λ r. ranges_compatible r (range_of b)) (sym e) ∙ first_so _ _ h)

alone_key : (a b : Mode) → key_of a ≡ key.X → compatible a b ≡ true → key_of b ≡ key.N
alone_key a b e h = beside_key_X (key_of b) (ap (λ r. keys_compatible r (key_of b)) (sym e) ∙ second_so _ _ h)

-- what a writer that may delete has
module _ (t : Kept) (k s c : ℕ) (may : MayDelete (rows_of t) k s c) where
  pub its_entry : key_of (mode_at (rows_of t) k c) ≡ key.X
  its_entry = key_X _ (first_so _ _ (first_so _ _ may))

  pub its_gap : range_of (mode_at (rows_of t) k c) ≡ range.X
  its_gap = range_is_X _ (second_so _ _ (first_so _ _ may))

  pub its_next : range_of (mode_at (rows_of t) s c) ≡ range.X
  its_next = range_is_X _ (second_so _ _ may)

-- the slot k goes, and s is the next
module _ (m : Index) (k s : ℕ) (near : (n : ℕ) → END ≤ n → get m n ≡ None) (far : k < END) (here : is_slot m k ≡ true) (at : IsSlotOf m (suc k) s) where
  abbrev less : Index
  less = remove m k

  pub under : k < s
  under = let a = at.above in omega (arith, a)

  apart : k ≢ s
  apart e = let a = under in omega (arith, a, e)

  pub no_slot : is_slot less k ≡ false
  no_slot = ap (λ (o : Option Value). nat_eq k END || is_some o) (remove_at m k) ∙ ap (λ b. b || false) (ne_eqb k END (λ e. omega (arith, e, far)))

  pub other_slot : (n : ℕ) → n ≢ k → is_slot less n ≡ is_slot m n
  other_slot n ne = ap (λ (o : Option Value). nat_eq n END || is_some o) (remove_past m k n ne)

  pub less_near : (n : ℕ) → END ≤ n → get less n ≡ None
  less_near n le = remove_past m k n (λ e. omega (arith, e, le, far)) ∙ near n le

  not_there : (j : ℕ) → is_slot m j ≡ false → is_slot less j ≡ false
  not_there j e = eq_cases j k (λ f. ap (is_slot less) f ∙ no_slot) (λ ne. other_slot j ne ∙ e)

  -- a point's slot stays, if it is not k
  pub slot_stays : (p n : ℕ) → n ≢ k → IsSlotOf m p n → IsSlotOf less p n
  slot_stays p n nk x = record { slot = other_slot n nk ∙ x.slot; above = x.above; least = λ j a b. not_there j (x.least j a b) }

  -- and if it was k it is s
  pub slot_joined : (p : ℕ) → IsSlotOf m p k → IsSlotOf less p s
  slot_joined p x = record {
    slot = other_slot s (λ e. apart (sym e)) ∙ at.slot;
    above = let a = x.above in let b = under in omega (arith, a, b);
    least = λ j a b. eq_cases j k (λ f. ap (is_slot less) f ∙ no_slot)
        (λ ne. ⊎_elim (λ (y : j < k). not_there j (x.least j a y)) (λ (y : k ≤ j). not_there j (at.least j (omega (arith, y, ne)) b)) (cases_lt j k));
  }

  module _ (t u : Kept) (c : ℕ) (over : IsOver m t) (sound : IsSound t) (may : MayDelete (rows_of t) k s c)
      (set : AreSet t u k blank_row s (with_queue (rows_of t s) ((rows_of t k).queue ++ (rows_of t s).queue))) where
    abbrev new : Row
    new = with_queue (rows_of t s) ((rows_of t k).queue ++ (rows_of t s).queue)

    pub merge_rows : (n : ℕ) → rows_of u n ≡ merged m (rows_of t) k n
    merge_rows n = both_rows t u k blank_row s new apart set n ∙ ap (λ y. merge_into (rows_of t) y k n) (sym (slot_is m near (suc k) s far at))

    came : (n : ℕ) (w : Waiter) → In w (rows_of u n).queue → (j : ℕ) × In w (rows_of t j).queue
    came n w = by_two t u k blank_row s new set (λ r. In w r.queue → (j : ℕ) × In w (rows_of t j).queue)
        (λ x. absurd x)
        (λ x. ⊎_elim
        (λ (a : In w (rows_of t k).queue). (let z : (i : ℕ) × In w (rows_of t i).queue = (k, a) in z))
        (λ (a : In w (rows_of t s).queue). (let z : (i : ℕ) × In w (rows_of t i).queue = (s, a) in z))
        (in_both (rows_of t k).queue (rows_of t s).queue w x))
        (λ j x. (j, x)) n

    pub merge_listed : (waiting : List (Option Waiter)) → AreListed waiting t → AreListed waiting u
    merge_listed waiting = listed_moved waiting t u came (λ n w. goes_two t u k blank_row s new set w
        (λ x. inr (in_left (rows_of t k).queue (rows_of t s).queue w x))
        (λ x. inr (in_right (rows_of t k).queue (rows_of t s).queue w x)) n)

    is_alone : (d : ℕ) → AreAlone (λ n. times d (rows_of u n).queue)
    is_alone d = alone_moved (λ n. times d (rows_of t n).queue) (λ n. times d (rows_of u n).queue) s k (λ e. apart (sym e)) (sound.alone d)
        (let a = ap (λ (r : Row). times d r.queue) set.second in let b = ap (λ (r : Row). times d r.queue) set.first in let g = times_both d (rows_of t k).queue (rows_of t s).queue in omega (arith, a, b, g))
        (λ j ns nk. let a = ap (λ (r : Row). times d r.queue) (ap row_there (set.others j nk ns)) in omega (arith, a))

    pub merge_sound : IsSound u
    merge_sound = record {
      near = λ n lt. set.others n (λ e. omega (arith, e, lt, far)) (λ e. let le = slot_end m near s at.slot in omega (arith, e, lt, le)) ∙ sound.near n lt;
      used = λ n r e. eq_cases n k (λ f. set.used n r (inl f) e) (λ nk. eq_cases n s (λ f. set.used n r (inr f) e) (λ ns. sound.used n r (sym (set.others n nk ns) ∙ e)));
      strangers = λ n. by_two t u k blank_row s new set NoStrangers (λ d le. refl) (sound.strangers s) (λ j. sound.strangers j) n;
      beside = λ n. by_two t u k blank_row s new set (λ r. AreCompatible r.modes) (λ d e ne. refl) (sound.beside s) (λ j. sound.beside j) n;
      clients = λ n w x. let y = came n w x in sound.clients y.0 w y.1;
      alone = is_alone;
    }

    pub merge_over : IsOver less u
    merge_over = record {
      near = less_near;
      within = λ n h. eq_cases n k
          (λ e. absurd (no_blank (get u k) refl (subst (λ j. IsSome (get u j)) e h)))
          (λ nk. other_slot n nk ∙ eq_cases n s (λ e. ap (is_slot m) e ∙ at.slot) (λ ns. over.within n (subst IsSome (set.others n nk ns) h)));
      points = λ n w x. let y = came n w x in over.points y.0 w y.1;
      placed = is_placed;
    }
      where
        no_blank : (o : Option SlotRow) → get u k ≡ o → IsSome o → ⊥
        no_blank None e h = absurd (cc)
        no_blank (Some r) e h = set.used k r (inl refl) e (sym (ap row_there e) ∙ set.first)

        its_slot : (n : ℕ) (w : Waiter) → In w (rows_of t n).queue → IsSlotOf m w.point n
        its_slot n w x = subst (IsSlotOf m w.point) (over.placed n w x) (next_of m near w.point (over.points n w x))

        is_placed : (n : ℕ) (w : Waiter) → In w (rows_of u n).queue → slot_of less w.point ≡ n
        is_placed n w = eq_cases n k
            (λ e x. absurd (subst (λ (r : Row). In w r.queue) (ap (rows_of u) e ∙ set.first) x))
            (λ nk. eq_cases n s
            (λ e x. ⊎_elim
            (λ (a : In w (rows_of t k).queue). slot_is less less_near w.point s (over.points k w a) (slot_joined w.point (its_slot k w a)) ∙ sym e)
            (λ (a : In w (rows_of t s).queue). slot_is less less_near w.point s (over.points s w a) (slot_stays w.point s (λ f. apart (sym f)) (its_slot s w a)) ∙ sym e)
            (in_both (rows_of t k).queue (rows_of t s).queue w (subst (λ (r : Row). In w r.queue) (ap (rows_of u) e ∙ set.second) x)))
            (λ ns x. let y = subst (λ (r : Row). In w r.queue) (ap row_there (set.others n nk ns)) x in
            slot_is less less_near w.point n (over.points n w y) (slot_stays w.point n nk (its_slot n w y))))

    -- Point by point: no range part changes, and no key part

    modes_same : (n d : ℕ) → n ≢ k → mode_at (rows_of u) n d ≡ mode_at (rows_of t) n d
    modes_same n d nk = eq_cases n s
        (λ e. ap (λ i. mode_at (rows_of u) i d) e ∙ ap (λ (r : Row). r.modes d) set.second ∙ ap (λ i. mode_at (rows_of t) i d) (sym e))
        (λ ns. ap (λ (r : Row). r.modes d) (ap row_there (set.others n nk ns)))

    -- on both slots a client has the same range part
    alike : (d : ℕ) → range_of (mode_at (rows_of t) s d) ≡ range_of (mode_at (rows_of t) k d)
    alike d = eq_cases d c
        (λ e. subst (λ x. range_of (mode_at (rows_of t) s x) ≡ range_of (mode_at (rows_of t) k x)) (sym e) (its_next t k s c may ∙ sym (its_gap t k s c may)))
        (λ ne. alone_range (mode_at (rows_of t) s c) (mode_at (rows_of t) s d) (its_next t k s c may) (beside (rows_of t s).modes c (sound.beside s) d ne)
        ∙ sym (alone_range (mode_at (rows_of t) k c) (mode_at (rows_of t) k d) (its_gap t k s c may) (beside (rows_of t k).modes c (sound.beside k) d ne)))

    range_within : (d p : ℕ) → p ≤ END → range_of (mode_at (rows_of u) (slot_of less p) d) ≡ range_of (mode_at (rows_of t) (slot_of m p) d)
    range_within d p le = let its = next_of m near p le in eq_cases (slot_of m p) k
        (λ e. ap (λ n. range_of (mode_at (rows_of u) n d)) (slot_is less less_near p s le (slot_joined p (subst (IsSlotOf m p) e its)))
        ∙ ap range_of (modes_same s d (λ f. apart (sym f))) ∙ alike d ∙ ap (λ n. range_of (mode_at (rows_of t) n d)) (sym e))
        (λ ne. ap (λ n. range_of (mode_at (rows_of u) n d)) (slot_is less less_near p (slot_of m p) le (slot_stays p (slot_of m p) ne its))
        ∙ ap range_of (modes_same (slot_of m p) d ne))

    pub merge_ranges : (d p : ℕ) → range_at less (rows_of u) d p ≡ range_at m (rows_of t) d p
    merge_ranges d p = by_test (nat_lt END p) refl
      where
        by_test : (b : Bool) → nat_lt END p ≡ b → (if b then range.N else range_of (mode_at (rows_of u) (slot_of less p) d)) ≡ (if b then range.N else range_of (mode_at (rows_of t) (slot_of m p) d))
        by_test true e = refl
        by_test false e = range_within d p (ltb-false END p e)

    range_there : (d : ℕ) → range_at m (rows_of t) d k ≡ range_of (mode_at (rows_of t) k d)
    range_there d = by_test (nat_lt END k) refl
      where
        by_test : (b : Bool) → nat_lt END k ≡ b → (if b then range.N else range_of (mode_at (rows_of t) (slot_of m k) d)) ≡ range_of (mode_at (rows_of t) k d)
        by_test true e = absurd (let x = ltb-true END k e in omega (arith, x, far))
        by_test false e = ap (λ n. range_of (mode_at (rows_of t) n d)) (slot_self m near k here)

    off_slot : (d : ℕ) → key_off_slot (range_of (mode_at (rows_of t) k d)) ≡ key_of (mode_at (rows_of t) k d)
    off_slot d = eq_cases d c
        (λ e. subst (λ x. key_off_slot (range_of (mode_at (rows_of t) k x)) ≡ key_of (mode_at (rows_of t) k x)) (sym e) (ap key_off_slot (its_gap t k s c may) ∙ sym (its_entry t k s c may)))
        (λ ne. ap key_off_slot (alone_range (mode_at (rows_of t) k c) (mode_at (rows_of t) k d) (its_gap t k s c may) (beside (rows_of t k).modes c (sound.beside k) d ne))
        ∙ sym (alone_key (mode_at (rows_of t) k c) (mode_at (rows_of t) k d) (its_entry t k s c may) (beside (rows_of t k).modes c (sound.beside k) d ne)))

    pub merge_keys : (d p : ℕ) → key_at less (rows_of u) d p ≡ key_at m (rows_of t) d p
    merge_keys d p = eq_cases p k
        (λ e. subst (λ x. key_at less (rows_of u) d x ≡ key_at m (rows_of t) d x) (sym e)
        (ap (λ (b : Bool). if b then key_of (mode_at (rows_of u) k d) else key_off_slot (range_at less (rows_of u) d k)) no_slot
        ∙ ap key_off_slot (merge_ranges d k ∙ range_there d) ∙ off_slot d
        ∙ sym (ap (λ (b : Bool). if b then key_of (mode_at (rows_of t) k d) else key_off_slot (range_at m (rows_of t) d k)) here)))
        (λ ne. λ i. if (other_slot p ne) i then key_of ((modes_same p d ne) i) else key_off_slot ((merge_ranges d p) i))
