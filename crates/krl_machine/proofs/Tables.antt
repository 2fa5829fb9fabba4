-- A table of modes by slot gives rows, and its changes are those that the steps ask for.
use Rattle.krl_machine.proofs.Names.{◌≡◌, ◌≢◌, ℕ, zero, suc, ◌+◌, ◌-◌, ◌≤◌, ◌<◌, Option, Some, None, ◌⊎◌, inl, inr, refl, sym, ap, subst, ◌∙◌, ⊎_elim, arith, cases_lt, RangePart, KeyPart, Mode}
use Rattle.krl_machine.proofs.Names.{range_of, key_of, at_or_above, compatible, Value, RangeAtMost, KeyAtMost, RangesAgree, KeysAgree, IsMode, off_slot, Release, Report, Shared, Link, IsSlot, InSpan}
use Rattle.krl_machine.proofs.Names.{IsRow, SlotLowered, kept, cut, IsRebuilt, reads_bound, inserts_bound, IsTrue, Bool, true, false, if◌then◌else◌, nat_lt, eq-eqb, ne_eqb, lt-ltb, le-ltb, none-some}
use Rattle.krl_machine.proofs.Names.{first_of_two, slot_from, slot_of, range_at, key_or_off, key_at}
use Rattle.krl_modes.specs.declared.part.RangePart.TheVariants as range
use Rattle.krl_modes.specs.declared.part.KeyPart.TheVariants as key
use Rattle.krl_modes.specs.Parts.{range_meet, key_meet}
use Rattle.krl_modes.specs.declared.mode.Mode.TheVariants as mode
use Rattle.krl_machine.proofs.Modes.{mode_parts, modes_agree_by_table, rank-off_slot}
use Rattle.krl_machine.proofs.Points.{row_span}
use Rattle.krl_machine.proofs.Worlds.{eq_cases}

above_range : (a : RangePart) (k : KeyPart) → RangeAtMost a (range_of (at_or_above a k))
above_range a k = grind arith

above_key : (a : RangePart) (k : KeyPart) → KeyAtMost k (key_of (at_or_above a k))
above_key a k = grind arith

above_least : (a : RangePart) (k : KeyPart) (b : RangePart) (h : KeyPart) → IsMode b h → RangeAtMost a b → KeyAtMost k h → RangeAtMost (range_of (at_or_above a k)) b × KeyAtMost (key_of (at_or_above a k)) h
above_least a k b h m r o = grind arith

-- the slot of a point is a slot whose span holds it
pub slot_from_spec : (s : Shared) (d q : ℕ) → q + d ≡ s.end → IsSlot s (slot_from s.index d q) × InSpan s (slot_from s.index d q) q
slot_from_spec s zero q e = ((λ far none. far (omega (arith, e))), (omega arith, λ k a b. absurd (omega arith)))
slot_from_spec s (suc d) q e = by_entry (s.index q) refl (slot_from_spec s d (suc q) (omega (arith, e)))
  where
    by_entry : (o : Option Value) → s.index q ≡ o → IsSlot s (slot_from s.index d (suc q)) × InSpan s (slot_from s.index d (suc q)) (suc q) → IsSlot s (first_of_two (s.index q) q (slot_from s.index d (suc q))) × InSpan s (first_of_two (s.index q) q (slot_from s.index d (suc q))) q
    by_entry (Some v) f rest = rw f ((λ far none. none-some v (sym none ∙ f)), (omega arith, λ k a b. absurd (omega arith)))
    by_entry None f rest = rw f (rest.0, (omega (arith, rest.1.0), λ k a b. ⊎_elim (λ (c : q < k). rest.1.1 k c b) (λ (c : k ≤ q). let eq : k ≡ q = omega arith in (ap s.index eq ∙ f, λ g. absurd (omega (arith, e, eq, g)))) (cases_lt q k)))

pub slot_of_spec : (s : Shared) (q : ℕ) → q ≤ s.end → IsSlot s (slot_of s q) × InSpan s (slot_of s q) q
slot_of_spec s q le = slot_from_spec s (s.end - q) q (omega arith)

-- and there is only one such slot
pub slot_unique : (s : Shared) (n m q : ℕ) → IsSlot s n → IsSlot s m → InSpan s n q → InSpan s m q → n ≡ m
slot_unique s n m q sn sm a b = ⊎_elim
    (λ (lt : n < m). let h = b.1 n a.0 lt in absurd (sn h.1 h.0))
    (λ (le : m ≤ n). ⊎_elim (λ (lt : m < n). let h = a.1 m b.0 lt in absurd (sm h.1 h.0)) (λ (ge : n ≤ m). omega arith) (cases_lt m n)) (cases_lt n m)

pub range_near : (s : Shared) (modes : ℕ → Mode) (q : ℕ) → q ≤ s.end → range_at s modes q ≡ range_of (modes (slot_of s q))
unfolding range_at
range_near s modes q le = ap (λ b. if b then range.N else (range_of (modes (slot_of s q)))) (le-ltb s.end q le)

pub range_far : (s : Shared) (modes : ℕ → Mode) (q : ℕ) → s.end < q → range_at s modes q ≡ range.N
unfolding range_at
range_far s modes q lt = ap (λ b. if b then range.N else (range_of (modes (slot_of s q)))) (lt-ltb s.end q lt)

pub key_end : (s : Shared) (modes : ℕ → Mode) (q : ℕ) → q ≡ s.end → key_at s modes q ≡ key_of (modes q)
unfolding key_at
key_end s modes q e = ap (λ b. if b then (key_of (modes q)) else (if nat_lt s.end q then key.N else key_or_off (s.index q) (key_of (modes q)) (range_at s modes q))) (eq-eqb q s.end e)

pub key_far : (s : Shared) (modes : ℕ → Mode) (q : ℕ) → s.end < q → key_at s modes q ≡ key.N
unfolding key_at
key_far s modes q lt =
    ap (λ b. if b then (key_of (modes q)) else (if nat_lt s.end q then key.N else key_or_off (s.index q) (key_of (modes q)) (range_at s modes q))) (ne_eqb q s.end (λ e. omega (arith, e)))
    ∙ ap (λ b. if b then key.N else key_or_off (s.index q) (key_of (modes q)) (range_at s modes q)) (lt-ltb s.end q lt)

pub key_near : (s : Shared) (modes : ℕ → Mode) (q : ℕ) → q < s.end → key_at s modes q ≡ key_or_off (s.index q) (key_of (modes q)) (range_at s modes q)
unfolding key_at
key_near s modes q lt =
    ap (λ b. if b then (key_of (modes q)) else (if nat_lt s.end q then key.N else key_or_off (s.index q) (key_of (modes q)) (range_at s modes q))) (ne_eqb q s.end (λ e. omega (arith, e)))
    ∙ ap (λ b. if b then key.N else key_or_off (s.index q) (key_of (modes q)) (range_at s modes q)) (le-ltb s.end q (omega arith))

-- keys are below END
abbrev pub KeysNear : Shared → Type 0
KeysNear s = (q : ℕ) → s.end ≤ q → s.index q ≡ None

module _ (s : Shared) (near : KeysNear s) where
  pub slot_near : (n : ℕ) → IsSlot s n → n ≤ s.end
  slot_near n slot = ⊎_elim (λ (far : s.end < n). absurd (slot (λ e. omega (arith, e)) (near n (omega arith)))) (λ (le : n ≤ s.end). le) (cases_lt s.end n)

  slot_self : (n : ℕ) → IsSlot s n → slot_of s n ≡ n
  slot_self n slot = let x = slot_of_spec s n (slot_near n slot) in slot_unique s (slot_of s n) n n x.0 slot x.1 (omega arith, λ k a b. absurd (omega arith))

  pub range_slot : (modes : ℕ → Mode) (n : ℕ) → IsSlot s n → range_at s modes n ≡ range_of (modes n)
  range_slot modes n slot = range_near s modes n (slot_near n slot) ∙ ap (λ x. (range_of (modes x))) (slot_self n slot)

  by_key : (o : Option Value) (k : KeyPart) (r : RangePart) → o ≢ None → key_or_off o k r ≡ k
  by_key None k r ne = absurd (ne refl)
  by_key (Some v) k r ne = refl

  pub key_slot : (modes : ℕ → Mode) (n : ℕ) → IsSlot s n → key_at s modes n ≡ key_of (modes n)
  key_slot modes n slot = eq_cases n s.end (λ e. key_end s modes n e)
      (λ ne. key_near s modes n (let le = slot_near n slot in ⊎_elim (λ (x : n < s.end). x) (λ (x : s.end ≤ n). absurd (ne (omega arith))) (cases_lt n s.end)) ∙ by_key (s.index n) (key_of (modes n)) (range_at s modes n) (slot ne))

  pub key_off : (modes : ℕ → Mode) (q : ℕ) → q ≢ s.end → s.index q ≡ None → key_at s modes q ≡ off_slot (range_at s modes q)
  key_off modes q ne none = ⊎_elim
      (λ (far : s.end < q). key_far s modes q far ∙ ap off_slot (sym (range_far s modes q far)))
      (λ (le : q ≤ s.end). key_near s modes q (⊎_elim (λ (x : q < s.end). x) (λ (x : s.end ≤ q). absurd (ne (omega arith))) (cases_lt q s.end)) ∙ ap (λ o. key_or_off o (key_of (modes q)) (range_at s modes q)) none)
      (cases_lt s.end q)

  -- the span of a slot, from the slot of one of its points
  pub range_span : (modes : ℕ → Mode) (n q : ℕ) → IsSlot s n → InSpan s n q → range_at s modes q ≡ range_of (modes n)
  range_span modes n q slot span =
      let le : q ≤ s.end = omega (arith, slot_near n slot, span.0) in
      let x = slot_of_spec s q le in
      range_near s modes q le ∙ ap (λ y. (range_of (modes y))) (slot_unique s (slot_of s q) n q x.0 slot x.1 span)

  -- each table gives rows
  pub table_row : (modes : ℕ → Mode) → IsRow s (range_at s modes) (key_at s modes)
  table_row modes = record {
    same = λ q ne none. ⊎_elim
        (λ (lt : q < s.end).
        let x = slot_of_spec s (suc q) (omega arith) in
        let here : InSpan s (slot_of s (suc q)) q = (omega (arith, x.1.0), λ k a b. ⊎_elim (λ (c : q < k). x.1.1 k c b) (λ (c : k ≤ q). let e : k ≡ q = omega arith in (ap s.index e ∙ none, λ f. ne (sym e ∙ f))) (cases_lt q k)) in
        range_span modes (slot_of s (suc q)) q x.0 here ∙ sym (range_span modes (slot_of s (suc q)) (suc q) x.0 x.1))
        (λ (ge : s.end ≤ q). let far : s.end < q = ⊎_elim (λ (a : s.end < q). a) (λ (b : q ≤ s.end). absurd (ne (omega arith))) (cases_lt s.end q) in
        range_far s modes q far ∙ sym (range_far s modes (suc q) (omega arith)))
        (cases_lt q s.end);
    past = λ q far. (range_far s modes q far, key_far s modes q far);
    mode = λ n slot. rw (range_slot modes n slot) (rw (key_slot modes n slot) (mode_parts (modes n)));
    off = λ q ne none. key_off modes q ne none;
  }

  -- a point past END, off the slots, or a slot
  point_cases : {A : Type 0} (q : ℕ) → (s.end < q → A) → ((n : ℕ) → IsSlot s n → InSpan s n q → q ≢ s.end → s.index q ≡ None → A) → (IsSlot s q → A) → A
  point_cases {A} q far off here = ⊎_elim (λ (f : s.end < q). far f)
      (λ (le : q ≤ s.end). eq_cases q s.end (λ e. here (λ ne. absurd (ne e))) (λ ne. by_entry (s.index q) refl ne (slot_of_spec s q le))) (cases_lt s.end q)
    where
      by_entry : (o : Option Value) → s.index q ≡ o → q ≢ s.end → IsSlot s (slot_of s q) × InSpan s (slot_of s q) q → A
      by_entry None e ne x = off (slot_of s q) x.0 x.1 ne e
      by_entry (Some v) e ne x = here (λ far none. none-some v (sym none ∙ e))

  -- tables whose modes agree at each slot give rows that agree
  pub table_agree : (a b : ℕ → Mode) → ((n : ℕ) → IsSlot s n → RangesAgree (range_of (a n)) (range_of (b n)) × KeysAgree (key_of (a n)) (key_of (b n))) → (q : ℕ) → RangesAgree (range_at s a q) (range_at s b q) × KeysAgree (key_at s a q) (key_at s b q)
  table_agree a b h q = point_cases q
      (λ far. rw (range_far s a q far) (rw (range_far s b q far) (rw (key_far s a q far) (rw (key_far s b q far) ((omega arith, omega arith), omega arith)))))
      (λ n slot span ne none. let x = (h n slot).0 in
      rw (key_off a q ne none) (rw (key_off b q ne none) (rw (range_span a n q slot span) (rw (range_span b n q slot span)
      (x, omega (arith, x, rank-off_slot (range_of (a n)), rank-off_slot (range_of (b n)), reads_bound (range_of (a n)), reads_bound (range_of (b n)), inserts_bound (range_of (a n)), inserts_bound (range_of (b n))))))))
      (λ slot. rw (range_slot a q slot) (rw (range_slot b q slot) (rw (key_slot a q slot) (rw (key_slot b q slot) (h q slot)))))

  -- and one that is at or above the other at each slot gives a row that is
  pub table_below : (a b : ℕ → Mode) → ((n : ℕ) → IsSlot s n → RangeAtMost (range_of (a n)) (range_of (b n)) × KeyAtMost (key_of (a n)) (key_of (b n))) → (q : ℕ) → RangeAtMost (range_at s a q) (range_at s b q) × KeyAtMost (key_at s a q) (key_at s b q)
  table_below a b h q = point_cases q
      (λ far. rw (range_far s a q far) (rw (range_far s b q far) (rw (key_far s a q far) (rw (key_far s b q far) ((omega arith, omega arith), omega arith)))))
      (λ n slot span ne none. let x = (h n slot).0 in
      rw (key_off a q ne none) (rw (key_off b q ne none) (rw (range_span a n q slot span) (rw (range_span b n q slot span)
      (x, omega (arith, x, rank-off_slot (range_of (a n)), rank-off_slot (range_of (b n))))))))
      (λ slot. rw (range_slot a q slot) (rw (range_slot b q slot) (rw (key_slot a q slot) (rw (key_slot b q slot) (h q slot)))))

  -- only the modes at slots are read
  pub table_same : (a b : ℕ → Mode) → ((n : ℕ) → IsSlot s n → a n ≡ b n) → (q : ℕ) → (range_at s a q ≡ range_at s b q) × (key_at s a q ≡ key_at s b q)
  table_same a b h q = point_cases q
      (λ far. (range_far s a q far ∙ sym (range_far s b q far), key_far s a q far ∙ sym (key_far s b q far)))
      (λ n slot span ne none. let e = range_span a n q slot span ∙ ap range_of (h n slot) ∙ sym (range_span b n q slot span) in
      (e, key_off a q ne none ∙ ap off_slot e ∙ sym (key_off b q ne none)))
      (λ slot. (range_slot a q slot ∙ ap range_of (h q slot) ∙ sym (range_slot b q slot), key_slot a q slot ∙ ap key_of (h q slot) ∙ sym (key_slot b q slot)))

  -- a row that has a mode's parts on its slot's span, and is blank past END, is that of the table
  pub row_is_table : (ranges : ℕ → RangePart) (keys : ℕ → KeyPart) (modes : ℕ → Mode) → IsRow s ranges keys → ((n : ℕ) → IsSlot s n → (ranges n ≡ range_of (modes n)) × (keys n ≡ key_of (modes n))) → (q : ℕ) → (ranges q ≡ range_at s modes q) × (keys q ≡ key_at s modes q)
  row_is_table ranges keys modes row h q = point_cases q
      (λ far. let p = row.past q far in (p.0 ∙ sym (range_far s modes q far), p.1 ∙ sym (key_far s modes q far)))
      (λ n slot span ne none. let e = row_span s ranges keys row (n - q) n q (omega (arith, span.0)) span ∙ (h n slot).0 ∙ sym (range_span modes n q slot span) in
      (e, row.off q ne none ∙ ap off_slot e ∙ sym (key_off modes q ne none)))
      (λ slot. ((h q slot).0 ∙ sym (range_slot modes q slot), (h q slot).1 ∙ sym (key_slot modes q slot)))

  -- a blank row
  pub no_modes : (q : ℕ) → (range_at s (λ n. mode.N) q ≡ range.N) × (key_at s (λ n. mode.N) q ≡ key.N)
  no_modes q = point_cases q
      (λ far. (range_far s (λ n. mode.N) q far, key_far s (λ n. mode.N) q far))
      (λ n slot span ne none. let e = range_span (λ n. mode.N) n q slot span in (e, key_off (λ n. mode.N) q ne none ∙ ap off_slot e))
      (λ slot. (range_slot (λ n. mode.N) q slot, key_slot (λ n. mode.N) q slot))

  -- any function that gives the slot of each point gives the same row
  pub range_by_slots : (modes : ℕ → Mode) (slot : ℕ → ℕ) → ((q : ℕ) → q ≤ s.end → IsSlot s (slot q) × InSpan s (slot q) q) → (q : ℕ) → (if nat_lt s.end q then range.N else range_of (modes (slot q))) ≡ range_at s modes q
  range_by_slots modes slot h q = ⊎_elim
      (λ (far : s.end < q). ap (λ b. if b then range.N else range_of (modes (slot q))) (lt-ltb s.end q far) ∙ sym (range_far s modes q far))
      (λ (le : q ≤ s.end). let x = h q le in ap (λ b. if b then range.N else range_of (modes (slot q))) (le-ltb s.end q le) ∙ sym (range_span modes (slot q) q x.0 x.1))
      (cases_lt s.end q)

  -- and so does any test for slots, with any function that is the law off the slots
  pub key_by_slots : (modes : ℕ → Mode) (is_slot : ℕ → Bool) (off : RangePart → KeyPart) → ((q : ℕ) → is_slot q ≡ true → IsSlot s q) → ((q : ℕ) → is_slot q ≡ false → (q ≢ s.end) × (s.index q ≡ None)) → ((r : RangePart) → off r ≡ off_slot r) → (q : ℕ) → (if is_slot q then key_of (modes q) else off (range_at s modes q)) ≡ key_at s modes q
  key_by_slots modes is_slot off slots others same q = by_test (is_slot q) refl
    where
      by_test : (b : Bool) → is_slot q ≡ b → (if b then key_of (modes q) else off (range_at s modes q)) ≡ key_at s modes q
      by_test true e = sym (key_slot modes q (slots q e))
      by_test false e = let x = others q e in same (range_at s modes q) ∙ sym (key_off modes q x.0 x.1)

  -- two tables whose rows agree have compatible modes at each slot
  pub slots_agree : (a b : ℕ → Mode) → ((q : ℕ) → RangesAgree (range_at s a q) (range_at s b q) × KeysAgree (key_at s a q) (key_at s b q)) → (n : ℕ) → IsSlot s n → IsTrue (compatible (a n) (b n))
  slots_agree a b h n slot = (modes_agree_by_table (a n) (b n)).1
      (subst (λ x. RangesAgree x (range_of (b n)) × KeysAgree (key_of (a n)) (key_of (b n))) (range_slot a n slot)
      (subst (λ x. RangesAgree (range_at s a n) x × KeysAgree (key_of (a n)) (key_of (b n))) (range_slot b n slot)
      (subst (λ x. RangesAgree (range_at s a n) (range_at s b n) × KeysAgree x (key_of (b n))) (key_slot a n slot)
      (subst (λ x. RangesAgree (range_at s a n) (range_at s b n) × KeysAgree (key_at s a n) x) (key_slot b n slot) (h n)))))

-- an index with the same keys has the same slots
module _ (s : Shared) (near : KeysNear s) (index : ℕ → Option Value) (gone : (q : ℕ) → s.index q ≡ None → index q ≡ None) (came : (q : ℕ) → index q ≡ None → s.index q ≡ None) (modes : ℕ → Mode) where
  near_again : KeysNear (record s { index = index })
  near_again q le = gone q (near q le)

  slot_again : (n : ℕ) → IsSlot s n → IsSlot (record s { index = index }) n
  slot_again n slot far none = slot far (came n none)

  span_again : (n q : ℕ) → InSpan s n q → InSpan (record s { index = index }) n q
  span_again n q span = (span.0, λ j a b. let x = span.1 j a b in (gone j x.0, x.1))

  pub same_slots : (q : ℕ) → (range_at (record s { index = index }) modes q ≡ range_at s modes q) × (key_at (record s { index = index }) modes q ≡ key_at s modes q)
  same_slots q = point_cases s near q
      (λ far. (range_far (record s { index = index }) modes q far ∙ sym (range_far s modes q far), key_far (record s { index = index }) modes q far ∙ sym (key_far s modes q far)))
      (λ n slot span ne none. let e = range_span (record s { index = index }) near_again modes n q (slot_again n slot) (span_again n q span) ∙ sym (range_span s near modes n q slot span) in
      (e, key_off (record s { index = index }) near_again modes q ne (gone q none) ∙ ap off_slot e ∙ sym (key_off s near modes q ne none)))
      (λ slot. (range_slot (record s { index = index }) near_again modes q (slot_again q slot) ∙ sym (range_slot s near modes q slot), key_slot (record s { index = index }) near_again modes q (slot_again q slot) ∙ sym (key_slot s near modes q slot)))

-- a table that has at each slot n the least mode at or above the parts that are reported of its span and its key:
-- joined n is the least part above those of the span
pub report_rebuilds : (s : Shared) (near : KeysNear s) (r : Report) (modes : ℕ → Mode) (joined : ℕ → RangePart) → ((n q : ℕ) → IsSlot s n → InSpan s n q → RangeAtMost (r.range q) (joined n)) → ((n : ℕ) (a : RangePart) → IsSlot s n → ((q : ℕ) → InSpan s n q → RangeAtMost (r.range q) a) → RangeAtMost (joined n) a) → ((n : ℕ) → IsSlot s n → modes n ≡ at_or_above (joined n) (r.key n)) → IsRebuilt s r (range_at s modes) (key_at s modes)
report_rebuilds s near r modes joined above least h = record {
  row = table_row s near modes;
  above = λ n q slot span. rw (range_slot s near modes n slot) (rw (h n slot) (
      let a = above n q slot span in let b = above_range (joined n) (r.key n) in (omega (arith, a, b), omega (arith, a, b))));
  key_above = λ n slot. rw (key_slot s near modes n slot) (rw (h n slot) (above_key (joined n) (r.key n)));
  least = λ n a k slot mode ranges keys. rw (range_slot s near modes n slot) (rw (key_slot s near modes n slot) (rw (h n slot)
      (above_least (joined n) (r.key n) a k mode (least n a slot ranges) keys)));
}

-- a release lowers the slots whose spans it covers
pub release_lowers : (s : Shared) (near : KeysNear s) (r : Release) (l : Link) (old new : ℕ → Mode) → ((q : ℕ) → l.top_range q ≡ range_at s old q) → ((q : ℕ) → l.top_key q ≡ key_at s old q) → (n : ℕ) → IsSlot s n → (range_of (new n) ≡ range_of (old n)) × (key_of (new n) ≡ key_of (old n)) ⊎ (((q : ℕ) → InSpan s n q → (r.lo ≤ q) × (q ≤ r.last)) × (range_of (new n) ≡ range_meet (range_of (old n)) r.range) × (key_of (new n) ≡ key_meet (key_of (old n)) r.key)) → SlotLowered s r l (range_at s new) (key_at s new) n
release_lowers s near r l old new rt kt n slot (inl same) = kept (λ q span.
    let a : range_at s new q ≡ range_at s old q = range_span s near new n q slot span ∙ same.0 ∙ sym (range_span s near old n q slot span) in (
      a ∙ sym (rt q),
      ⊎_elim
          (λ (lt : q < n). let g = span.1 q (omega arith) lt in key_off s near new q g.1 g.0 ∙ ap off_slot a ∙ sym (key_off s near old q g.1 g.0) ∙ sym (kt q))
          (λ (ge : n ≤ q). let e : n ≡ q = omega (arith, span.0) in subst (λ x. key_at s new x ≡ l.top_key x) e (key_slot s near new n slot ∙ same.1 ∙ sym (key_slot s near old n slot) ∙ sym (kt n))) (cases_lt q n),
    ))
release_lowers s near r l old new rt kt n slot (inr low) = cut low.0
    (λ q span. range_span s near new n q slot span ∙ low.1 ∙ ap (λ x. range_meet x r.range) (sym (range_span s near old n q slot span) ∙ sym (rt q)))
    (key_slot s near new n slot ∙ low.2 ∙ ap (λ x. key_meet x r.key) (sym (key_slot s near old n slot) ∙ sym (kt n)))

-- a change at one point below the end
near_changed : (s : Shared) (near : KeysNear s) (k : ℕ) (index : ℕ → Option Value) → k < s.end → ((q : ℕ) → q ≢ k → index q ≡ s.index q) → KeysNear (record s { index = index })
near_changed s near k index lt rest q le = rest q (λ e. omega (arith, e, lt, le)) ∙ near q le

-- a split at k, if the new slot's range part is the old one there: no range part changes, and of the key parts only
-- that at k
module _ (s : Shared) (near : KeysNear s) (k : ℕ) (v : Value) (index : ℕ → Option Value) (old new : ℕ → Mode) (lt : k < s.end) (absent : s.index k ≡ None) (at : index k ≡ Some v) (rest : (q : ℕ) → q ≢ k → index q ≡ s.index q) (part : (range_of (new k)) ≡ range_at s old k) (others : (n : ℕ) → n ≢ k → (range_of (new n) ≡ range_of (old n)) × (key_of (new n) ≡ key_of (old n))) where
  grown : Shared
  grown = record s { index = index }

  not_before : (q : ℕ) → index q ≡ None → s.index q ≡ None
  not_before q none = sym (rest q (λ e. none-some v (sym none ∙ ap index e ∙ at))) ∙ none

  split_span : (n q : ℕ) → InSpan (record s { index = index }) n q → InSpan s n q
  split_span n q span = (span.0, λ j a b. let x = span.1 j a b in (not_before j x.0, x.1))

  pub split_range : (q : ℕ) → range_at (record s { index = index }) new q ≡ range_at s old q
  split_range q = ⊎_elim
      (λ (far : s.end < q). range_far (record s { index = index }) new q far ∙ sym (range_far s old q far))
      (λ (le : q ≤ s.end).
      let x = slot_of_spec (record s { index = index }) q le in
      let n = slot_of (record s { index = index }) q in
      range_span (record s { index = index }) (near_changed s near k index lt rest) new n q x.0 x.1 ∙ eq_cases n k
      (λ e. ap (λ y. (range_of (new y))) e ∙ part ∙ sym (spread (subst (λ y. InSpan (record s { index = index }) y q) e x.1)))
      (λ ne. (others n ne).0 ∙ sym (range_span s near old n q (λ far none. x.0 far (rest n ne ∙ none)) (split_span n q x.1))))
      (cases_lt s.end q)
    where
      spread : InSpan (record s { index = index }) k q → range_at s old q ≡ range_at s old k
      spread span = row_span s (range_at s old) (key_at s old) (table_row s near old) (k - q) k q (omega (arith, span.0)) (split_span k q span)

  pub split_key : (q : ℕ) → q ≢ k → key_at (record s { index = index }) new q ≡ key_at s old q
  split_key q ne = point_cases (record s { index = index }) (near_changed s near k index lt rest) q
      (λ far. key_far (record s { index = index }) new q far ∙ sym (key_far s old q far))
      (λ n slot span off none. key_off (record s { index = index }) (near_changed s near k index lt rest) new q off none ∙ ap off_slot (split_range q) ∙ sym (key_off s near old q off (not_before q none)))
      (λ slot. key_slot (record s { index = index }) (near_changed s near k index lt rest) new q slot ∙ (others q ne).1 ∙ sym (key_slot s near old q (λ far none. slot far (rest q ne ∙ none))))

  pub split_here : key_at (record s { index = index }) new k ≡ key_of (new k)
  split_here = key_slot (record s { index = index }) (near_changed s near k index lt rest) new k (λ far none. none-some v (sym none ∙ at))

-- a merge of k into the next slot, if both have the same range part and k's key part is what that part gives: no range
-- part and no key part changes
module _ (s : Shared) (near : KeysNear s) (k : ℕ) (u : Value) (index : ℕ → Option Value) (modes : ℕ → Mode) (lt : k < s.end) (present : s.index k ≡ Some u) (at : index k ≡ None) (rest : (q : ℕ) → q ≢ k → index q ≡ s.index q) (same : range_at s modes k ≡ range_at s modes (suc k)) (x : key_at s modes k ≡ off_slot (range_at s modes k)) where
  slot_less : (n : ℕ) → IsSlot (record s { index = index }) n → IsSlot s n
  slot_less n slot far none = eq_cases n k (λ e. none-some u (sym none ∙ ap s.index e ∙ present)) (λ ne. slot far (rest n ne ∙ none))

  -- along a stretch without keys of the new index the old row is constant
  along : (d n q : ℕ) → q + d ≡ n → InSpan (record s { index = index }) n q → range_at s modes q ≡ range_at s modes n
  along zero n q e span = ap (range_at s modes) (omega (arith, e))
  along (suc d) n q e span =
      let here = span.1 q (omega arith) (omega (arith, e)) in
      let next = along d n (suc q) (omega (arith, e)) (omega (arith, e), λ j a b. span.1 j (omega arith) b) in
      eq_cases q k (λ f. subst (λ y. range_at s modes y ≡ range_at s modes (suc y)) (sym f) same ∙ next)
      (λ ne. (table_row s near modes).same q here.1 (sym (rest q ne) ∙ here.0) ∙ next)

  pub merge_range : (q : ℕ) → range_at (record s { index = index }) modes q ≡ range_at s modes q
  merge_range q = ⊎_elim
      (λ (far : s.end < q). range_far (record s { index = index }) modes q far ∙ sym (range_far s modes q far))
      (λ (le : q ≤ s.end).
      let y = slot_of_spec (record s { index = index }) q le in
      let n = slot_of (record s { index = index }) q in
      range_span (record s { index = index }) (near_changed s near k index lt rest) modes n q y.0 y.1 ∙ sym (range_slot s near modes n (slot_less n y.0)) ∙ sym (along (n - q) n q (omega (arith, y.1.0)) y.1))
      (cases_lt s.end q)

  pub merge_key : (q : ℕ) → key_at (record s { index = index }) modes q ≡ key_at s modes q
  merge_key q = point_cases (record s { index = index }) (near_changed s near k index lt rest) q
      (λ far. key_far (record s { index = index }) modes q far ∙ sym (key_far s modes q far))
      (λ n slot span off none. key_off (record s { index = index }) (near_changed s near k index lt rest) modes q off none ∙ ap off_slot (merge_range q) ∙ eq_cases q k
      (λ e. subst (λ y. off_slot (range_at s modes y) ≡ key_at s modes y) (sym e) (sym x))
      (λ ne. sym (key_off s near modes q off (sym (rest q ne) ∙ none))))
      (λ slot. key_slot (record s { index = index }) (near_changed s near k index lt rest) modes q slot ∙ sym (key_slot s near modes q (slot_less q slot)))
