-- A row that is rebuilt from a report, or lowered by a release, against parts at each point.
use Rattle.krl_machine.proofs.Names.{◌≡◌, ◌≢◌, ℕ, ◌-◌, ◌≤◌, ◌<◌, None, sym, subst, ◌⊎◌, inl, inr, ⊎_elim, arith, cases_lt, RangePart, KeyPart, RangeAtMost, KeyAtMost, off_slot}
use Rattle.krl_machine.proofs.Names.{Release, Report, Shared, Link, IsSlot, InSpan, IsRow, IsRebuilt, SlotLowered, kept, cut, reads-range_meet, inserts-range_meet, rank-key_meet}
use Rattle.krl_modes.specs.declared.part.RangePart.TheVariants as range
use Rattle.krl_modes.specs.declared.part.KeyPart.TheVariants as key
use Rattle.krl_machine.proofs.Modes.{rank-off_slot}
use Rattle.krl_machine.proofs.Points.{slot_of_point, row_span}

-- parts that are at most others
abbrev pub Below : RangePart → KeyPart → RangePart → KeyPart → Type 0
Below a k b m = RangeAtMost a b × KeyAtMost k m

-- parts that are N are at most any
pub blank_below : (r : RangePart) (k : KeyPart) (tr : RangePart) (tk : KeyPart) → r ≡ range.N → k ≡ key.N → Below r k tr tk
blank_below r k tr tk er ek = rw er (rw ek ((omega arith, omega arith), omega arith))

-- parts within a row are N past END
past_end : (s : Shared) (tr : ℕ → RangePart) (tk : ℕ → KeyPart) (a : RangePart) (k : KeyPart) (b : RangePart) (m : KeyPart) (q : ℕ) → IsRow s tr tk → s.end < q → Below a k (tr q) (tk q) → Below a k b m
past_end s tr tk a k b m q row far within =
    let p = row.past q far in
    let z : RangeAtMost a range.N = subst (λ x. RangeAtMost a x) p.0 within.0 in
    let y : KeyAtMost k key.N = subst (λ x. KeyAtMost k x) p.1 within.1 in
    ((omega (arith, z), omega (arith, z)), omega (arith, y))

-- A rebuilt row is at most any row that the report is at most

module _ (s : Shared) (r : Report) (ranges : ℕ → RangePart) (keys : ℕ → KeyPart) (tr : ℕ → RangePart) (tk : ℕ → KeyPart) (built : IsRebuilt s r ranges keys) (row : IsRow s tr tk) (below : (q : ℕ) → Below (r.range q) (r.key q) (tr q) (tk q)) where
  least_at : (n : ℕ) → IsSlot s n → Below (ranges n) (keys n) (tr n) (tk n)
  least_at n slot = built.least n (tr n) (tk n) slot (row.mode n slot)
      (λ q span. subst (λ x. RangeAtMost (r.range q) x) (row_span s tr tk row (n - q) n q (omega (arith, span.0)) span) (below q).0)
      (below n).1

  off_low : (q : ℕ) → RangeAtMost (ranges q) (tr q) → q ≢ s.end → s.index q ≡ None → KeyAtMost (keys q) (tk q)
  off_low q b far none =
      rw (built.row.off q far none) (rw (row.off q far none) (omega (arith, rank-off_slot (ranges q), rank-off_slot (tr q), b)))

  low_at : (q n : ℕ) → IsSlot s n → InSpan s n q → Below (ranges q) (keys q) (tr q) (tk q)
  low_at q n slot span = (
    in_range,
    ⊎_elim (λ (lt : q < n). let h = span.1 q (omega arith) lt in off_low q in_range h.1 h.0)
        (λ (le : n ≤ q). let e : n ≡ q = omega (arith, span.0) in subst (λ x. KeyAtMost (keys x) (tk x)) e (least_at n slot).1) (cases_lt q n),
  )
    where
      in_range : RangeAtMost (ranges q) (tr q)
      in_range =
          let a = row_span s ranges keys built.row (n - q) n q (omega (arith, span.0)) span in
          let b = row_span s tr tk row (n - q) n q (omega (arith, span.0)) span in
          rw a (rw b (least_at n slot).0)

  pub rebuilt_below : (q : ℕ) → Below (ranges q) (keys q) (tr q) (tk q)
  rebuilt_below q = ⊎_elim
      (λ (far : s.end < q). let p = built.row.past q far in blank_below (ranges q) (keys q) (tr q) (tk q) p.0 p.1)
      (λ (near : q ≤ s.end). let n = slot_of_point s (s.end - q) q (omega arith) in low_at q n.0 n.1 n.2) (cases_lt s.end q)

-- and at least any parts that the report is at least, if these are within a row

module _ (s : Shared) (r : Report) (ranges : ℕ → RangePart) (keys : ℕ → KeyPart) (tr : ℕ → RangePart) (tk : ℕ → KeyPart) (built : IsRebuilt s r ranges keys) (top : IsRow s tr tk)
    (br : ℕ → RangePart) (bk : ℕ → KeyPart) (off : (q : ℕ) (g : RangePart) → q ≢ s.end → s.index q ≡ None → RangeAtMost (br q) g → KeyAtMost (bk q) (off_slot g))
    (within : (q : ℕ) → Below (br q) (bk q) (tr q) (tk q)) (below : (q : ℕ) → Below (br q) (bk q) (r.range q) (r.key q)) where
  high_at : (q n : ℕ) → IsSlot s n → InSpan s n q → Below (br q) (bk q) (ranges q) (keys q)
  high_at q n slot span = (
    in_range,
    ⊎_elim (λ (lt : q < n). let h = span.1 q (omega arith) lt in rw (built.row.off q h.1 h.0) (off q (ranges q) h.1 h.0 in_range))
        (λ (le : n ≤ q). let e : n ≡ q = omega (arith, span.0) in
        let k : KeyAtMost (r.key q) (keys q) = subst (λ x. KeyAtMost (r.key x) (keys x)) e (built.key_above n slot) in omega (arith, k, (below q).1)) (cases_lt q n),
  )
    where
      in_range : RangeAtMost (br q) (ranges q)
      in_range =
          let a = row_span s ranges keys built.row (n - q) n q (omega (arith, span.0)) span in
          let b = built.above n q slot span in
          let c = (below q).0 in
          rw a ((omega (arith, b, c), omega (arith, b, c)))

  pub rebuilt_above : (q : ℕ) → Below (br q) (bk q) (ranges q) (keys q)
  rebuilt_above q = ⊎_elim
      (λ (far : s.end < q). past_end s tr tk (br q) (bk q) (ranges q) (keys q) q top far (within q))
      (λ (near : q ≤ s.end). let n = slot_of_point s (s.end - q) q (omega arith) in high_at q n.0 n.1 n.2) (cases_lt s.end q)

-- A row that a release lowers still covers parts that were within it and of which the release is true

module _ (s : Shared) (l : Link) (r : Release) (ranges : ℕ → RangePart) (keys : ℕ → KeyPart) (row : IsRow s ranges keys) (top : IsRow s l.top_range l.top_key) (slots : (n : ℕ) → IsSlot s n → SlotLowered s r l ranges keys n)
    (br : ℕ → RangePart) (bk : ℕ → KeyPart) (off : (q : ℕ) (g : RangePart) → q ≢ s.end → s.index q ≡ None → RangeAtMost (br q) g → KeyAtMost (bk q) (off_slot g))
    (within : (q : ℕ) → Below (br q) (bk q) (l.top_range q) (l.top_key q)) (says : (q : ℕ) → r.lo ≤ q → q ≤ r.last → Below (br q) (bk q) r.range r.key) where
  cut_at : (n q : ℕ) → SlotLowered s r l ranges keys n → IsSlot s n → InSpan s n q → Below (br q) (bk q) (ranges q) (keys q)
  cut_at n q (kept same) slot span = rw (same q span).0 (rw (same q span).1 (within q))
  cut_at n q (cut inside low at) slot span = (below, by_place (cases_lt q n))
    where
      in_release : (r.lo ≤ q) × (q ≤ r.last)
      in_release = inside q span

      below : RangeAtMost (br q) (ranges q)
      below = let t = says q in_release.0 in_release.1 in let u = within q in
          rw (low q span) ((omega (arith, reads-range_meet (l.top_range q) r.range, t, u), omega (arith, inserts-range_meet (l.top_range q) r.range, t, u)))

      by_place : (q < n) ⊎ (n ≤ q) → KeyAtMost (bk q) (keys q)
      by_place (inl lt) = let h = span.1 q (omega arith) lt in rw (row.off q h.1 h.0) (off q (ranges q) h.1 h.0 below)
      by_place (inr le) =
          let e : q ≡ n = omega (arith, span.0) in
          let t = says q in_release.0 in_release.1 in let u = within q in
          let v : KeyAtMost (bk n) r.key = subst (λ x. KeyAtMost (bk x) r.key) e t.1 in
          let w : KeyAtMost (bk n) (l.top_key n) = subst (λ x. KeyAtMost (bk x) (l.top_key x)) e u.1 in
          subst (λ x. KeyAtMost (bk x) (keys x)) (sym e) (rw at (omega (arith, rank-key_meet (l.top_key n) r.key)))

  pub cut_within : (q : ℕ) → Below (br q) (bk q) (ranges q) (keys q)
  cut_within q = ⊎_elim
      (λ (far : s.end < q). past_end s l.top_range l.top_key (br q) (bk q) (ranges q) (keys q) q top far (within q))
      (λ (near : q ≤ s.end). let n = slot_of_point s (s.end - q) q (omega arith) in cut_at n.0 q (slots n.0 n.1) n.1 n.2)
      (cases_lt s.end q)

-- and it is at most what it was
module _ (s : Shared) (l : Link) (r : Release) (ranges : ℕ → RangePart) (keys : ℕ → KeyPart) (row : IsRow s ranges keys) (top : IsRow s l.top_range l.top_key) (slots : (n : ℕ) → IsSlot s n → SlotLowered s r l ranges keys n) where
  fall_at : (n q : ℕ) → SlotLowered s r l ranges keys n → InSpan s n q → Below (ranges q) (keys q) (l.top_range q) (l.top_key q)
  fall_at n q (kept same) span = rw (same q span).0 (rw (same q span).1 ((omega arith, omega arith), omega arith))
  fall_at n q (cut inside low at) span = (
    below,
    ⊎_elim
        (λ (lt : q < n). let h = span.1 q (omega arith) lt in rw (row.off q h.1 h.0) (rw (top.off q h.1 h.0) (omega (arith, rank-off_slot (ranges q), rank-off_slot (l.top_range q), below))))
        (λ (le : n ≤ q). let e : n ≡ q = omega (arith, span.0) in subst (λ x. KeyAtMost (keys x) (l.top_key x)) e (rw at (omega (arith, rank-key_meet (l.top_key n) r.key)))) (cases_lt q n),
  )
    where
      below : RangeAtMost (ranges q) (l.top_range q)
      below = rw (low q span) ((omega (arith, reads-range_meet (l.top_range q) r.range), omega (arith, inserts-range_meet (l.top_range q) r.range)))

  pub cut_falls : (q : ℕ) → Below (ranges q) (keys q) (l.top_range q) (l.top_key q)
  cut_falls q = ⊎_elim
      (λ (far : s.end < q). let p = row.past q far in blank_below (ranges q) (keys q) (l.top_range q) (l.top_key q) p.0 p.1)
      (λ (near : q ≤ s.end). let n = slot_of_point s (s.end - q) q (omega arith) in fall_at n.0 q (slots n.0 n.1) n.2) (cases_lt s.end q)
