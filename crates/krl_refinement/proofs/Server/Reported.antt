-- What a report makes of its client's column, for the machine.
use Rattle.krl_refinement.proofs.Names.{◌≡◌, ℕ, ◌≤◌, ◌<◌, Bool, true, false, List, [], ◌∷◌, None, refl, ap, ◌∙◌, arith, eq-eqb, nat_tests, if◌then◌else◌, AllByRecursion, END, RangePart, range_join}
use Rattle.krl_refinement.proofs.Names.{Bounds, contains, meets, IsWhole, meets-points, inside_span, in_span, Pieces, Index, span_of, is_slot, Rows, Row, column, set_mode, joined_range_over, rebuilt}
use Rattle.krl_refinement.proofs.Names.{adopted, joined_range_at, RangeAtMost, Phase, IsSlot, IsRebuilt, join_left, join_right, join_least, slot_near, report_rebuilds, span_here, is_slot_false, report_of}
use Rattle.std.specs.FinMap as map
use Rattle.krl_messages.specs.declared.range_pieces.RangePiece.{RangePiece}
use Rattle.krl_machine.specs.Tables as machine
use Rattle.krl_refinement.proofs.Server.Meaning.{seen_in}

join_both : (a b d : RangePart) → RangeAtMost b d → RangeAtMost (range_join a b) (range_join a d)
join_both a b d h = let x = join_right a d in join_least a b (range_join a d) (join_left a d) (omega (arith, h, x), omega (arith, h, x))

-- what is stated of a point of the span is at most what is reported of the span
said_below : (xs : List RangePiece) (span : Bounds) (q : ℕ) → span.lo ≤ q → q < span.hi → RangeAtMost (joined_range_at xs q) (joined_range_over xs span)
said_below [] span q a b = (omega arith, omega arith)
said_below (x ∷ xs) span q a b = by_test (contains x.span q) (meets x.span span) refl refl (said_below xs span q a b)
  where
    by_test : (i j : Bool) → contains x.span q ≡ i → meets x.span span ≡ j → RangeAtMost (joined_range_at xs q) (joined_range_over xs span) → RangeAtMost (if i then range_join x.part (joined_range_at xs q) else joined_range_at xs q) (if j then range_join x.part (joined_range_over xs span) else joined_range_over xs span)
    by_test true true e f ih = join_both x.part (joined_range_at xs q) (joined_range_over xs span) ih
    by_test true false e f ih = let p = inside_span x.span q e in absurd (let t : meets x.span span ≡ true = grind (arith, nat_tests) in cc)
    by_test false true e f ih = let r = join_right x.part (joined_range_over xs span) in (omega (arith, ih, r), omega (arith, ih, r))
    by_test false false e f ih = ih

said_more : (x : RangePiece) (xs : List RangePiece) (q : ℕ) → RangeAtMost (joined_range_at xs q) (joined_range_at (x ∷ xs) q)
said_more x xs q = by_test (contains x.span q)
  where
    by_test : (i : Bool) → RangeAtMost (joined_range_at xs q) (if i then range_join x.part (joined_range_at xs q) else joined_range_at xs q)
    by_test true = join_right x.part (joined_range_at xs q)
    by_test false = (omega arith, omega arith)

-- a part that is at least what is stated of each point of the span is at least what is reported of the span
reported_least : (xs : List RangePiece) (span : Bounds) (a : RangePart) → IsWhole span → AllByRecursion (λ x. IsWhole x.span) xs → ((q : ℕ) → span.lo ≤ q → q < span.hi → RangeAtMost (joined_range_at xs q) a) → RangeAtMost (joined_range_over xs span) a
reported_least [] span a some whole h = (omega arith, omega arith)
reported_least (x ∷ xs) span a some whole h = by_test (meets x.span span) refl (reported_least xs span a some whole.1 (λ q b c. let m = said_more x xs q in let t = h q b c in (omega (arith, m, t), omega (arith, m, t))))
  where
    said_here : (q : ℕ) → x.span.lo ≤ q → q < x.span.hi → RangeAtMost x.part (joined_range_at (x ∷ xs) q)
    said_here q b c = rw (in_span x.span q b c) (join_left x.part (joined_range_at xs q))

    by_test : (j : Bool) → meets x.span span ≡ j → RangeAtMost (joined_range_over xs span) a → RangeAtMost (if j then range_join x.part (joined_range_over xs span) else joined_range_over xs span) a
    by_test true f ih =
        let p = (meets-points x.span span whole.0 some).0 f in
        let t = h p.0 p.1.1.0 p.1.1.1 in let s = said_here p.0 p.1.0.0 p.1.0.1 in
        join_least x.part (joined_range_over xs span) a (omega (arith, t, s), omega (arith, t, s)) ih
    by_test false f ih = ih

module _ (m : Index) (epoch : ℕ) (phase : Phase) (near : (q : ℕ) → END ≤ q → map.get m q ≡ None) (rows : Rows) (c inc said_in : ℕ) (pieces : Pieces) (whole : AllByRecursion (λ x. IsWhole x.span) pieces.ranges) where
  -- on a slot the client has the rebuilt mode
  pub adopted_at : (n : ℕ) → IsSlot (seen_in m epoch phase) n → (b : Bool) → is_slot m n ≡ b → column (adopted m rows c pieces) c n ≡ rebuilt m pieces n
  adopted_at n slot true e = ap (λ b. (if b then (let r : Row = record (rows n) { modes = set_mode (rows n).modes c (rebuilt m pieces n) } in r) else rows n).modes c) e ∙ ap (λ b. if b then rebuilt m pieces n else (rows n).modes c) (eq-eqb c c refl)
  adopted_at n slot false e = let x = is_slot_false m near n e in absurd (slot x.0 x.1)

  pub report_shown : IsRebuilt (seen_in m epoch phase) (report_of inc said_in pieces) (machine.range_at (seen_in m epoch phase) (column (adopted m rows c pieces) c)) (machine.key_at (seen_in m epoch phase) (column (adopted m rows c pieces) c))
  report_shown = report_rebuilds (seen_in m epoch phase) near (report_of inc said_in pieces) (column (adopted m rows c pieces) c) (λ n. joined_range_over pieces.ranges (span_of m n))
      (λ n q slot span. let x = (span_here m near n q (slot_near (seen_in m epoch phase) near n slot)).0 span in said_below pieces.ranges (span_of m n) q x.0 (omega (arith, x.1)))
      (λ n a slot h.
      let high = slot_near (seen_in m epoch phase) near n slot in
      let self = (span_here m near n n high).0 (omega arith, λ k a b. absurd (omega arith)) in
      reported_least pieces.ranges (span_of m n) a (omega (arith, self.0)) whole (λ q b d. h q ((span_here m near n q high).1 (b, omega (arith, d)))))
      (λ n slot. adopted_at n slot (is_slot m n) refl)
