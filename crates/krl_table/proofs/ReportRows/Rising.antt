-- Lists of pieces that rise, and what is left of a report after a point.
use Rattle.krl_table.proofs.Names.{◌≡◌, ℕ, zero, suc, ◌+◌, ◌≤◌, ◌<◌, Bool, true, false, ◌&&◌, List, [], ◌∷◌, None, inl, inr, drop, slice_index_or, length, refl, sym, ap, subst, ◌∙◌, arith, ne_eqb}
use Rattle.krl_table.proofs.Names.{nat_tests, drop_all, nat_lt, if◌then◌else◌, get, END, RangePart, KeyPart, range_join, key_join, at_or_above, Bounds, meets, Pieces, Index, span_of, joined_range_over}
use Rattle.krl_table.proofs.Names.{greatest_key_at, RangesOff, KeysOff, RangesRise, KeysRise, SameRanges, SameKeys, ReportsSame, BeginsSpan, IsNextReported, NothingFrom}
use Rattle.krl_modes.specs.declared.part.RangePart.TheVariants as range
use Rattle.krl_modes.specs.declared.part.KeyPart.TheVariants as key
use Rattle.krl_messages.specs.declared.range_pieces.RangePiece.{RangePiece}
use Rattle.krl_messages.specs.declared.key_pieces.KeyPiece.{KeyPiece}
use Rattle.krl_table.proofs.ReportRows.PieceByPiece.{range_right, key_right, from_item, from_place, low_from}

-- Ranges

ranges_lower : (low less : ℕ) (xs : List RangePiece) → less ≤ low → RangesRise low xs → RangesRise less xs
ranges_lower low less [] le h = tt
ranges_lower low less (x ∷ xs) le h = (omega (arith, le, h.0), h.1)

pub ranges_tail : (x : RangePiece) (xs : List RangePiece) → RangesRise 0 (x ∷ xs) → RangesRise 0 xs
ranges_tail x xs h = ranges_lower x.span.lo 0 xs (omega arith) h.1

ranges_drop : (xs : List RangePiece) (i : ℕ) → RangesRise 0 xs → RangesRise 0 (drop i xs)
ranges_drop xs zero h = h
ranges_drop [] (suc i) h = tt
ranges_drop (x ∷ xs) (suc i) h = ranges_drop xs i (ranges_tail x xs h)

ranges_at : (xs : List RangePiece) (i : ℕ) (x : RangePiece) → i < length xs → x ≡ slice_index_or xs i x → RangesRise 0 xs → RangesRise x.span.lo (drop i xs)
ranges_at xs i x lt e h = subst (RangesRise x.span.lo) (sym (from_item xs i x lt e)) (let at : RangesRise 0 (x ∷ drop (i + 1) xs) = subst (RangesRise 0) (from_item xs i x lt e) (ranges_drop xs i h) in (omega arith, at.1))

-- spans that begin at or after a span's end don't meet it
none_behind : (low : ℕ) (xs : List RangePiece) (span : Bounds) → span.hi ≤ low → RangesRise low xs → joined_range_over xs span ≡ range.N
none_behind low [] span le h = refl
none_behind low (x ∷ xs) span le h = ap (λ t. if t then range_join x.part (joined_range_over xs span) else joined_range_over xs span) misses ∙ none_behind x.span.lo xs span (omega (arith, le, h.0)) h.1
  where
    far : nat_lt x.span.lo span.hi ≡ false
    far = let a = h.0 in grind (arith, nat_tests, le, a)

    misses : meets x.span span ≡ false
    misses = ap (λ t. t && nat_lt span.lo x.span.hi) far

no_range_from : (xs : List RangePiece) (i : ℕ) (x : RangePiece) (span : Bounds) → i < length xs → x ≡ slice_index_or xs i x → span.hi ≤ x.span.lo → RangesRise 0 xs → joined_range_over (drop i xs) span ≡ range.N
no_range_from xs i x span lt e le h = none_behind x.span.lo (drop i xs) span le (ranges_at xs i x lt e h)

pub range_stops : (xs : List RangePiece) (i : ℕ) (x : RangePiece) (span : Bounds) (part : RangePart) → i < length xs → x ≡ slice_index_or xs i x → span.hi ≤ x.span.lo → RangesRise 0 xs →
    range_join part (joined_range_over (drop i xs) span) ≡ joined_range_over xs span → part ≡ joined_range_over xs span
range_stops xs i x span part lt e le h so_far = sym (ap (range_join part) (no_range_from xs i x span lt e le h) ∙ range_right part) ∙ so_far

off_behind : (low : ℕ) (xs : List RangePiece) (at p : ℕ) → p ≤ low → RangesRise low xs → RangesOff xs at p
off_behind low [] at p le h = tt
off_behind low (x ∷ xs) at p le h = (inr (inl (omega (arith, le, h.0))), off_behind x.span.lo xs at p (omega (arith, le, h.0)) h.1)

pub ranges_off_from : (xs : List RangePiece) (i : ℕ) (x : RangePiece) (at p : ℕ) → i < length xs → x ≡ slice_index_or xs i x → p ≤ x.span.lo → RangesRise 0 xs → RangesOff (drop i xs) at p
ranges_off_from xs i x at p lt e le h = off_behind x.span.lo (drop i xs) at p le (ranges_at xs i x lt e h)

-- a span that ends at or below the point states nothing from there on
pub range_passed : (x : RangePiece) (xs : List RangePiece) (at : ℕ) → x.span.hi ≤ at → SameRanges at xs (x ∷ xs)
range_passed x xs at le span from = sym (ap (λ t. if t then range_join x.part (joined_range_over xs span) else joined_range_over xs span) (misses (nat_lt x.span.lo span.hi) (nat_lt span.lo x.span.hi) before))
  where
    before : nat_lt span.lo x.span.hi ≡ false
    before = grind (arith, nat_tests, le, from)

    misses : (s t : Bool) → t ≡ false → (s && t) ≡ false
    misses true t e = e
    misses false t e = refl

-- as far as a look at each piece has come
pub ranges_look : (xs : List RangePiece) (i : ℕ) (x : RangePiece) (low next : ℕ) → i < length xs → x ≡ slice_index_or xs i x → next ≡ x.span.lo → low ≤ next →
    (RangesRise low (drop i xs) → RangesRise 0 xs) → RangesRise next (drop (i + 1) xs) → RangesRise 0 xs
ranges_look xs i x low next lt e is le ih h = ih (subst (RangesRise low) (sym (from_item xs i x lt e)) (omega (arith, le, is), subst (λ n. RangesRise n (drop (i + 1) xs)) is h))

pub ranges_looked : (xs : List RangePiece) (i low : ℕ) → length xs ≤ i → (RangesRise low (drop i xs) → RangesRise 0 xs) → RangesRise 0 xs
ranges_looked xs i low le h = h (subst (RangesRise low) (sym (drop_all i xs le)) tt)

-- Keys

keys_lower : (low less : ℕ) (xs : List KeyPiece) → less ≤ low → KeysRise low xs → KeysRise less xs
keys_lower low less [] le h = tt
keys_lower low less (x ∷ xs) le h = (omega (arith, le, h.0), h.1)

pub keys_tail : (x : KeyPiece) (xs : List KeyPiece) → KeysRise 0 (x ∷ xs) → KeysRise 0 xs
keys_tail x xs h = keys_lower x.point 0 xs (omega arith) h.1

keys_drop : (xs : List KeyPiece) (i : ℕ) → KeysRise 0 xs → KeysRise 0 (drop i xs)
keys_drop xs zero h = h
keys_drop [] (suc i) h = tt
keys_drop (x ∷ xs) (suc i) h = keys_drop xs i (keys_tail x xs h)

keys_at : (xs : List KeyPiece) (i : ℕ) (d : KeyPiece) → i < length xs → KeysRise 0 xs → KeysRise (slice_index_or xs i d).point (drop i xs)
keys_at xs i d lt h = let x = slice_index_or xs i d in subst (KeysRise x.point) (sym (from_place xs i d lt)) (let at : KeysRise 0 (x ∷ drop (i + 1) xs) = subst (KeysRise 0) (from_place xs i d lt) (keys_drop xs i h) in (omega arith, at.1))

-- points after a point aren't that one
none_past : (low : ℕ) (xs : List KeyPiece) (p : ℕ) → p < low → KeysRise low xs → greatest_key_at xs p ≡ key.N
none_past low [] p lt h = refl
none_past low (x ∷ xs) p lt h = ap (λ t. if t then key_join x.part (greatest_key_at xs p) else greatest_key_at xs p) (ne_eqb x.point p (λ e. omega (arith, e, lt, h.0)))
    ∙ none_past x.point xs p (omega (arith, lt, h.0)) h.1

no_key_from : (xs : List KeyPiece) (i : ℕ) (d : KeyPiece) (p : ℕ) → i < length xs → p < (slice_index_or xs i d).point → KeysRise 0 xs → greatest_key_at (drop i xs) p ≡ key.N
no_key_from xs i d p lt past h = none_past (slice_index_or xs i d).point (drop i xs) p past (keys_at xs i d lt h)

pub key_stops : (xs : List KeyPiece) (i : ℕ) (d : KeyPiece) (p : ℕ) (part : KeyPart) → i < length xs → p < (slice_index_or xs i d).point → KeysRise 0 xs →
    key_join part (greatest_key_at (drop i xs) p) ≡ greatest_key_at xs p → part ≡ greatest_key_at xs p
key_stops xs i d p part lt past h so_far = sym (ap (key_join part) (no_key_from xs i d p lt past h) ∙ key_right part) ∙ so_far

off_past : (low : ℕ) (xs : List KeyPiece) (at p : ℕ) → p ≤ low → KeysRise low xs → KeysOff xs at p
off_past low [] at p le h = tt
off_past low (x ∷ xs) at p le h = (inr (omega (arith, le, h.0)), off_past x.point xs at p (omega (arith, le, h.0)) h.1)

pub keys_off_from : (xs : List KeyPiece) (i : ℕ) (d : KeyPiece) (at p : ℕ) → i < length xs → p ≤ (slice_index_or xs i d).point → KeysRise 0 xs → KeysOff (drop i xs) at p
keys_off_from xs i d at p lt le h = off_past (slice_index_or xs i d).point (drop i xs) at p le (keys_at xs i d lt h)

pub key_passed : (x : KeyPiece) (xs : List KeyPiece) (at : ℕ) → x.point < at → SameKeys at xs (x ∷ xs)
key_passed x xs at lt p from = sym (ap (λ t. if t then key_join x.part (greatest_key_at xs p) else greatest_key_at xs p) (ne_eqb x.point p (λ e. omega (arith, e, lt, from))))

pub keys_look : (xs : List KeyPiece) (i : ℕ) (d : KeyPiece) (low : ℕ) → i < length xs → low ≤ (slice_index_or xs i d).point →
    (KeysRise low (drop i xs) → KeysRise 0 xs) → KeysRise (slice_index_or xs i d).point (drop (i + 1) xs) → KeysRise 0 xs
keys_look xs i d low lt le ih h = ih (subst (KeysRise low) (sym (from_place xs i d lt)) (le, h))

pub keys_looked : (xs : List KeyPiece) (i low : ℕ) → length xs ≤ i → (KeysRise low (drop i xs) → KeysRise 0 xs) → KeysRise 0 xs
keys_looked xs i low le h = h (subst (KeysRise low) (sym (drop_all i xs le)) tt)

-- Reports

module _ (m : Index) (near : (k : ℕ) → END ≤ k → get m k ≡ None) (pieces : Pieces) where
  pub same_begins : (at : ℕ) → ReportsSame m at pieces pieces
  same_begins at n le e = refl

  -- what is left reports the same after a slot
  pub same_goes : (old new : Pieces) (at next : ℕ) → at ≤ next → BeginsSpan m next → ReportsSame m at old pieces → SameRanges next new.ranges old.ranges → SameKeys next new.keys old.keys → ReportsSame m next new pieces
  same_goes old new at next le begins same ranges keys n from e =
      (λ i. at_or_above (ranges (span_of m n) (low_from m near old next begins n from e) i) (keys n from i)) ∙ same n (omega (arith, le, from)) e

  pub next_same : (left : Pieces) (at s : ℕ) → ReportsSame m at left pieces → IsNextReported m left at s → IsNextReported m pieces at s
  next_same left at s same next = record {
    there = next.there;
    above = next.above;
    between = λ n le lt e. sym (same n le e) ∙ next.between n le lt e;
  }

  pub nothing_same : (left : Pieces) (at : ℕ) → ReportsSame m at left pieces → NothingFrom m left at → NothingFrom m pieces at
  nothing_same left at same none n le e = sym (same n le e) ∙ none n le e
