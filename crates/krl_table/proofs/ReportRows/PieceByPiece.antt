-- What is reported of a slot, piece after piece; and what a report makes of the rows, slot after slot.
use Rattle.krl_table.proofs.Names.{◌≡◌, ◌≢◌, ℕ, zero, suc, ◌+◌, ◌≤◌, ◌<◌, Bool, true, false, not, ◌&&◌, List, [], ◌∷◌, Option, Some, None, IsSome, ◌⊎◌, ◌||◌, inl, inr, drop, slice_index_or, length}
use Rattle.krl_table.proofs.Names.{refl, sym, ap, subst, ◌∙◌, ⊎_elim, arith, cases_lt, ne_eqb, nat_tests, fun_ext, drop_all, list_all, get, END, TOP, RangePart, KeyPart, Mode, range_join}
use Rattle.krl_table.proofs.Names.{key_join, at_or_above, compatible, meet, Bounds, meets, Pieces, In, Index, low_of, slots, is_slot, IsSlotOf, SlotRow, Row, Rows, blank_row, is_compatible_there}
use Rattle.krl_table.proofs.Names.{mode_at, set_mode, all_below, max_clients, is_compatible_in_row, with_mode, joined_range_over, greatest_key_at, rebuilt, conflicts, adopted, RangesOff, KeysOff}
use Rattle.krl_table.proofs.Names.{BeginsSpan, NothingFrom, IsNextReported, Kept, row_of, row_there, rows_of, IsSet, IsAll, IsOver, IsSound, AreCompatible, times, lowered_between}
use Rattle.std.proofs.Math.Seq.{drop-cons}
use Rattle.std.specs.Prelude.{nat_eq, nat_lt, if◌then◌else◌}
use Rattle.krl_modes.specs.declared.part.RangePart.TheVariants as range
use Rattle.krl_modes.specs.declared.part.KeyPart.TheVariants as key
use Rattle.krl_modes.specs.declared.mode.Mode.TheVariants as mode
use Rattle.krl_messages.specs.declared.range_pieces.RangePiece.{RangePiece}
use Rattle.krl_messages.specs.declared.key_pieces.KeyPiece.{KeyPiece}
use Rattle.krl_table.proofs.Rows.RowChanges.{eq_cases, queue_stays}
use Rattle.krl_table.proofs.Rows.Below.{clients_are}
use Rattle.krl_table.proofs.Invariant.Compatible.{set_compatible, compatible_row, mode_here}
use Rattle.krl_table.proofs.Invariant.Rooms.{Lists, slots_have, slots_are}
use Rattle.krl_table.proofs.Rows.Slots.{low_past, slot_end}
use Rattle.krl_table.proofs.Invariant.Sounds.{NoStrangers, set_strangers, set_over}
use Rattle.krl_table.proofs.Rows.Walk.{lower_keeps, lower_past, lower_here}
use Rattle.krl_modes.proofs.Basics.{not_both}

-- Pieces

pub range_assoc : (a b c : RangePart) → range_join (range_join a b) c ≡ range_join a (range_join b c)
range_assoc a b c = grind arith

pub range_left : (a : RangePart) → range_join range.N a ≡ a
range_left a = grind arith

pub range_right : (a : RangePart) → range_join a range.N ≡ a
range_right a = grind arith

key_assoc : (a b c : KeyPart) → key_join (key_join a b) c ≡ key_join a (key_join b c)
key_assoc a b c = grind arith

key_left : (a : KeyPart) → key_join key.N a ≡ a
key_left a = grind arith

pub key_right : (a : KeyPart) → key_join a key.N ≡ a
key_right a = grind arith

-- the items from the i-th on begin with it
pub from_item : {X : Type 0} (xs : List X) (i : ℕ) (x : X) → i < length xs → x ≡ slice_index_or xs i x → drop i xs ≡ x ∷ drop (i + 1) xs
from_item xs i x lt e = let one : suc i ≡ i + 1 = omega arith in drop-cons xs i x lt ∙ ap (λ y. y ∷ drop (suc i) xs) (sym e) ∙ ap (λ j. x ∷ drop j xs) one

pub from_place : {X : Type 0} (xs : List X) (i : ℕ) (d : X) → i < length xs → drop i xs ≡ slice_index_or xs i d ∷ drop (i + 1) xs
from_place xs i d lt = let one : suc i ≡ i + 1 = omega arith in drop-cons xs i d lt ∙ ap (λ j. slice_index_or xs i d ∷ drop j xs) one

pub range_begins : (xs : List RangePiece) (span : Bounds) → range_join range.N (joined_range_over xs span) ≡ joined_range_over xs span
range_begins xs span = range_left (joined_range_over xs span)

pub range_goes : (xs : List RangePiece) (i : ℕ) (d : RangePiece) (span : Bounds) (part : RangePart) → i < length xs → d ≡ slice_index_or xs i d →
    range_join (range_join part (if meets d.span span then d.part else range.N)) (joined_range_over (drop (i + 1) xs) span) ≡ range_join part (joined_range_over (drop i xs) span)
range_goes xs i d span part lt e = by_test (meets d.span span) ∙ ap (λ ys. range_join part (joined_range_over ys span)) (sym (from_item xs i d lt e))
  where
    by_test : (b : Bool) → range_join (range_join part (if b then d.part else range.N)) (joined_range_over (drop (i + 1) xs) span) ≡ range_join part (if b then range_join d.part (joined_range_over (drop (i + 1) xs) span) else joined_range_over (drop (i + 1) xs) span)
    by_test true = range_assoc part d.part (joined_range_over (drop (i + 1) xs) span)
    by_test false = ap (λ p. range_join p (joined_range_over (drop (i + 1) xs) span)) (range_right part)

pub range_ends : (xs : List RangePiece) (i : ℕ) (span : Bounds) (part : RangePart) → length xs ≤ i → range_join part (joined_range_over (drop i xs) span) ≡ part
range_ends xs i span part le = ap (λ ys. range_join part (joined_range_over ys span)) (drop_all i xs le) ∙ range_right part

pub key_begins : (xs : List KeyPiece) (p : ℕ) → key_join key.N (greatest_key_at xs p) ≡ greatest_key_at xs p
key_begins xs p = key_left (greatest_key_at xs p)

pub key_goes : (xs : List KeyPiece) (i : ℕ) (d : KeyPiece) (p : ℕ) (part : KeyPart) → i < length xs →
    key_join (key_join part (if nat_eq (slice_index_or xs i d).point p then (slice_index_or xs i d).part else key.N)) (greatest_key_at (drop (i + 1) xs) p) ≡ key_join part (greatest_key_at (drop i xs) p)
key_goes xs i d p part lt = by_test (nat_eq (slice_index_or xs i d).point p) ∙ ap (λ ys. key_join part (greatest_key_at ys p)) (sym (from_place xs i d lt))
  where
    by_test : (b : Bool) → key_join (key_join part (if b then (slice_index_or xs i d).part else key.N)) (greatest_key_at (drop (i + 1) xs) p) ≡ key_join part (if b then key_join (slice_index_or xs i d).part (greatest_key_at (drop (i + 1) xs) p) else greatest_key_at (drop (i + 1) xs) p)
    by_test true = key_assoc part (slice_index_or xs i d).part (greatest_key_at (drop (i + 1) xs) p)
    by_test false = ap (λ x. key_join x (greatest_key_at (drop (i + 1) xs) p)) (key_right part)

pub key_ends : (xs : List KeyPiece) (i : ℕ) (p : ℕ) (part : KeyPart) → length xs ≤ i → key_join part (greatest_key_at (drop i xs) p) ≡ part
key_ends xs i p part le = ap (λ ys. key_join part (greatest_key_at ys p)) (drop_all i xs le) ∙ key_right part

-- What lies before the next piece

pub ranges_begin : (xs : List RangePiece) (at next : ℕ) → (r : ℕ) → r ≤ next → RangesOff (drop 0 xs) at r → RangesOff xs at r
ranges_begin xs at next r le h = h

pub ranges_go : (xs : List RangePiece) (i : ℕ) (x : RangePiece) (at next v new : ℕ) → i < length xs → x ≡ slice_index_or xs i x → new ≤ next → new ≤ v →
    ((r : ℕ) → r ≤ v → (x.span.hi ≤ at) ⊎ ((r ≤ x.span.lo) ⊎ (r ≤ at))) → ((r : ℕ) → r ≤ next → RangesOff (drop i xs) at r → RangesOff xs at r) → (r : ℕ) → r ≤ new → RangesOff (drop (i + 1) xs) at r → RangesOff xs at r
ranges_go xs i x at next v new lt e a b off ih r le h = ih r (omega (arith, le, a)) (subst (λ ys. RangesOff ys at r) (sym (from_item xs i x lt e)) (off r (omega (arith, le, b)), h))

pub ranges_end : (xs : List RangePiece) (i at next : ℕ) → length xs ≤ i → ((r : ℕ) → r ≤ next → RangesOff (drop i xs) at r → RangesOff xs at r) → RangesOff xs at next
ranges_end xs i at next le h = h next (omega arith) (subst (λ ys. RangesOff ys at next) (sym (drop_all i xs le)) tt)

pub keys_begin : (xs : List KeyPiece) (at next : ℕ) → (r : ℕ) → r ≤ next → KeysOff (drop 0 xs) at r → KeysOff xs at r
keys_begin xs at next r le h = h

pub keys_go : (xs : List KeyPiece) (i : ℕ) (d : KeyPiece) (at next v new : ℕ) → i < length xs → new ≤ next → new ≤ v →
    ((r : ℕ) → r ≤ v → ((slice_index_or xs i d).point < at) ⊎ (r ≤ (slice_index_or xs i d).point)) → ((r : ℕ) → r ≤ next → KeysOff (drop i xs) at r → KeysOff xs at r) → (r : ℕ) → r ≤ new → KeysOff (drop (i + 1) xs) at r → KeysOff xs at r
keys_go xs i d at next v new lt a b off ih r le h = ih r (omega (arith, le, a)) (subst (λ ys. KeysOff ys at r) (sym (from_place xs i d lt)) (off r (omega (arith, le, b)), h))

pub keys_end : (xs : List KeyPiece) (i at next : ℕ) → length xs ≤ i → ((r : ℕ) → r ≤ next → KeysOff (drop i xs) at r → KeysOff xs at r) → KeysOff xs at next
keys_end xs i at next le h = h next (omega arith) (subst (λ ys. KeysOff ys at next) (sym (drop_all i xs le)) tt)

-- a nearer end
pub ranges_nearer : (xs : List RangePiece) (at p q : ℕ) → q ≤ p → RangesOff xs at p → RangesOff xs at q
ranges_nearer [] at p q le h = tt
ranges_nearer (x ∷ xs) at p q le h = (⊎_elim (λ (a : x.span.hi ≤ at). inl a) (λ (a : (p ≤ x.span.lo) ⊎ (p ≤ at)). inr (⊎_elim (λ (b : p ≤ x.span.lo). inl (omega (arith, b, le))) (λ (b : p ≤ at). inr (omega (arith, b, le))) a)) h.0, ranges_nearer xs at p q le h.1)

-- a span that lies there meets no piece
no_range : (xs : List RangePiece) (at p low n : ℕ) → at ≤ low → low ≤ n → n < p → RangesOff xs at p → joined_range_over xs (let s : Bounds = record { lo = low; hi = suc n } in s) ≡ range.N
no_range [] at p low n a b lt h = refl
no_range (x ∷ xs) at p low n a b lt h = ap (λ t. if t then range_join x.part (joined_range_over xs (let s : Bounds = record { lo = low; hi = suc n } in s)) else joined_range_over xs (let s : Bounds = record { lo = low; hi = suc n } in s)) misses ∙ no_range xs at p low n a b lt h.1
  where
    behind : x.span.hi ≤ at → nat_lt low x.span.hi ≡ false
    behind e = grind (arith, nat_tests, e, a)

    before : (p ≤ x.span.lo) ⊎ (p ≤ at) → nat_lt x.span.lo (suc n) ≡ false
    before (inl e) = grind (arith, nat_tests, e, lt)
    before (inr e) = absurd (omega (arith, e, lt, a, b))

    and_no : (s t : Bool) → t ≡ false → (s && t) ≡ false
    and_no true t e = e
    and_no false t e = refl

    misses : meets x.span (let s : Bounds = record { lo = low; hi = suc n } in s) ≡ false
    misses = ⊎_elim
        (λ (e : x.span.hi ≤ at). and_no (nat_lt x.span.lo (suc n)) (nat_lt low x.span.hi) (behind e))
        (λ (e : (p ≤ x.span.lo) ⊎ (p ≤ at)). ap (λ t. t && nat_lt low x.span.hi) (before e)) h.0

no_key : (xs : List KeyPiece) (at p n : ℕ) → at ≤ n → n < p → KeysOff xs at p → greatest_key_at xs n ≡ key.N
no_key [] at p n a lt h = refl
no_key (x ∷ xs) at p n a lt h = ap (λ t. if t then key_join x.part (greatest_key_at xs n) else greatest_key_at xs n)
    (ne_eqb x.point n (λ e. ⊎_elim (λ (b : x.point < at). omega (arith, b, e, a)) (λ (b : p ≤ x.point). omega (arith, b, e, lt)) h.0)) ∙ no_key xs at p n a lt h.1

module _ (m : Index) (near : (k : ℕ) → END ≤ k → get m k ≡ None) (pieces : Pieces) (at : ℕ) (begins : BeginsSpan m at) where
  pub low_from : (n : ℕ) → at ≤ n → is_slot m n ≡ true → at ≤ low_of m n
  low_from n le e = ⊎_elim
      (λ (z : at ≡ 0). omega (arith, z))
      (λ (x : (k : ℕ) × (at ≡ suc k) × (is_slot m k ≡ true)). let is = x.1 in let a = low_past m near x.0 n x.2 (omega (arith, is, le)) (slot_end m near n e) in omega (arith, a, is)) begins

  pub nothing_there : (p n : ℕ) → at ≤ n → n < p → is_slot m n ≡ true → RangesOff pieces.ranges at p → KeysOff pieces.keys at p → rebuilt m pieces n ≡ mode.N
  nothing_there p n le lt e r k = (λ i. at_or_above (no_range pieces.ranges at p (low_of m n) n (low_from n le e) (Rattle.krl_table.proofs.Rows.Slots.low_under m n) lt r i) (no_key pieces.keys at p n le lt k i))

  pub next_reported : (p s : ℕ) → at ≤ p → p ≤ END → IsSlotOf m p s → RangesOff pieces.ranges at p → KeysOff pieces.keys at p → IsNextReported m pieces at s
  next_reported p s a le next r k = record {
    there = next.slot;
    above = let b = next.above in omega (arith, a, b);
    between = λ n b lt e. ⊎_elim
        (λ (c : n < p). nothing_there p n b c e r k)
        (λ (c : p ≤ n). absurd (not_both (is_slot m n) e (next.least n c lt))) (cases_lt n p);
  }

  pub nothing_more : (p : ℕ) → END < p → RangesOff pieces.ranges at p → KeysOff pieces.keys at p → NothingFrom m pieces at
  nothing_more p far r k n le e = nothing_there p n le (let end = slot_end m near n e in omega (arith, end, far)) e r k

pub begins_zero : (m : Index) → BeginsSpan m 0
begins_zero m = inl refl

pub begins_past_slot : (m : Index) (s : ℕ) → is_slot m s ≡ true → BeginsSpan m (s + 1)
begins_past_slot m s e = inr (s, omega arith, e)

-- All slots

all_true : (p : ℕ → Bool) (ns : List ℕ) → ((n : ℕ) → Lists n ns → p n ≡ true) → list_all p ns ≡ true
all_true p [] h = refl
all_true p (n ∷ ns) h = ap (λ b. b && list_all p ns) (h n (inl refl)) ∙ all_true p ns (λ k at. h k (inr at))

all_at : (p : ℕ → Bool) (ns : List ℕ) (n : ℕ) → list_all p ns ≡ true → Lists n ns → p n ≡ true
all_at p [] n e at = absurd at
all_at p (x ∷ xs) n e at = by_test (p x) refl e (λ h k. all_at p xs n h k) at
  where
    by_test : (b : Bool) → p x ≡ b → (b && list_all p xs) ≡ true → (list_all p xs ≡ true → Lists n xs → p n ≡ true) → Lists n (x ∷ xs) → p n ≡ true
    by_test true f h ih (inl g) = ap p g ∙ f
    by_test true f h ih (inr k) = ih h k
    by_test false f h ih k = absurd (cc)

abbrev pub AreAllCompatible : Index → Rows → ℕ → Pieces → Type 0
AreAllCompatible m rows c pieces = (n : ℕ) → is_slot m n ≡ true →
    is_compatible_there rows n c (rebuilt m pieces n) ≡ true

pub no_conflict : (m : Index) (rows : Rows) (c : ℕ) (pieces : Pieces) → AreAllCompatible m rows c pieces → conflicts m rows c pieces ≡ false
no_conflict m rows c pieces h = ap not (all_true (λ n. is_compatible_there rows n c (rebuilt m pieces n)) (slots m) (λ n at. h n (slots_are m n at)))

pub compatible_all : (m : Index) (rows : Rows) (c : ℕ) (pieces : Pieces) → conflicts m rows c pieces ≡ false → AreAllCompatible m rows c pieces
compatible_all m rows c pieces e n slot = all_at (λ n. is_compatible_there rows n c (rebuilt m pieces n)) (slots m) n (not_false (list_all (λ n. is_compatible_there rows n c (rebuilt m pieces n)) (slots m)) e) (slots_have m n slot)
  where
    not_false : (b : Bool) → not b ≡ false → b ≡ true
    not_false true e = refl
    not_false false e = absurd (cc)

-- what holds below a point holds up to the next slot of which something is reported
pub one_further : (m : Index) (pieces : Pieces) (P : ℕ → Type 0) (at s : ℕ) → IsNextReported m pieces at s → ((n : ℕ) → n < at → is_slot m n ≡ true → P n) → ((n : ℕ) → at ≤ n → rebuilt m pieces n ≡ mode.N → P n) → P s → (n : ℕ) → n < s + 1 → is_slot m n ≡ true → P n
one_further m pieces P at s next below none here n lt e = eq_cases n s (λ f. subst P (sym f) here)
    (λ ne. ⊎_elim (λ (a : n < at). below n a e) (λ (a : at ≤ n). none n a (next.between n a (omega (arith, lt, ne)) e)) (cases_lt n at))

-- N is compatible with every mode
none_first : (g : Mode) → compatible mode.N g ≡ true
none_first g = grind arith

pub none_is_compatible : (rows : Rows) (n c : ℕ) (g : Mode) → g ≡ mode.N → is_compatible_there rows n c g ≡ true
none_is_compatible rows n c g e = ap (is_compatible_there rows n c) e ∙ all_yes max_clients (λ d. nat_eq d c || compatible mode.N ((rows n).modes d)) (λ d. ap (λ b. nat_eq d c || b) (none_first ((rows n).modes d)) ∙ or_yes (nat_eq d c))
  where
    or_yes : (b : Bool) → (b || true) ≡ true
    or_yes true = refl
    or_yes false = refl

    all_yes : (k : ℕ) (f : ℕ → Bool) → ((d : ℕ) → f d ≡ true) → all_below k f ≡ true
    all_yes zero f h = refl
    all_yes (suc k) f h = ap (λ b. b && all_below k f) (h k) ∙ all_yes k f h

-- a client that holds nothing still holds nothing
still_none : (row : Row) (c : ℕ) (g : Mode) → row.modes c ≡ mode.N → g ≡ mode.N → row ≡ with_mode row c g
still_none row c g free e = λ i. record { modes = fun_ext (λ (d : ℕ). by_test d (nat_eq d c) refl) i; queue = row.queue }
  where
    by_test : (d : ℕ) (b : Bool) → nat_eq d c ≡ b → row.modes d ≡ set_mode row.modes c g d
    by_test d true f = ap row.modes (Rattle.std.proofs.Common.eqb-true d c f) ∙ free ∙ sym e ∙ sym (ap (λ b. if b then g else row.modes d) f)
    by_test d false f = sym (ap (λ b. if b then g else row.modes d) f)

-- The rows

-- the slots below the point have what is reported, and the others are as they were
pub record IsSettled (m : Index) (c : ℕ) (pieces : Pieces) (old new : Kept) (at : ℕ) : Type 0 where
  pub begins : BeginsSpan m at
  pub end : at ≤ END + 1
  pub done : (n : ℕ) → n < at → is_slot m n ≡ true → rows_of new n ≡ with_mode (rows_of old n) c (rebuilt m pieces n)
  pub rest : (n : ℕ) → at ≤ n → get new n ≡ get old n
  pub off : (n : ℕ) → is_slot m n ≡ false → get new n ≡ get old n
  pub used : (n : ℕ) (r : SlotRow) → get new n ≡ Some r → row_of r ≢ blank_row
  pub over : IsOver m new

pub settle_begins : (m : Index) (c : ℕ) (pieces : Pieces) (old : Kept) → IsOver m old → ((n : ℕ) (r : SlotRow) → get old n ≡ Some r → row_of r ≢ blank_row) → IsSettled m c pieces old old 0
settle_begins m c pieces old over used = record {
  begins = begins_zero m;
  end = omega arith;
  done = λ n lt. absurd (omega (arith, lt));
  rest = λ n le. refl;
  off = λ n e. refl;
  used = used;
  over = over;
}

module _ (m : Index) (c : ℕ) (pieces : Pieces) (old new : Kept) (at : ℕ) (w : IsSettled m c pieces old new at) (free : (n : ℕ) → mode_at (rows_of old) n c ≡ mode.N) where
  as_it_was : (n : ℕ) → at ≤ n → rebuilt m pieces n ≡ mode.N → rows_of new n ≡ with_mode (rows_of old n) c (rebuilt m pieces n)
  as_it_was n le e = ap row_there (w.rest n le) ∙ still_none (rows_of old n) c (rebuilt m pieces n) (free n) e

  pub settle_goes : (u : Kept) (s : ℕ) → IsNextReported m pieces at s → IsSet new u s (with_mode (rows_of new s) c (rebuilt m pieces s)) → IsSettled m c pieces old u (s + 1)
  settle_goes u s next set = record {
    begins = begins_past_slot m s next.there;
    end = let le = slot_end m w.over.near s next.there in omega (arith, le);
    done = λ n lt e. eq_cases n s
        (λ f. subst (λ k. rows_of u k ≡ with_mode (rows_of old k) c (rebuilt m pieces k)) (sym f) (set.here ∙ ap (λ r. with_mode r c (rebuilt m pieces s)) (ap row_there (w.rest s next.above))))
        (λ ne. ap row_there (set.others n ne) ∙ ⊎_elim (λ (a : n < at). w.done n a e) (λ (a : at ≤ n). as_it_was n a (next.between n a (omega (arith, lt, ne)) e)) (cases_lt n at));
    rest = λ n le. set.others n (λ f. omega (arith, f, le)) ∙ w.rest n (let a = next.above in omega (arith, a, le));
    off = λ n e. set.others n (λ f. not_both (is_slot m n) (ap (is_slot m) f ∙ next.there) e) ∙ w.off n e;
    used = λ n r e. eq_cases n s (λ f. set.used r (ap (get u) (sym f) ∙ e)) (λ ne. w.used n r (sym (set.others n ne) ∙ e));
    over = set_over new u s (with_mode (rows_of new s) c (rebuilt m pieces s)) set m w.over next.there (λ v x. (w.over.points s v x, w.over.placed s v x));
  }

  pub settle_ends : NothingFrom m pieces at → (n : ℕ) → rows_of new n ≡ adopted m (rows_of old) c pieces n
  settle_ends none n = by_slot (is_slot m n) refl
    where
      by_slot : (b : Bool) → is_slot m n ≡ b → rows_of new n ≡ (if is_slot m n then with_mode (rows_of old n) c (rebuilt m pieces n) else rows_of old n)
      by_slot true e = ⊎_elim (λ (a : n < at). w.done n a e) (λ (a : at ≤ n). as_it_was n a (none n a e)) (cases_lt n at) ∙ sym (ap (λ b. if b then with_mode (rows_of old n) c (rebuilt m pieces n) else rows_of old n) e)
      by_slot false e = ap row_there (w.off n e) ∙ sym (ap (λ b. if b then with_mode (rows_of old n) c (rebuilt m pieces n) else rows_of old n) e)

-- A client whose modes went before has what it would have

module _ (m : Index) (c : ℕ) (pieces : Pieces) (t v : Kept) (over : IsOver m t) (lowered : (n : ℕ) → is_slot m n ≡ true → rows_of v n ≡ with_mode (rows_of t n) c mode.N) (off : (n : ℕ) → is_slot m n ≡ false → rows_of v n ≡ rows_of t n) where
  twice : (modes : ℕ → Mode) (g : Mode) → set_mode (set_mode modes c mode.N) c g ≡ set_mode modes c g
  twice modes g = fun_ext (λ (d : ℕ). by_test d (nat_eq d c))
    where
      by_test : (d : ℕ) (b : Bool) → (if b then g else (if b then mode.N else modes d)) ≡ (if b then g else modes d)
      by_test d true = refl
      by_test d false = refl

  pub adopted_same : (n : ℕ) → adopted m (rows_of v) c pieces n ≡ adopted m (rows_of t) c pieces n
  adopted_same n = by_slot (is_slot m n) refl
    where
      by_slot : (b : Bool) → is_slot m n ≡ b → (if is_slot m n then with_mode (rows_of v n) c (rebuilt m pieces n) else rows_of v n) ≡ (if is_slot m n then with_mode (rows_of t n) c (rebuilt m pieces n) else rows_of t n)
      by_slot true e = (λ i. if e i then with_mode (lowered n e i) c (rebuilt m pieces n) else lowered n e i)
          ∙ (λ i. record { modes = twice (rows_of t n).modes (rebuilt m pieces n) i; queue = (rows_of t n).queue })
          ∙ sym (ap (λ b. if b then with_mode (rows_of t n) c (rebuilt m pieces n) else rows_of t n) e)
      by_slot false e = (λ i. if e i then with_mode (rows_of v n) c (rebuilt m pieces n) else rows_of v n) ∙ off n e
          ∙ sym (ap (λ b. if b then with_mode (rows_of t n) c (rebuilt m pieces n) else rows_of t n) e)

module _ (m : Index) (c : ℕ) (pieces : Pieces) (t u : Kept) (client : c < 64) (sound : IsSound t) (made : (n : ℕ) → rows_of u n ≡ adopted m (rows_of t) c pieces n) where
  by_row : (n : ℕ) (P : Row → Type 0) → P (rows_of t n) → (is_slot m n ≡ true → P (with_mode (rows_of t n) c (rebuilt m pieces n))) → P (rows_of u n)
  by_row n P same new = subst P (sym (made n)) (by_slot (is_slot m n) refl)
    where
      by_slot : (b : Bool) → is_slot m n ≡ b → P (if b then with_mode (rows_of t n) c (rebuilt m pieces n) else rows_of t n)
      by_slot true e = new e
      by_slot false e = same

  pub adopted_queue : (n : ℕ) → (rows_of u n).queue ≡ (rows_of t n).queue
  adopted_queue n = ap (λ (r : Row). r.queue) (made n) ∙ queue_stays (is_slot m n) (rows_of t n) c (rebuilt m pieces n)

  pub adopted_sound : AreAllCompatible m (rows_of t) c pieces → IsOver m u → ((n : ℕ) (r : SlotRow) → get u n ≡ Some r → row_of r ≢ blank_row) → IsSound u
  adopted_sound fit over used = record {
    near = λ n lt. none_far n lt (get u n) refl;
    used = used;
    strangers = λ n. by_row n NoStrangers (sound.strangers n) (λ e. set_strangers (rows_of t n).modes c (rebuilt m pieces n) client (sound.strangers n));
    beside = λ n. by_row n (λ r. AreCompatible r.modes) (sound.beside n)
        (λ e. set_compatible (rows_of t n).modes c (rebuilt m pieces n) (sound.beside n)
        (compatible_row (rows_of t n) c (rebuilt m pieces n) (λ d le. sound.strangers n d (let many = clients_are in omega (arith, le, many))) (fit n e)));
    clients = λ n v at. sound.clients n v (subst (In v) (adopted_queue n) at);
    alone = λ d i j ne. let x = sound.alone d i j ne in let a = ap (times d) (adopted_queue i) in let b = ap (times d) (adopted_queue j) in omega (arith, x, a, b);
  }
    where
      none_far : (n : ℕ) → END < n → (o : Option SlotRow) → get u n ≡ o → get u n ≡ None
      none_far n lt None e = e
      none_far n lt (Some r) e = absurd (let le = slot_end m over.near n (over.within n (subst IsSome (sym e) refl)) in omega (arith, le, lt))

-- What a walk that lowers all of a client's modes to N leaves

meet_none : (g : Mode) → meet g mode.N ≡ mode.N
meet_none g = grind arith

module _ (c : ℕ) (t v : Kept) (sound : IsSound t) (made : IsAll (lowered_between 0 TOP c mode.N) t v) where
  -- the client holds nothing
  pub emptied_at : (n : ℕ) → mode_at (rows_of v) n c ≡ mode.N
  emptied_at n = ⊎_elim
      (λ (lt : n < TOP). ap (λ (r : Row). r.modes c) (made.rows n ∙ lower_here 0 TOP c mode.N n (rows_of t n) (omega arith) lt) ∙ mode_here (rows_of t n).modes c (meet (mode_at (rows_of t) n c) mode.N) ∙ meet_none (mode_at (rows_of t) n c))
      (λ (le : TOP ≤ n). ap (λ (r : Row). r.modes c) (made.rows n ∙ lower_past 0 TOP c mode.N n (rows_of t n) le) ∙ ap (λ o. (row_there o).modes c) (sound.near n (omega (arith, le))))
      (cases_lt n TOP)

module _ (c : ℕ) (t v : Kept) (made : IsAll (lowered_between 0 TOP c mode.N) t v) (m : Index) where
  pub emptied_off : IsOver m t → (n : ℕ) → is_slot m n ≡ true → rows_of v n ≡ with_mode (rows_of t n) c mode.N
  emptied_off over n e = made.rows n ∙ lower_here 0 TOP c mode.N n (rows_of t n) (omega arith) (let le = slot_end m over.near n e in omega (arith, le)) ∙ ap (with_mode (rows_of t n) c) (meet_none (mode_at (rows_of t) n c))

  pub blank_off : IsOver m t → (n : ℕ) → is_slot m n ≡ false → rows_of v n ≡ rows_of t n
  blank_off over n e = made.rows n ∙ ap (lowered_between 0 TOP c mode.N n) (no_row (get t n) refl) ∙ lower_keeps 0 TOP c mode.N n ∙ sym (no_row (get t n) refl)
    where
      no_row : (o : Option SlotRow) → get t n ≡ o → rows_of t n ≡ blank_row
      no_row None f = ap row_there f
      no_row (Some r) f = absurd (not_both (is_slot m n) (over.within n (subst IsSome (sym f) refl)) e)

  -- the other clients' modes are as before, so what fits still does
  pub emptied_is_compatible : ((n : ℕ) → END ≤ n → get m n ≡ None) → (pieces : Pieces) → AreAllCompatible m (rows_of t) c pieces → AreAllCompatible m (rows_of v) c pieces
  emptied_is_compatible near pieces h n e = subst (λ (r : Row). is_compatible_in_row r c (rebuilt m pieces n) ≡ true)
      (sym (made.rows n ∙ lower_here 0 TOP c mode.N n (rows_of t n) (omega arith) (let le = slot_end m near n e in omega (arith, le))))
      (ap (λ f. all_below max_clients f) (fun_ext (λ (d : ℕ). by_test d (nat_eq d c))) ∙ h n e)
    where
      by_test : (d : ℕ) (b : Bool) → (b || compatible (rebuilt m pieces n) (if b then meet (mode_at (rows_of t) n c) mode.N else mode_at (rows_of t) n d)) ≡ (b || compatible (rebuilt m pieces n) (mode_at (rows_of t) n d))
      by_test d true = refl
      by_test d false = refl
