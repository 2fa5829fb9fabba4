-- Several holdings that are taken over at once.
use Rattle.krl_cache.proofs.Names.{◌≡◌, ◌≢◌, ◌⊎◌, inl, inr, ℕ, suc, ◌-◌, ◌≤◌, ◌<◌, Bool, true, false, ◌||◌, cond, List, [], ◌∷◌, Option, None, Some, IsSome, refl, sym, ap, subst, ◌∙◌, arith}
use Rattle.krl_cache.proofs.Names.{eqb-true, AllByRecursion, BTreeMap, nat_tests, eqb_tells, TOP, RangePart, KeyPart, reads_key, range_of, key_of, Bounds, contains, Holding, has_its_value, IsBefore}
use Rattle.krl_cache.proofs.Names.{Ascend, have_values, Entry, is_span, is_last, adopt_all, belief_by, lies_in, own_entry, at, part_at, Maps, AreMapsKept, AreStartsMerged, BeginsAnew, EndsAlike}
use Rattle.krl_cache.proofs.Names.{KeepsParts, HasEnds, IsUndone, CanUndo, parts_after, entries_after, is_slot_of, is_end_of, AreMergedBetween, CanUndoBoth, AreReady, HasRoom}
use Rattle.std.specs.Prelude.{nat_eq, nat_lt, nat_le, if◌then◌else◌}
use Rattle.std.proofs.lemmas.Bool.{and_parts, or_parts, ltb-true, leb-true}
use Rattle.krl_cache.proofs.Effects.{adopts}
use Rattle.krl_cache.proofs.Starts.{IsMarked, part_marked}
use Rattle.krl_cache.proofs.Marks.{some_of, restored}
use Rattle.krl_cache.proofs.Spans.{part_made, filled}
use Rattle.krl_cache.proofs.Mapped.{read_entry}
use Rattle.krl_cache.proofs.Merges.{anew_still, anew_kept, anew_filled}

abbrev pub AreSpans : List Holding → Type 0
AreSpans hs = AllByRecursion (λ h. is_span h.span ≡ true) hs

pub span_is : (s : Bounds) → is_span s ≡ true → (s.lo < s.hi) × (s.hi ≤ TOP)
span_is s e = let x = and_parts (nat_lt s.lo s.hi) (nat_le s.hi TOP) e in (ltb-true s.lo s.hi x.0, leb-true s.hi TOP x.1)

-- What is believed

pub several_believed : (hs : List Holding) (old : ℕ → RangePart) (was : ℕ → Option Entry) → have_values hs ≡ true → belief_by (λ p. parts_after hs p (old p)) (λ p. entries_after hs p (was p)) ≡ adopt_all hs (belief_by old was)
several_believed [] old was rules = refl
several_believed (h ∷ hs) old was rules =
    let x = and_parts (has_its_value h) (have_values hs) rules in
    several_believed hs (λ p. if contains h.span p then range_of h.mode else old p) (λ p. if contains h.span p then (if is_last h.span p then own_entry h else None) else was p) x.1
    ∙ ap (adopt_all hs) (adopts h old (λ p. if contains h.span p then range_of h.mode else old p) was (λ p. if contains h.span p then (if is_last h.span p then own_entry h else None) else was p) x.0 (λ p. refl) (λ p. refl))

pub believed_by : (hs : List Holding) (old new : ℕ → RangePart) (was is : ℕ → Option Entry) → have_values hs ≡ true → ((p : ℕ) → new p ≡ parts_after hs p (old p)) → ((p : ℕ) → is p ≡ entries_after hs p (was p)) → belief_by new is ≡ adopt_all hs (belief_by old was)
believed_by hs old new was is rules r e =
    (λ i. belief_by (λ p. r p i) (λ p. e p i)) ∙ several_believed hs old was rules

-- Entries that only make room

last_within : (lo hi p : ℕ) → lo < hi → nat_eq (suc p) hi ≡ true → lies_in lo hi p ≡ true
last_within lo hi p l e = grind (arith, nat_tests)

slot_over : (hs : List Holding) → AreSpans hs → (p : ℕ) (a b : Option Entry) → is_slot_of hs p ≡ true → entries_after hs p a ≡ entries_after hs p b
slot_over [] s p a b e = absurd (let bad : false ≡ true = e in cc)
slot_over (h ∷ hs) s p a b e = by_test (is_last h.span p) refl (slot_over hs s.1 p)
  where
    made : Option Entry → Option Entry
    made o = if contains h.span p then (if is_last h.span p then own_entry h else None) else o

    by_test : (t : Bool) → is_last h.span p ≡ t → ((a b : Option Entry) → is_slot_of hs p ≡ true → entries_after hs p a ≡ entries_after hs p b) → entries_after hs p (made a) ≡ entries_after hs p (made b)
    by_test true f ih = let here = last_within h.span.lo h.span.hi p (span_is h.span s.0).0 f in
        ap (λ (c : Bool). entries_after hs p (if c then (if is_last h.span p then own_entry h else None) else a)) here
        ∙ sym (ap (λ (c : Bool). entries_after hs p (if c then (if is_last h.span p then own_entry h else None) else b)) here)
    by_test false f ih = ih (made a) (made b) (sym (ap (λ (c : Bool). c || is_slot_of hs p) f) ∙ e)

pub entries_same : (hs : List Holding) → AreSpans hs → (p : ℕ) (a b : Option Entry) → (is_slot_of hs p ≡ false → a ≡ b) → entries_after hs p a ≡ entries_after hs p b
entries_same hs s p a b same = by_test (is_slot_of hs p) refl
  where
    by_test : (t : Bool) → is_slot_of hs p ≡ t → entries_after hs p a ≡ entries_after hs p b
    by_test true e = slot_over hs s p a b e
    by_test false e = ap (entries_after hs p) (same e)

-- What holds of the maps

past_span : (lo hi : ℕ) → hi ≤ TOP → lies_in lo hi TOP ≡ false
past_span lo hi l = grind (arith, nat_tests)

parts_past : (hs : List Holding) → AreSpans hs → (r : RangePart) → parts_after hs TOP r ≡ r
parts_past [] s r = refl
parts_past (h ∷ hs) s r = ap (λ (c : Bool). parts_after hs TOP (if c then range_of h.mode else r)) (past_span h.span.lo h.span.hi (span_is h.span s.0).1) ∙ parts_past hs s.1 r

abbrev IsGood : ℕ → Option Entry → Type 0
IsGood q o = (e : Entry) → o ≡ Some e → (q < TOP) × (reads_key e.part ≡ true)

good_after : (hs : List Holding) → AreSpans hs → (q : ℕ) (o : Option Entry) → IsGood q o → IsGood q (entries_after hs q o)
good_after [] s q o g = g
good_after (h ∷ hs) s q o g = good_after hs s.1 q _ (by_test (contains h.span q) (is_last h.span q) refl)
  where
    by_test : (c l : Bool) → is_last h.span q ≡ l → IsGood q (if c then (if l then own_entry h else None) else o)
    by_test true true f e k = (let top = (span_is h.span s.0).1 in let x = eqb-true (suc q) h.span.hi f in omega (arith, top, x), read_entry (key_of h.mode) h.value e k)
    by_test true false f e k = absurd (let bad : ◌≡◌ {A = Option Entry} None (Some e) = k in cc)
    by_test false l f e k = g e k

pub several_keep : (hs : List Holding) (old new : Maps) → AreSpans hs → AreMapsKept old → ((p : ℕ) → part_at (at new.starts) p ≡ parts_after hs p (part_at (at old.starts) p)) → EndsAlike (at old.starts) (at new.starts) → (AreStartsMerged (at old.starts) → AreStartsMerged (at new.starts)) → ((p : ℕ) → at new.entries p ≡ entries_after hs p (at old.entries p)) → AreMapsKept new
several_keep hs old new s kept parts ends merged entries = record {
  past = record {
    starts = λ q l. ends q l (kept.past.starts q l);
    part = parts TOP ∙ parts_past hs s (part_at (at old.starts) TOP) ∙ kept.past.part;
  };
  merged = merged kept.merged;
  entries = λ q e h. good_after hs s q (at old.entries q) (λ x k. kept.entries q x k) e (sym (entries q) ∙ h);
}

-- Filling

-- spans in order, from a point on
abbrev pub AreFrom : ℕ → List Holding → Type 0
AreFrom low [] = Unit {0}
AreFrom low (h ∷ hs) = (low ≤ h.span.lo) × (h.span.lo < h.span.hi) × AreFrom low hs

from_less : (a b : ℕ) (hs : List Holding) → a ≤ b → AreFrom b hs → AreFrom a hs
from_less a b [] le x = tt
from_less a b (h ∷ hs) le x = (let y = x.0 in omega (arith, le, y), x.1, from_less a b hs le x.2)

pub from_first : (h : Holding) (hs : List Holding) → AreSpans hs → IsBefore h hs → Ascend hs → AreFrom h.span.hi hs
from_first h [] s b up = tt
from_first h (k ∷ ks) s b up = let x = (span_is k.span s.0).0 in (b, x, from_less h.span.hi k.span.hi ks (omega (arith, b, x)) (from_first k ks s.1 up.0 up.1))

pub ready_from : (low : ℕ) (hs : List Holding) (f g : ℕ → Option RangePart) (d e : ℕ → Option Entry) → AreFrom low hs → ((q : ℕ) → low ≤ q → g q ≡ f q) → ((q : ℕ) → low ≤ q → e q ≡ d q) → AreReady hs f d → AreReady hs g e
ready_from low [] f g d e x a b r = tt
ready_from low (h ∷ hs) f g d e x a b r =
    let lo = x.0 in let up = x.1 in (
      (subst IsSome (sym (a h.span.lo lo)) r.0.0, subst IsSome (sym (a h.span.hi (omega (arith, lo, up)))) r.0.1, λ k. subst IsSome (sym (b (h.span.hi - 1) (omega (arith, lo, up)))) (r.0.2 k)),
      ready_from low hs f g d e x.2 a b r.1,
    )

-- one part is put on its span, if both ends begin
pub part_filled : (f g : ℕ → Option RangePart) (lo hi : ℕ) (part : RangePart) → lo < hi → IsSome (f lo) → IsSome (f hi) → ((q : ℕ) → g q ≡ cond (nat_eq q lo) (Some part) (cond (lies_in lo hi q) None (f q))) → (p : ℕ) → part_at g p ≡ cond (lies_in lo hi p) part (part_at f p)
part_filled f g lo hi part l a b new p =
    part_made f f g lo hi (λ q. part) p (filled f f g lo hi part l (record { low = some_of f lo (f lo) refl a; high = some_of f hi (f hi) refl b; others = λ q x y. refl }) new)

outside_fill : (lo hi q : ℕ) (part : RangePart) (o : Option RangePart) → lo < hi → hi ≤ q → cond (nat_eq q lo) (Some part) (cond (lies_in lo hi q) None o) ≡ o
outside_fill lo hi q part o l h = grind (arith, nat_tests)

pub outside_entry : (lo hi q : ℕ) (v : Option Entry) (o : Option Entry) → hi ≤ q → cond (lies_in lo hi q) v o ≡ o
outside_entry lo hi q v o h = grind (arith, nat_tests)

-- how far the filling went: what is left leads to one end
pub record IsFilling (hs : List Holding) (f0 : ℕ → Option RangePart) (d0 : ℕ → Option Entry) (rest : List Holding) (f : ℕ → Option RangePart) (d : ℕ → Option Entry) : Type 0 where
  pub parts : (p : ℕ) → parts_after rest p (part_at f p) ≡ parts_after hs p (part_at f0 p)
  pub entries : (p : ℕ) → entries_after rest p (d p) ≡ entries_after hs p (d0 p)
  pub ready : AreReady rest f d
  pub order : Ascend rest
  pub spans : AreSpans rest
  pub ends : EndsAlike f0 f
  pub own : (q : ℕ) → is_end_of hs q ≡ false → is_end_of rest q ≡ false
  pub merged : AreMergedBetween hs f0 → AreMergedBetween hs f

apart : (a b : ℕ) → nat_eq a b ≡ false → a ≢ b
apart a b e = grind (arith, nat_tests)

-- a point that is no end is none of the first span
no_end : (h : Holding) (rest : List Holding) (q : ℕ) → is_end_of (h ∷ rest) q ≡ false → (q ≢ h.span.lo) × (q ≢ h.span.hi) × (is_end_of rest q ≡ false)
no_end h rest q e =
    let x = or_parts (nat_eq q h.span.lo || nat_eq q h.span.hi) (is_end_of rest q) e in
    let y = or_parts (nat_eq q h.span.lo) (nat_eq q h.span.hi) x.0 in
    (apart q h.span.lo y.0, apart q h.span.hi y.1, x.1)

pub filling_begins : (hs : List Holding) (f : ℕ → Option RangePart) (d : ℕ → Option Entry) → AreReady hs f d → Ascend hs → AreSpans hs → IsFilling hs f d hs f d
filling_begins hs f d r o s = record { parts = λ p. refl; entries = λ p. refl; ready = r; order = o; spans = s; ends = λ q l x. x; own = λ q e. e; merged = λ m. m }

pub filling_goes : (hs : List Holding) (f0 : ℕ → Option RangePart) (d0 : ℕ → Option Entry) (h : Holding) (rest : List Holding) (f g : ℕ → Option RangePart) (d e : ℕ → Option Entry) → IsFilling hs f0 d0 (h ∷ rest) f d → ((q : ℕ) → g q ≡ cond (nat_eq q h.span.lo) (Some (range_of h.mode)) (cond (lies_in h.span.lo h.span.hi q) None (f q))) → ((p : ℕ) → e p ≡ cond (contains h.span p) (cond (is_last h.span p) (own_entry h) None) (d p)) → IsFilling hs f0 d0 rest g e
filling_goes hs f0 d0 h rest f g d e x starts entries =
    let span = span_is h.span x.spans.0 in
    let lt = span.0 in let top = span.1 in
    record {
      parts = λ p. ap (parts_after rest p) (part_filled f g h.span.lo h.span.hi (range_of h.mode) lt x.ready.0.0 x.ready.0.1 starts p) ∙ x.parts p;
      entries = λ p. ap (entries_after rest p) (entries p) ∙ x.entries p;
      ready = ready_from h.span.hi rest f g d e (from_first h rest x.spans.1 x.order.0 x.order.1)
          (λ q a. starts q ∙ outside_fill h.span.lo h.span.hi q (range_of h.mode) (f q) lt a)
          (λ q a. entries q ∙ outside_entry h.span.lo h.span.hi q (cond (is_last h.span q) (own_entry h) None) (d q) a) x.ready.1;
      order = x.order.1;
      spans = x.spans.1;
      ends = λ q l n. starts q ∙ outside_fill h.span.lo h.span.hi q (range_of h.mode) (f q) lt (omega (arith, top, l)) ∙ x.ends q l n;
      own = λ q e. (no_end h rest q (x.own q e)).2;
      merged = λ m q e.
          let y = no_end h rest q (x.own q e) in
          anew_filled f g h.span.lo h.span.hi q (range_of h.mode) lt starts (part_filled f g h.span.lo h.span.hi (range_of h.mode) lt x.ready.0.0 x.ready.0.1 starts) y.0 y.1 (x.merged m q e);
    }

-- Merging

-- the ends of the first span begin again now, and those that did do still
pub anew_more : (hs : List Holding) (h : Holding) (rest : List Holding) (f m k : ℕ → Option RangePart) → ((q : ℕ) → is_end_of hs q ≡ true → is_end_of (h ∷ rest) q ≡ false → BeginsAnew f q) → KeepsParts f m → BeginsAnew m h.span.lo → KeepsParts m k → BeginsAnew k h.span.hi → (q : ℕ) → is_end_of hs q ≡ true → is_end_of rest q ≡ false → BeginsAnew k q
anew_more hs h rest f m k before first low second high q e out =
    elim (eqb_tells q h.span.lo) [
      | inl x ↦ subst (λ (i : ℕ). BeginsAnew k i) (sym x.1) (anew_kept m k h.span.lo second low)
      | inr x ↦ elim (eqb_tells q h.span.hi) [
        | inl y ↦ subst (λ (i : ℕ). BeginsAnew k i) (sym y.1) high
        | inr y ↦ anew_kept m k q second (anew_kept f m q first (before q e (rw x.0 (rw y.0 out))))
      ]
    ]

-- the ends begin again, and all else did
pub anew_all : (hs : List Holding) (n k : ℕ → Option RangePart) → KeepsParts n k → ((q : ℕ) → is_end_of hs q ≡ true → BeginsAnew k q) → AreMergedBetween hs n → AreStartsMerged k
anew_all hs n k kept ends between q = by_test (is_end_of hs q) refl
  where
    by_test : (t : Bool) → is_end_of hs q ≡ t → BeginsAnew k q
    by_test true e = ends q e
    by_test false e = anew_kept n k q kept (between q e)

-- Room

some_stays : (a b : Option RangePart) (v : RangePart) → (b ≡ a) ⊎ (b ≡ Some v) → IsSome a → IsSome b
some_stays a b v (inl e) s = subst IsSome (sym e) s
some_stays a b v (inr e) s = subst IsSome (sym e) refl

marked_by : (f g : ℕ → Option RangePart) (lo hi : ℕ) → HasEnds f g lo hi → IsMarked f g
marked_by f g lo hi x = record {
  each = λ q. elim (eqb_tells q lo) [
    | inl a ↦ inr (ap g a.1 ∙ x.low ∙ ap (λ (n : ℕ). Some (part_at f n)) (sym a.1))
    | inr a ↦ elim (eqb_tells q hi) [
      | inl b ↦ inr (ap g b.1 ∙ x.high ∙ ap (λ (n : ℕ). Some (part_at f n)) (sym b.1))
      | inr b ↦ inl (x.others q a.1 b.1)
    ]
  ];
}

pub room_none : (f : ℕ → Option RangePart) (d : ℕ → Option Entry) → HasRoom [] f f d d
room_none f d = record { ready = tt; starts = λ q. inl refl; entries = λ q e. refl; stay = λ q x. x; ends = λ q l x. x; others = λ q e. refl }

pub room_more : (h : Holding) (rest : List Holding) (f g k : ℕ → Option RangePart) (d e n : ℕ → Option Entry) → h.span.lo < h.span.hi → h.span.hi ≤ TOP → ((q : ℕ) → q ≢ h.span.hi - 1 → e q ≡ d q) → (IsSome (d (h.span.hi - 1)) → IsSome (e (h.span.hi - 1))) → (reads_key (key_of h.mode) ≡ true → IsSome (e (h.span.hi - 1))) → HasEnds f g h.span.lo h.span.hi → HasRoom rest g k e n → HasRoom (h ∷ rest) f k d n
room_more h rest f g k d e n lt top others here held marks r = record {
  ready = ((some_stays (g h.span.lo) (k h.span.lo) _ (r.starts h.span.lo) (subst IsSome (sym marks.low) refl), some_stays (g h.span.hi) (k h.span.hi) _ (r.starts h.span.hi) (subst IsSome (sym marks.high) refl), λ x. r.stay (h.span.hi - 1) (held x)), r.ready);
  starts = λ q. after q (r.starts q);
  entries = λ q x. let y = or_parts (is_last h.span q) (is_slot_of rest q) x in r.entries q y.1 ∙ others q (λ z. no_last (is_last h.span q) y.0 (at_last h.span.hi q lt z));
  stay = λ q x. r.stay q (elim (eqb_tells q (h.span.hi - 1)) [
    | inl a ↦ subst (λ (i : ℕ). IsSome (e i)) (sym a.1) (here (subst (λ (i : ℕ). IsSome (d i)) a.1 x))
    | inr a ↦ subst IsSome (sym (others q a.1)) x
  ]);
  ends = λ q l x. r.ends q l (marks.others q (λ z. omega (arith, z, l, top, lt)) (λ z. omega (arith, z, l, top)) ∙ x);
  others = λ q e. let y = no_end h rest q e in r.others q y.2 ∙ marks.others q y.0 y.1;
}
  where
    no_last : (b : Bool) → b ≡ false → b ≡ true → ⊥
    no_last b x y = absurd (let bad : false ≡ true = sym x ∙ y in cc)

    at_last : (hi q : ℕ) → h.span.lo < hi → q ≡ hi - 1 → nat_eq (suc q) hi ≡ true
    at_last hi q a z = grind (arith, nat_tests)

    after : (q : ℕ) → (k q ≡ g q) ⊎ (k q ≡ Some (part_at g q)) → (k q ≡ f q) ⊎ (k q ≡ Some (part_at f q))
    after q (inl x) = by_mark ((marked_by f g h.span.lo h.span.hi marks).each q)
      where
        by_mark : (g q ≡ f q) ⊎ (g q ≡ Some (part_at f q)) → (k q ≡ f q) ⊎ (k q ≡ Some (part_at f q))
        by_mark (inl y) = inl (x ∙ y)
        by_mark (inr y) = inr (x ∙ y)
    after q (inr x) = inr (x ∙ ap (λ (y : RangePart). Some y) (part_marked f g q (marked_by f g h.span.lo h.span.hi marks)))

pub room_marked : (hs : List Holding) (f g : ℕ → Option RangePart) (d e : ℕ → Option Entry) → HasRoom hs f g d e → IsMarked f g
room_marked hs f g d e r = record { each = r.starts }

pub room_merged : (hs : List Holding) (f g : ℕ → Option RangePart) (d e : ℕ → Option Entry) → HasRoom hs f g d e → AreStartsMerged f → AreMergedBetween hs g
room_merged hs f g d e r merged q out =
    anew_still f g q (λ v h. sym (r.others q out) ∙ h) (λ up. part_marked f g (q - 1) (room_marked hs f g d e r)) (merged q)

-- what stood where room was made stands still
not_some : {V : Type 0} (o : Option V) → o ≡ None → IsSome o → ⊥
not_some None e h = absurd (let bad : false ≡ true = h in cc)
not_some {V} (Some v) e h = absurd (let bad : ◌≡◌ {A = Option V} (Some v) None = e in cc)

pub stays_here : {V : Type 0} (old new : BTreeMap ℕ V) (key : ℕ) (fresh : Bool) → CanUndo old new key fresh → IsSome (at old.entries key) → IsSome (at new.entries key)
stays_here old new key true can s = absurd (not_some (at old.entries key) can.0 s)
stays_here {V} old new key false can s = subst (λ (es : List (ℕ × V)). IsSome (at es key)) (sym can) s

-- both points are out again
pub both_undone : (old new m k r : BTreeMap ℕ RangePart) (lo hi : ℕ) (low high : Bool) → CanUndoBoth old new lo hi low high → m.entries ≡ new.entries → IsUndone m k lo low → IsUndone k r hi high → r.entries ≡ old.entries
both_undone old new m k r lo hi low high can same first second =
    restored old can.0 k r hi can.1 high can.3 (restored can.0 new m k lo can.2 low can.4 same first) second

pub room_step : (hs : List Holding) (h : Holding) (rest : List Holding) (f g k : ℕ → Option RangePart) (d e n : ℕ → Option Entry) (lo hi : ℕ) (part : KeyPart) → hs ≡ h ∷ rest → lo ≡ h.span.lo → hi ≡ h.span.hi → part ≡ key_of h.mode → (h.span.lo < h.span.hi) × (h.span.hi ≤ TOP) → ((q : ℕ) → q ≢ hi - 1 → e q ≡ d q) → (IsSome (d (hi - 1)) → IsSome (e (hi - 1))) → (reads_key part ≡ true → IsSome (e (hi - 1))) → HasEnds f g lo hi → HasRoom rest g k e n → HasRoom hs f k d n
room_step hs h rest f g k d e n lo hi part is low high key bounds others here held marks r =
    subst (λ xs. HasRoom xs f k d n) (sym is)
    (room_more h rest f g k d e n bounds.0 bounds.1
    (subst (λ x. (q : ℕ) → q ≢ x - 1 → e q ≡ d q) high others)
    (subst (λ x. IsSome (d (x - 1)) → IsSome (e (x - 1))) high here)
    (λ reads. subst (λ x. IsSome (e (x - 1))) high (held (ap reads_key key ∙ reads)))
    (subst (λ x. HasEnds f g x h.span.hi) low (subst (λ x. HasEnds f g lo x) high marks))
    r)
