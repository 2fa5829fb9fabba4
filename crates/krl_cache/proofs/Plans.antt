-- A part that is put on a span by what begins at its ends.
use Rattle.krl_cache.proofs.Names.{◌≡◌, ◌≢◌, ◌⊎◌, inl, inr, ℕ, suc, ◌+◌, ◌-◌, ◌≤◌, ◌<◌, Bool, true, false, cond, List, Option, None, Some, refl, sym, ap, subst, ◌∙◌, arith, nat_eq, unwrap_or}
use Rattle.krl_cache.proofs.Names.{option_and_then, BTreeMap, nat_tests, eqb_tells, leb_tells, TOP, RangePart, Entry, lies_in, part_at, IsFree, HoldsBefore, BeginsAnew, AreStartsMerged, EndsAlike}
use Rattle.krl_cache.proofs.Names.{IsChanged, IsUndone, gone, back_of, part_last, AreBefore, TakesFrom, Skips}
use Rattle.krl_modes.specs.declared.part.RangePart.TheVariants as range
use Rattle.krl_cache.specs.declared.adopt.Plan.{Plan}
use Rattle.krl_cache.specs.declared.back.Back.{Back}
use Rattle.krl_cache.specs.Plans.{IsBegun, part_taken, opened, open_at, placed, opens, closes, IsPlan, CanShut}
use Rattle.krl_cache.proofs.Starts.{part_is, part_first, part_next}
use Rattle.krl_cache.proofs.Spans.{inside}
use Rattle.krl_cache.proofs.Marks.{undone}
use Rattle.krl_cache.proofs.Backs.{taken, out, last_holds}
use Rattle.krl_cache.proofs.Merges.{anew_none, anew_here, anew_span}
use Rattle.krl_cache.proofs.Windows.{in_window, past_window, before_window}

-- What is placed

placed_low : (lo hi : ℕ) (a b o : Option RangePart) → placed lo hi lo a b o ≡ a
placed_low lo hi a b o = grind (arith, nat_tests)

placed_high : (lo hi : ℕ) (a b o : Option RangePart) → lo < hi → placed lo hi hi a b o ≡ b
placed_high lo hi a b o l = grind (arith, nat_tests)

placed_within : (lo hi q : ℕ) (a b o : Option RangePart) → lo < q → q < hi → placed lo hi q a b o ≡ None
placed_within lo hi q a b o l h = grind (arith, nat_tests)

placed_else : (lo hi q : ℕ) (a b o : Option RangePart) → lo < hi → (q < lo) ⊎ (hi < q) → placed lo hi q a b o ≡ o
placed_else lo hi q a b o l (inl h) = grind (arith, nat_tests)
placed_else lo hi q a b o l (inr h) = grind (arith, nat_tests)

-- The parts

-- k has the part begin at lo, unless it held before, and what held at hi, unless the part is that
pub record Adopts (f k : ℕ → Option RangePart) (lo hi : ℕ) (part : RangePart) : Type 0 where
  pub span : lo < hi
  pub before : RangePart
  pub holds : HoldsBefore f lo before
  pub low : IsBegun before part (k lo)
  pub within : (q : ℕ) → lo < q → q < hi → k q ≡ None
  pub high : IsBegun part (part_at f hi) (k hi)
  pub others : (q : ℕ) → (q < lo) ⊎ (hi < q) → k q ≡ f q

adopts_by : (f k : ℕ → Option RangePart) (lo hi : ℕ) (part : RangePart) (x : Plan) → lo < hi → IsPlan f lo hi part x → ((q : ℕ) → k q ≡ closes f lo hi x q) → Adopts f k lo hi part
adopts_by f k lo hi part x l plan made = record {
  span = l;
  before = plan.before;
  holds = plan.holds;
  low = subst (λ (o : Option RangePart). IsBegun plan.before part o) (sym (made lo ∙ placed_low lo hi x.low.becomes x.high.becomes (f lo))) plan.low;
  within = λ q a b. made q ∙ placed_within lo hi q x.low.becomes x.high.becomes (f q) a b;
  high = subst (λ (o : Option RangePart). IsBegun part (part_at f hi) o) (sym (made hi ∙ placed_high lo hi x.low.becomes x.high.becomes (f hi) l)) plan.high;
  others = λ q out. made q ∙ placed_else lo hi q x.low.becomes x.high.becomes (f q) l out;
}

begun_is : (before part : RangePart) (o : Option RangePart) → IsBegun before part o → unwrap_or o before ≡ part
begun_is before part None b = sym b
begun_is before part (Some v) b = b.0

abbrev becomes : (ℕ → Option RangePart) → ℕ → ℕ → RangePart → ℕ → RangePart
becomes f lo hi part = inside lo hi (λ q. part) (part_at f)

becomes_in : (f : ℕ → Option RangePart) (lo hi : ℕ) (part : RangePart) (q : ℕ) → lo ≤ q → q < hi → becomes f lo hi part q ≡ part
becomes_in f lo hi part q a b = ap (λ (t : Bool). cond t part (part_at f q)) (in_window lo hi q a b)

becomes_before : (f : ℕ → Option RangePart) (lo hi : ℕ) (part : RangePart) (q : ℕ) → q < lo → becomes f lo hi part q ≡ part_at f q
becomes_before f lo hi part q a = ap (λ (t : Bool). cond t part (part_at f q)) (before_window lo hi q a)

becomes_past : (f : ℕ → Option RangePart) (lo hi : ℕ) (part : RangePart) (q : ℕ) → hi ≤ q → becomes f lo hi part q ≡ part_at f q
becomes_past f lo hi part q a = ap (λ (t : Bool). cond t part (part_at f q)) (past_window lo hi q a)

adopted_first : (f k : ℕ → Option RangePart) (lo hi : ℕ) (part : RangePart) → Adopts f k lo hi part → unwrap_or (k 0) range.N ≡ becomes f lo hi part 0
adopted_first f k lo hi part h =
    elim (eqb_tells lo 0) [
      | inl e ↦
          ap (λ (b : RangePart). unwrap_or (k 0) b) (sym (h.holds.first e.1))
          ∙ ap (λ (q : ℕ). unwrap_or (k q) h.before) (sym e.1)
          ∙ begun_is h.before part (k lo) h.low
          ∙ sym (becomes_in f lo hi part 0 (omega (arith, e.1)) (let up = h.span in omega (arith, e.1, up)))
      | inr e ↦
          ap (λ (o : Option RangePart). unwrap_or o range.N) (h.others 0 (inl (omega (arith, e.1))))
          ∙ sym (part_first f) ∙ sym (becomes_before f lo hi part 0 (omega (arith, e.1)))
    ]

-- the step of a point that stays
adopted_else : (f k : ℕ → Option RangePart) (q : ℕ) (r s : RangePart) → k (suc q) ≡ f (suc q) → r ≡ part_at f q → s ≡ part_at f (suc q) → unwrap_or (k (suc q)) r ≡ s
adopted_else f k q r s same a b =
    ap (λ (o : Option RangePart). unwrap_or o r) same ∙ ap (λ (x : RangePart). unwrap_or (f (suc q)) x) a ∙ sym (part_next f q) ∙ sym b

adopted_low : (f k : ℕ → Option RangePart) (lo hi : ℕ) (part : RangePart) (q : ℕ) → Adopts f k lo hi part → suc q ≡ lo → unwrap_or (k (suc q)) (becomes f lo hi part q) ≡ becomes f lo hi part (suc q)
adopted_low f k lo hi part q h e =
    let up = h.span in
    let at : lo - 1 ≡ q = omega (arith, e) in
    ap (λ (n : ℕ). unwrap_or (k n) (becomes f lo hi part q)) e
    ∙ ap (λ (r : RangePart). unwrap_or (k lo) r) (becomes_before f lo hi part q (omega (arith, e)) ∙ ap (part_at f) (sym at) ∙ h.holds.later (omega (arith, e)))
    ∙ begun_is h.before part (k lo) h.low
    ∙ sym (becomes_in f lo hi part (suc q) (omega (arith, e)) (omega (arith, e, up)))

adopted_high : (f k : ℕ → Option RangePart) (lo hi : ℕ) (part : RangePart) (q : ℕ) → Adopts f k lo hi part → suc q ≡ hi → unwrap_or (k (suc q)) (becomes f lo hi part q) ≡ becomes f lo hi part (suc q)
adopted_high f k lo hi part q h e =
    let up = h.span in
    ap (λ (n : ℕ). unwrap_or (k n) (becomes f lo hi part q)) e
    ∙ ap (λ (r : RangePart). unwrap_or (k hi) r) (becomes_in f lo hi part q (omega (arith, e, up)) (omega (arith, e)))
    ∙ begun_is part (part_at f hi) (k hi) h.high
    ∙ ap (part_at f) (sym e)
    ∙ sym (becomes_past f lo hi part (suc q) (omega (arith, e)))

adopted_next : (f k : ℕ → Option RangePart) (lo hi : ℕ) (part : RangePart) (q : ℕ) → Adopts f k lo hi part → unwrap_or (k (suc q)) (becomes f lo hi part q) ≡ becomes f lo hi part (suc q)
adopted_next f k lo hi part q h =
    elim (eqb_tells (suc q) lo) [
      | inl e ↦ adopted_low f k lo hi part q h e.1
      | inr e ↦ elim (eqb_tells (suc q) hi) [
        | inl d ↦ adopted_high f k lo hi part q h d.1
        | inr d ↦ elim (leb_tells lo q) [
          | inl a ↦ elim (leb_tells hi q) [
            | inl b ↦
                adopted_else f k q (becomes f lo hi part q) (becomes f lo hi part (suc q)) (h.others (suc q) (inr (omega (arith, b.1)))) (becomes_past f lo hi part q b.1) (becomes_past f lo hi part (suc q) (omega (arith, b.1)))
            | inr b ↦
                ap (λ (o : Option RangePart). unwrap_or o (becomes f lo hi part q)) (h.within (suc q) (omega (arith, a.1)) (omega (arith, b.1, d.1)))
                ∙ becomes_in f lo hi part q a.1 b.1 ∙ sym (becomes_in f lo hi part (suc q) (omega (arith, a.1)) (omega (arith, b.1, d.1)))
          ]
          | inr a ↦
              adopted_else f k q (becomes f lo hi part q) (becomes f lo hi part (suc q)) (h.others (suc q) (inl (omega (arith, a.1, e.1)))) (becomes_before f lo hi part q a.1) (becomes_before f lo hi part (suc q) (omega (arith, a.1, e.1)))
        ]
      ]
    ]

pub adopted_parts : (f k : ℕ → Option RangePart) (lo hi : ℕ) (part : RangePart) → Adopts f k lo hi part → (p : ℕ) → part_at k p ≡ cond (lies_in lo hi p) part (part_at f p)
adopted_parts f k lo hi part h p = part_is k (becomes f lo hi part) (adopted_first f k lo hi part h) (λ q. adopted_next f k lo hi part q h) p

-- What begins

begun_anew : (k : ℕ → Option RangePart) (p : ℕ) (before part : RangePart) (o : Option RangePart) → k p ≡ o → HoldsBefore k p before → IsBegun before part o → BeginsAnew k p
begun_anew k p before part None e h b = anew_none k p e
begun_anew k p before part (Some v) e h b = anew_here k p v before e h (λ same. b.1 (sym b.0 ∙ same))

pub adopted_merged : (f k : ℕ → Option RangePart) (lo hi : ℕ) (part : RangePart) → Adopts f k lo hi part → AreStartsMerged f → AreStartsMerged k
adopted_merged f k lo hi part h merged =
    anew_span f k lo hi h.span
    (λ q out. parts q ∙ ap (λ (b : Bool). cond b part (part_at f q)) out)
    (λ q v out here. sym (h.others q out) ∙ here)
    within merged
  where
    parts : (p : ℕ) → part_at k p ≡ cond (lies_in lo hi p) part (part_at f p)
    parts p = adopted_parts f k lo hi part h p

    low : HoldsBefore k lo h.before
    low = record {
      first = h.holds.first;
      later = λ up. parts (lo - 1) ∙ becomes_before f lo hi part (lo - 1) (omega (arith, up)) ∙ h.holds.later up;
    }

    high : HoldsBefore k hi part
    high = let up = h.span in record {
      first = λ z. absurd (omega (arith, z, up));
      later = λ more. parts (hi - 1) ∙ becomes_in f lo hi part (hi - 1) (omega (arith, up)) (omega (arith, up));
    }

    within : (q : ℕ) → lo ≤ q → q ≤ hi → BeginsAnew k q
    within q a b =
        elim (eqb_tells q lo) [
          | inl e ↦ subst (λ (i : ℕ). BeginsAnew k i) (sym e.1) (begun_anew k lo h.before part (k lo) refl low h.low)
          | inr e ↦ elim (eqb_tells q hi) [
            | inl d ↦ subst (λ (i : ℕ). BeginsAnew k i) (sym d.1) (begun_anew k hi part (part_at f hi) (k hi) refl high h.high)
            | inr d ↦ anew_none k q (h.within q (omega (arith, a, e.1)) (omega (arith, b, d.1)))
          ]
        ]

pub adopted_ends : (f k : ℕ → Option RangePart) (lo hi : ℕ) (part : RangePart) → Adopts f k lo hi part → hi ≤ TOP → EndsAlike f k
adopted_ends f k lo hi part h top q past none = h.others q (inr (omega (arith, top, past))) ∙ none

-- The steps

pub stays_open : (was becomes o : Option RangePart) → o ≡ was → (was ≡ None → becomes ≡ None) → o ≡ opened was becomes
stays_open None becomes o e h = e ∙ sym (h refl)
stays_open (Some v) becomes o e h = e

pub here_or : (f : ℕ → Option RangePart) (p q : ℕ) (v : Option RangePart) → f p ≡ v → f q ≡ cond (nat_eq q p) v (f q)
here_or f p q v e =
    elim (eqb_tells q p) [
      | inl a ↦ let is : nat_eq q p ≡ true = a.0 in ap f a.1 ∙ e ∙ sym (ap (λ (b : Bool). cond b v (f q)) is)
      | inr a ↦ let no : nat_eq q p ≡ false = a.0 in sym (ap (λ (b : Bool). cond b v (f q)) no)
    ]

elsewhere : (q p : ℕ) (v o : Option RangePart) → q ≢ p → cond (nat_eq q p) v o ≡ o
elsewhere q p v o ne = grind (arith, nat_tests)

-- what was put in at both ends comes out again
pub both_shut : (first now given mid out : BTreeMap ℕ RangePart) (lo hi : ℕ) (low high : Bool) → CanShut first now lo hi low high → given.entries ≡ now.entries → IsUndone given mid hi high → IsUndone mid out lo low → out.entries ≡ first.entries
both_shut first now given mid out lo hi low high can same a b =
    let m = can.0 in
    undone first m mid out lo low can.1 (undone m now given mid hi high can.2 same a) b

none_left : {V : Type 0} (o : Option V) → option_and_then (gone {V = V}) o ≡ None
none_left None = refl
none_left (Some v) = refl

-- once the span is cleared, and both ends have what they are to have
pub closed : (f g m k : ℕ → Option RangePart) (lo hi : ℕ) (x : Plan) → lo < hi → IsChanged (gone {V = RangePart}) f g (lo + 1) hi → ((q : ℕ) → m q ≡ cond (nat_eq q lo) x.low.becomes (g q)) → ((q : ℕ) → k q ≡ cond (nat_eq q hi) x.high.becomes (m q)) → (q : ℕ) → k q ≡ closes f lo hi x q
closed f g m k lo hi x l cleared low high q =
    high q
    ∙ ap (λ (o : Option RangePart). cond (nat_eq q hi) x.high.becomes o) (low q ∙ ap (λ (o : Option RangePart). cond (nat_eq q lo) x.low.becomes o) (cleared.each q ∙ ap (λ (o : Option RangePart). cond (lies_in (lo + 1) hi q) o (f q)) (none_left (f q))))
    ∙ in_order lo hi q x.low.becomes x.high.becomes (f q) l
  where
    in_order : (lo hi q : ℕ) (a b o : Option RangePart) → lo < hi → cond (nat_eq q hi) b (cond (nat_eq q lo) a (cond (lies_in (lo + 1) hi q) None o)) ≡ placed lo hi q a b o
    in_order lo hi q a b o l = grind (arith, nat_tests)

-- what was put in first is gone over by the rest
closes_opened : (f g k : ℕ → Option RangePart) (lo hi : ℕ) (x : Plan) → lo < hi → ((q : ℕ) → g q ≡ opens f lo hi x q) → ((q : ℕ) → k q ≡ closes g lo hi x q) → (q : ℕ) → k q ≡ closes f lo hi x q
closes_opened f g k lo hi x l a b q =
    b q ∙ ap (λ (o : Option RangePart). placed lo hi q x.low.becomes x.high.becomes o) (a q)
    ∙ over lo hi q x.low.becomes x.high.becomes (open_at x.low) (open_at x.high) (f q)
  where
    over : (lo hi q : ℕ) (a b c d o : Option RangePart) → placed lo hi q a b (cond (nat_eq q hi) d (cond (nat_eq q lo) c o)) ≡ placed lo hi q a b o
    over lo hi q a b c d o = grind (arith, nat_tests)

-- what is new was put in, and then the rest was done
pub adopts_made : (f g k : ℕ → Option RangePart) (lo hi : ℕ) (part : RangePart) (x : Plan) → lo < hi → IsPlan f lo hi part x → ((q : ℕ) → g q ≡ opens f lo hi x q) → ((q : ℕ) → k q ≡ closes g lo hi x q) → Adopts f k lo hi part
adopts_made f g k lo hi part x l plan a b = adopts_by f k lo hi part x l plan (closes_opened f g k lo hi x l a b)

-- Entries

pub entries_put : (f g h : ℕ → Option Entry) (lo hi : ℕ) (own : Option Entry) → lo < hi → ((q : ℕ) → g q ≡ cond (nat_eq q (hi - 1)) own (f q)) → IsChanged (gone {V = Entry}) g h lo (hi - 1) → (p : ℕ) → h p ≡ cond (lies_in lo hi p) (cond (nat_eq (suc p) hi) own None) (f p)
entries_put f g h lo hi own l put cleared p =
    cleared.each p
    ∙ ap (λ (o : Option Entry). cond (lies_in lo (hi - 1) p) o (g p)) (none_left (g p))
    ∙ ap (λ (o : Option Entry). cond (lies_in lo (hi - 1) p) None o) (put p)
    ∙ in_order lo hi p own (f p) l
  where
    in_order : (lo hi q : ℕ) (v o : Option Entry) → lo < hi → cond (lies_in lo (hi - 1) q) None (cond (nat_eq q (hi - 1)) v o) ≡ cond (lies_in lo hi q) (cond (nat_eq (suc q) hi) v None) o
    in_order lo hi q v o l = grind (arith, nat_tests)

-- The look

pub record IsAt (f : ℕ → Option RangePart) (p : ℕ) (r : Option (ℕ × RangePart)) (xs : List (ℕ × RangePart)) : Type 0 where
  pub here : f p ≡ part_taken r
  pub before : AreBefore f p xs

-- what is taken at p, if nothing above it is left
pub taken_at : (f : ℕ → Option RangePart) (p : ℕ) (old : Back) (r : Option (ℕ × RangePart)) (new : Back) → AreBefore f (p + 1) (back_of old) → TakesFrom p old r new → IsAt f p r (back_of new)
taken_at f p old None new h t =
    let o = out f p (p + 1) old.rest old.last (omega arith) t.0 h in
    record {
      here = o.free p (omega arith) (omega arith);
      before = subst (λ (b : Back). AreBefore f p (back_of b)) (sym t.1) o.before;
    }
taken_at f p old (Some e) new h t =
    let k = taken f (p + 1) (back_of old) (back_of new) e t.1 h in
    let below : e.0 < p + 1 = k.below in
    let least : p ≤ e.0 = t.0 in
    let is : e.0 ≡ p = omega (arith, below, least) in
    record { here = ap f (sym is) ∙ k.here; before = subst (λ (n : ℕ). AreBefore f n (back_of new)) is k.rest }

pub record IsLooked (f : ℕ → Option RangePart) (lo hi : ℕ) (after before : RangePart) (low high : Option (ℕ × RangePart)) (within : Bool) : Type 0 where
  pub high_was : f hi ≡ part_taken high
  pub after_is : part_at f hi ≡ after
  pub free : within ≡ false → IsFree f (suc lo) hi
  pub low_was : f lo ≡ part_taken low
  pub holds : HoldsBefore f lo before

pub looked : (f : ℕ → Option RangePart) (lo hi : ℕ) (a b c d : Back) (high low : Option (ℕ × RangePart)) (within : Bool) → lo < hi → AreBefore f (hi + 1) (back_of a) → TakesFrom hi a high b → Skips (lo + 1) b within c → TakesFrom lo c low d → IsLooked f lo hi (part_last a.last) (part_last d.last) low high within
looked f lo hi a b c d high low within l h t s u =
    let first = taken_at f hi a high b h t in
    let then = s f hi (omega (arith, l)) first.before in
    let last = taken_at f lo c low d then.0 u in
    let same : hi + 1 - 1 ≡ hi = omega arith in
    record {
      high_was = first.here;
      after_is = ap (part_at f) (sym same) ∙ (last_holds f (hi + 1) a.rest a.last h).later (omega arith);
      free = λ none q x y. then.1 none q (omega (arith, x)) y;
      low_was = last.here;
      holds = last_holds f lo d.rest d.last last.before;
    }
