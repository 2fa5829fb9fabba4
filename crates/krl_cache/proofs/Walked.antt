-- A walk over the entries of a span where one part holds.
use Rattle.krl_cache.proofs.Names.{◌≡◌, ℕ, ◌+◌, ◌≤◌, ◌<◌, inl, inr, Bool, true, false, ◌&&◌, ◌||◌, List, [], ◌∷◌, Option, None, Some, refl, sym, ap, subst, ◌∙◌, arith, nat_eq, leb_tells, eqb_tells}
use Rattle.krl_cache.proofs.Names.{and_parts, or_parts, or_from, or_left, or_right, RangePart, reads_key, reads_gap, Entry, part_of, IsFree, IsFirst, AreNext, StandsFrom, TakesBelow, is_known}
use Rattle.krl_cache.proofs.Names.{AreKnown, Walks}
use Rattle.krl_cache.proofs.Rests.{next_later}
use Rattle.krl_cache.proofs.Scans.{next_head}

-- how far the walk has come: each point before p is known, and these entries are left
pub record Comes (part : RangePart) (lo hi : ℕ) (old : List (ℕ × Entry)) (p : ℕ) (now : List (ℕ × Entry)) : Type 0 where
  pub below : p ≤ hi
  pub walked : (f : ℕ → Option Entry) (end : ℕ) → hi ≤ end → AreNext f lo end old → (lo ≤ p) × AreKnown part f lo p × AreNext f p end now

-- each point from p to the entry is known
abbrev pub knows : RangePart → ℕ → ℕ × Entry → Bool
knows part p e = reads_gap part || (nat_eq p e.0 && reads_key e.1.part)

pub comes_first : (part : RangePart) (lo hi : ℕ) (old : List (ℕ × Entry)) → lo ≤ hi → Comes part lo hi old lo old
comes_first part lo hi old l = record { below = l; walked = λ f end e h. (omega arith, (λ q a b. absurd (omega (arith, a, b))), h) }

-- no entry stands from p on below hi
stands_free : (f : ℕ → Option Entry) (p hi end : ℕ) (es : List (ℕ × Entry)) → hi ≤ end → AreNext f p end es → StandsFrom hi es → IsFree f p hi
stands_free f p hi end [] l h s = λ q a b. h q a (omega (arith, l, b))
stands_free f p hi end (e ∷ es) l h s = λ q a b. h.0.free q a (omega (arith, s, b))

pub gap_read : (part : RangePart) (f : ℕ → Option Entry) (lo hi : ℕ) → reads_gap part ≡ true → AreKnown part f lo hi
gap_read part f lo hi r = λ q a b. or_right (reads_key (part_of (f q))) (reads_gap part) r

-- an entry at p that is read, if each point before is known
one_more : (part : RangePart) (f : ℕ → Option Entry) (lo p : ℕ) (e : ℕ × Entry) → AreKnown part f lo p → f e.0 ≡ Some e.1 → p ≡ e.0 → reads_key e.1.part ≡ true → AreKnown part f lo (e.0 + 1)
one_more part f lo p e known here same reads q a b =
    elim (leb_tells e.0 q) [
      | inl l ↦
          let at : e.0 ≡ q = omega (arith, l.1, b) in
          subst (λ (n : ℕ). is_known part (f n) ≡ true) at (ap (λ (o : Option Entry). is_known part o) here ∙ or_left (reads_key e.1.part) (reads_gap part) reads)
      | inr l ↦ known q a (omega (arith, l.1, same))
    ]

knows_on : (part : RangePart) (f : ℕ → Option Entry) (lo p : ℕ) (e : ℕ × Entry) (r : Bool) → reads_gap part ≡ r → (r || (nat_eq p e.0 && reads_key e.1.part)) ≡ true → AreKnown part f lo p → f e.0 ≡ Some e.1 → AreKnown part f lo (e.0 + 1)
knows_on part f lo p e true r t known here = gap_read part f lo (e.0 + 1) r
knows_on part f lo p e false r t known here =
    let h = and_parts (nat_eq p e.0) (reads_key e.1.part) t in
    elim (eqb_tells p e.0) [
      | inl i ↦ one_more part f lo p e known here i.1 h.1
      | inr i ↦ absurd (let bad : true ≡ false = sym h.0 ∙ i.0 in cc)
    ]

pub comes_on : (part : RangePart) (lo hi p : ℕ) (old now next : List (ℕ × Entry)) (e : ℕ × Entry) → Comes part lo hi old p now → TakesBelow hi now (Some e) next → knows part p e ≡ true → Comes part lo hi old (e.0 + 1) next
comes_on part lo hi p old now next e c takes k = record {
  below = omega (arith, takes.0);
  walked = λ f end l h.
      let w = c.walked f end l h in
      let first = next_head f p end now next e w.2 takes.1 in
      (omega (arith, w.0, first.0.from), knows_on part f lo p e (reads_gap part) refl k w.1 first.0.here, first.1);
}

unknown_here : (part : RangePart) (f : ℕ → Option Entry) (p end : ℕ) (e : ℕ × Entry) → IsFirst f p end e → reads_gap part ≡ false → (nat_eq p e.0 && reads_key e.1.part) ≡ false → is_known part (f p) ≡ false
unknown_here part f p end e first r t =
    elim (eqb_tells p e.0) [
      | inl i ↦
          let unread : reads_key e.1.part ≡ false = subst (λ (b : Bool). (b && reads_key e.1.part) ≡ false) i.0 t in
          subst (λ (n : ℕ). is_known part (f n) ≡ false) (sym i.1) (ap (λ (o : Option Entry). is_known part o) first.here ∙ or_from (reads_key e.1.part) (reads_gap part) unread r)
      | inr i ↦ ap (λ (o : Option Entry). is_known part o) (first.free p (omega arith) (omega (arith, first.from, i.1))) ∙ r
    ]

-- an entry that doesn't follow, or isn't read
pub stops : (part : RangePart) (lo hi p : ℕ) (old now next : List (ℕ × Entry)) (e : ℕ × Entry) → Comes part lo hi old p now → TakesBelow hi now (Some e) next → knows part p e ≡ false → Walks part lo hi old (Some p) next
stops part lo hi p old now next e c takes k f end l h =
    let w = c.walked f end l h in
    let first = next_head f p end now next e w.2 takes.1 in
    let no = or_parts (reads_gap part) (nat_eq p e.0 && reads_key e.1.part) k in
    record {
      from = w.0;
      below = omega (arith, first.0.from, takes.0);
      unknown = unknown_here part f p end e first.0 no.0 no.1;
      least = w.1;
    }

left_after : (part : RangePart) (lo hi p : ℕ) (old now next : List (ℕ × Entry)) (f : ℕ → Option Entry) (end : ℕ) → Comes part lo hi old p now → TakesBelow hi now None next → hi ≤ end → AreNext f lo end old → AreNext f hi end next
left_after part lo hi p old now next f end c takes l h =
    let w = c.walked f end l h in
    subst (λ (es : List (ℕ × Entry)). AreNext f hi end es) (sym takes.1) (next_later f p hi end now c.below (stands_free f p hi end now l w.2 takes.0) w.2)

-- no entry is left below hi, and the part reads the gap
pub ends_read : (part : RangePart) (lo hi p : ℕ) (old now next : List (ℕ × Entry)) → Comes part lo hi old p now → TakesBelow hi now None next → reads_gap part ≡ true → Walks part lo hi old None next
ends_read part lo hi p old now next c takes r f end l h = (gap_read part f lo hi r, left_after part lo hi p old now next f end c takes l h)

-- or the last entry stands right below hi
pub ends_all : (part : RangePart) (lo hi p : ℕ) (old now next : List (ℕ × Entry)) → Comes part lo hi old p now → TakesBelow hi now None next → hi ≤ p → Walks part lo hi old None next
ends_all part lo hi p old now next c takes b f end l h =
    ((λ q x y. (c.walked f end l h).1 q x (omega (arith, y, b))), left_after part lo hi p old now next f end c takes l h)

pub ends_gap : (part : RangePart) (lo hi p : ℕ) (old now next : List (ℕ × Entry)) → Comes part lo hi old p now → TakesBelow hi now None next → reads_gap part ≡ false → p < hi → Walks part lo hi old (Some p) next
ends_gap part lo hi p old now next c takes r b f end l h =
    let w = c.walked f end l h in
    record {
      from = w.0;
      below = b;
      unknown = ap (λ (o : Option Entry). is_known part o) (stands_free f p hi end now l w.2 takes.0 p (omega arith) b) ∙ r;
      least = w.1;
    }
