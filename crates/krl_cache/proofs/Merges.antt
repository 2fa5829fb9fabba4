-- Starts that begin another part than held before them.
use Rattle.krl_cache.proofs.Names.{◌≡◌, ◌≢◌, ◌⊎◌, inl, inr, ℕ, zero, suc, ◌-◌, ◌≤◌, ◌<◌, Bool, false, cond, Option, None, Some, refl, sym, ap, subst, ◌∙◌, arith, nat_eq, nat_tests, eqb_tells}
use Rattle.krl_cache.proofs.Names.{leb_tells, RangePart, lies_in, part_at, IsFree, HasEnds, IsChanged, KeepsParts, HoldsBefore, BeginsAnew, AreStartsMerged, lowered_part}

-- one part held before a point
pub before_one : (f : ℕ → Option RangePart) (p : ℕ) (a b : RangePart) → HoldsBefore f p a → HoldsBefore f p b → a ≡ b
before_one f zero a b h k = h.first refl ∙ sym (k.first refl)
before_one f (suc p) a b h k = sym (h.later (omega arith)) ∙ k.later (omega arith)

before_as : (f g : ℕ → Option RangePart) (p : ℕ) (v : RangePart) → (0 < p → part_at g (p - 1) ≡ part_at f (p - 1)) → HoldsBefore g p v → HoldsBefore f p v
before_as f g p v same h = record { first = h.first; later = λ up. sym (same up) ∙ h.later up }

-- if the same begins, or nothing, and the same held before
pub anew_still : (f g : ℕ → Option RangePart) (q : ℕ) → ((v : RangePart) → g q ≡ Some v → f q ≡ Some v) → (0 < q → part_at g (q - 1) ≡ part_at f (q - 1)) → BeginsAnew f q → BeginsAnew g q
anew_still f g q stay same anew v here before = anew v (stay v here) (before_as f g q v same before)

pub anew_kept : (f g : ℕ → Option RangePart) (q : ℕ) → KeepsParts f g → BeginsAnew f q → BeginsAnew g q
anew_kept f g q k anew = anew_still f g q (k.stay q) (λ up. k.parts (q - 1)) anew

pub anew_none : (f : ℕ → Option RangePart) (q : ℕ) → f q ≡ None → BeginsAnew f q
anew_none f q none v here before = absurd (let bad : ◌≡◌ {A = Option RangePart} None (Some v) = sym none ∙ here in cc)

-- another part begins than held before
pub anew_other : (f : ℕ → Option RangePart) (p : ℕ) (before : RangePart) → HoldsBefore f p before → (f p ≡ Some before → ⊥) → BeginsAnew f p
anew_other f p before h other v here hv = other (here ∙ ap (λ (x : RangePart). Some x) (before_one f p v before hv h))

no_other : (v part before : RangePart) → (part ≡ before → ⊥) → ◌≡◌ {A = Option RangePart} (Some part) (Some v) → v ≡ before → ⊥
no_other v part before ne e same = ne (let is : part ≡ v = cc in is ∙ same)

-- this part begins, which did not hold before
pub anew_here : (f : ℕ → Option RangePart) (p : ℕ) (part before : RangePart) → f p ≡ Some part → HoldsBefore f p before → (part ≡ before → ⊥) → BeginsAnew f p
anew_here f p part before here h ne v is hv = no_other v part before ne (sym here ∙ is) (before_one f p v before hv h)

-- Outside a span nothing changed, and at its points and its end each start begins again
pub anew_span : (f g : ℕ → Option RangePart) (lo hi : ℕ) → lo < hi → ((q : ℕ) → lies_in lo hi q ≡ false → part_at g q ≡ part_at f q) → ((q : ℕ) (v : RangePart) → (q < lo) ⊎ (hi < q) → g q ≡ Some v → f q ≡ Some v) → ((q : ℕ) → lo ≤ q → q ≤ hi → BeginsAnew g q) → AreStartsMerged f → AreStartsMerged g
anew_span f g lo hi l same stay within merged q =
    elim (leb_tells lo q) [
      | inl a ↦
          elim (leb_tells q hi) [
            | inl b ↦ within q a.1 b.1
            | inr b ↦ anew_still f g q (λ v h. stay q v (inr b.1) h) (λ up. same (q - 1) (after q b.1)) (merged q)
          ]
      | inr a ↦ anew_still f g q (λ v h. stay q v (inl a.1) h) (λ up. same (q - 1) (before q a.1)) (merged q)
    ]
  where
    after : (q : ℕ) → hi < q → lies_in lo hi (q - 1) ≡ false
    after q b = grind (arith, nat_tests)

    before : (q : ℕ) → q < lo → lies_in lo hi (q - 1) ≡ false
    before q a = grind (arith, nat_tests)

-- One part on a span

filled_none : (lo hi q : ℕ) (part : RangePart) (o : Option RangePart) → lo ≤ q → q ≢ lo → q < hi → cond (nat_eq q lo) (Some part) (cond (lies_in lo hi q) None o) ≡ None
filled_none lo hi q part o a b c = grind (arith, nat_tests)

filled_else : (lo hi q : ℕ) (part : RangePart) (o : Option RangePart) → lo < hi → (q < lo) ⊎ (hi ≤ q) → cond (nat_eq q lo) (Some part) (cond (lies_in lo hi q) None o) ≡ o
filled_else lo hi q part o l (inl a) = grind (arith, nat_tests)
filled_else lo hi q part o l (inr a) = grind (arith, nat_tests)

-- f with both ends marked is g, and n has one part begin on the span; k is n without what did not begin again at the
-- ends
pub anew_adopted : (f g n k : ℕ → Option RangePart) (lo hi : ℕ) (part : RangePart) → lo < hi → HasEnds f g lo hi → ((q : ℕ) → n q ≡ cond (nat_eq q lo) (Some part) (cond (lies_in lo hi q) None (g q))) → KeepsParts n k → ((p : ℕ) → part_at k p ≡ cond (lies_in lo hi p) part (part_at f p)) → BeginsAnew k lo → BeginsAnew k hi → AreStartsMerged f → AreStartsMerged k
anew_adopted f g n k lo hi part l ends new kept parts low high merged =
    anew_span f k lo hi l
    (λ q out. parts q ∙ ap (λ (b : Bool). cond b part (part_at f q)) out)
    stay within merged
  where
    outside : (q : ℕ) → (q < lo) ⊎ (hi < q) → n q ≡ f q
    outside q (inl a) = new q ∙ filled_else lo hi q part (g q) l (inl a) ∙ ends.others q (λ z. omega (arith, z, a)) (λ z. omega (arith, z, a, l))
    outside q (inr a) = new q ∙ filled_else lo hi q part (g q) l (inr (omega (arith, a))) ∙ ends.others q (λ z. omega (arith, z, a, l)) (λ z. omega (arith, z, a))

    stay : (q : ℕ) (v : RangePart) → (q < lo) ⊎ (hi < q) → k q ≡ Some v → f q ≡ Some v
    stay q v out h = sym (outside q out) ∙ kept.stay q v h

    within : (q : ℕ) → lo ≤ q → q ≤ hi → BeginsAnew k q
    within q a b =
        elim (eqb_tells q lo) [
          | inl e ↦ subst (λ (i : ℕ). BeginsAnew k i) (sym e.1) low
          | inr e ↦ elim (eqb_tells q hi) [
            | inl d ↦ subst (λ (i : ℕ). BeginsAnew k i) (sym d.1) high
            | inr d ↦ anew_none k q (kept.starts q (new q ∙ filled_none lo hi q part (g q) a e.1 (omega (arith, b, d.1))))
          ]
        ]

-- f with both ends marked is g, and n has the parts of the span lowered; k is n without what did not begin again there
pub anew_lowered : (f g n k : ℕ → Option RangePart) (lo hi : ℕ) (keep : RangePart) (m : ℕ → RangePart) → lo < hi → HasEnds f g lo hi → IsChanged (lowered_part keep) g n lo hi → KeepsParts n k → ((p : ℕ) → part_at k p ≡ cond (lies_in lo hi p) (m p) (part_at f p)) → ((q : ℕ) → lo ≤ q → q ≤ hi → BeginsAnew k q) → AreStartsMerged f → AreStartsMerged k
anew_lowered f g n k lo hi keep m l ends new kept parts within merged =
    anew_span f k lo hi l
    (λ q out. parts q ∙ ap (λ (b : Bool). cond b (m q) (part_at f q)) out)
    (λ q v out h. sym (outside q out) ∙ kept.stay q v h) within merged
  where
    elsewhere : (q : ℕ) (a o : Option RangePart) → (q < lo) ⊎ (hi < q) → cond (lies_in lo hi q) a o ≡ o
    elsewhere q a o (inl z) = grind (arith, nat_tests)
    elsewhere q a o (inr z) = grind (arith, nat_tests)

    as_before : (q : ℕ) → (q < lo) ⊎ (hi < q) → g q ≡ f q
    as_before q (inl a) = ends.others q (λ z. omega (arith, z, a)) (λ z. omega (arith, z, a, l))
    as_before q (inr a) = ends.others q (λ z. omega (arith, z, a, l)) (λ z. omega (arith, z, a))

    outside : (q : ℕ) → (q < lo) ⊎ (hi < q) → n q ≡ f q
    outside q out = new.each q ∙ elsewhere q _ (g q) out ∙ as_before q out

-- one part is put on its span, if both ends begin: between the ends of other spans, starts begin still
pub anew_filled : (f g : ℕ → Option RangePart) (lo hi q : ℕ) (part : RangePart) → lo < hi → ((p : ℕ) → g p ≡ cond (nat_eq p lo) (Some part) (cond (lies_in lo hi p) None (f p))) → ((p : ℕ) → part_at g p ≡ cond (lies_in lo hi p) part (part_at f p)) → q ≢ lo → q ≢ hi → BeginsAnew f q → BeginsAnew g q
anew_filled f g lo hi q part l new parts a b anew =
    elim (leb_tells lo q) [
      | inl x ↦
          elim (leb_tells hi q) [
            | inl y ↦ still (inr y.1) (high y.1 b)
            | inr y ↦ anew_none g q (new q ∙ filled_none lo hi q part (f q) x.1 a y.1)
          ]
      | inr x ↦ still (inl x.1) (low x.1)
    ]
  where
    still : (q < lo) ⊎ (hi ≤ q) → lies_in lo hi (q - 1) ≡ false → BeginsAnew g q
    still out away =
        anew_still f g q (λ v h. sym (new q ∙ filled_else lo hi q part (f q) l out) ∙ h)
        (λ up. parts (q - 1) ∙ ap (λ (t : Bool). cond t part (part_at f (q - 1))) away) anew

    low : q < lo → lies_in lo hi (q - 1) ≡ false
    low x = grind (arith, nat_tests)

    high : hi ≤ q → q ≢ hi → lies_in lo hi (q - 1) ≡ false
    high x y = grind (arith, nat_tests)

-- The next start begins again, and none stands between it and those that did
pub anew_next : (f g : ℕ → Option RangePart) (lo p start q : ℕ) → ((k : ℕ) → lo ≤ k → k < p → BeginsAnew f k) → IsFree f p start → KeepsParts f g → BeginsAnew g start → lo ≤ q → q ≤ start → BeginsAnew g q
anew_next f g lo p start q before free kept here a b =
    elim (leb_tells p q) [
      | inl x ↦
          elim (eqb_tells q start) [
            | inl e ↦ subst (λ (i : ℕ). BeginsAnew g i) (sym e.1) here
            | inr e ↦ anew_none g q (kept.starts q (free q x.1 (omega (arith, b, e.1))))
          ]
      | inr x ↦ anew_kept f g q kept (before q a x.1)
    ]
