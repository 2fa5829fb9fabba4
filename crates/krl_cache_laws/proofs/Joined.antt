-- Pieces that are put after others: neighbours that state the same are one, and none states N.
use Rattle.std.proofs.Common.{◌≡◌, ◌≢◌, ℕ, ◌≤◌, ◌<◌, Bool, true, false, ◌||◌, cond, List, [], ◌∷◌, ◌++◌, refl, sym, ap, subst, ◌∙◌, arith, append_assoc}
use Rattle.std.proofs.lemmas.Bool.Decides.{nat_tests}
use Rattle.krl_modes.specs.declared.point.TheConstants.{TOP}
use Rattle.krl_modes.specs.declared.part.RangePart.{RangePart}
use Rattle.krl_modes.specs.declared.part.RangePart.TheVariants as range
use Rattle.krl_modes.specs.Spans.{contains}
use Rattle.krl_messages.specs.declared.range_pieces.RangePiece.{RangePiece}
use Rattle.krl_cache.specs.Kept.{first_range_at, DiffersFromNext, AreMerged}
use Rattle.krl_cache.specs.Entries.{lies_in, StandWithin}
use Rattle.krl_cache_laws.specs.Lists.{GoesOn, IsBoth, AddsBehind}
use Rattle.krl_cache.proofs.Pieces.{said_before, stand_lower}

-- A piece that states N

stand_without : (a b : ℕ) (xs : List RangePiece) (x : RangePiece) (ys : List RangePiece) → StandWithin a b (xs ++ x ∷ ys) → StandWithin a b (xs ++ ys)
stand_without a b [] x ys h = stand_lower a x.span.hi b ys (omega (arith, h.0, h.1)) h.2
stand_without a b (z ∷ zs) x ys h = (h.0, h.1, stand_without z.span.hi b zs x ys h.2)

inside : (x : RangePiece) (p : ℕ) → contains x.span p ≡ true → p < x.span.hi
inside x p e = grind (arith, nat_tests)

said_without : (a b : ℕ) (xs : List RangePiece) (x : RangePiece) (ys : List RangePiece) → x.part ≡ range.N → StandWithin a b (xs ++ x ∷ ys) → (p : ℕ) → first_range_at (xs ++ ys) p ≡ first_range_at (xs ++ x ∷ ys) p
said_without a b [] x ys e h p = by_test (contains x.span p) refl
  where
    by_test : (t : Bool) → contains x.span p ≡ t → first_range_at ys p ≡ cond (contains x.span p) x.part (first_range_at ys p)
    by_test true f = said_before x.span.hi b ys p h.2 (inside x p f) ∙ sym e ∙ sym (ap (λ (t : Bool). cond t x.part (first_range_at ys p)) f)
    by_test false f = sym (ap (λ (t : Bool). cond t x.part (first_range_at ys p)) f)
said_without a b (z ∷ zs) x ys e h p = ap (λ (r : RangePart). cond (contains z.span p) z.part r) (said_without z.span.hi b zs x ys e h.2 p)

pub adds_none : (old : List RangePiece) (x : RangePiece) → x.part ≡ range.N → AddsBehind old x old
adds_none old x e = record {
  stand = λ rest h. stand_without 0 TOP old x rest h;
  said = λ rest h p. said_without 0 TOP old x rest e h p;
  merged = λ m. m;
}

-- A piece that continues with the last

stand_both : (a b : ℕ) (xs : List RangePiece) (last x both : RangePiece) (ys : List RangePiece) → IsBoth last x both → StandWithin a b ((xs ++ last ∷ []) ++ x ∷ ys) → StandWithin a b ((xs ++ both ∷ []) ++ ys)
stand_both a b [] last x both ys i h =
    (omega (arith, i.lo, h.0), omega (arith, i.lo, i.hi, h.1, h.2.0, h.2.1), subst (λ (n : ℕ). StandWithin n b ys) (sym i.hi) h.2.2)
stand_both a b (z ∷ zs) last x both ys i h = (h.0, h.1, stand_both z.span.hi b zs last x both ys i h.2)

covers : (a m b p : ℕ) → a < m → m < b → lies_in a b p ≡ (lies_in a m p || lies_in m b p)
covers a m b p k l = grind (arith, nat_tests)

either : (t u : Bool) (r s : RangePart) → cond (t || u) r s ≡ cond t r (cond u r s)
either true u r s = refl
either false u r s = refl

said_both : (a b : ℕ) (xs : List RangePiece) (last x both : RangePiece) (ys : List RangePiece) → IsBoth last x both → StandWithin a b ((xs ++ last ∷ []) ++ x ∷ ys) → (p : ℕ) → first_range_at ((xs ++ both ∷ []) ++ ys) p ≡ first_range_at ((xs ++ last ∷ []) ++ x ∷ ys) p
said_both a b [] last x both ys i h p =
    let rest = first_range_at ys p in
    ap (λ (n : ℕ). cond (lies_in n both.span.hi p) both.part rest) i.lo
    ∙ ap (λ (n : ℕ). cond (lies_in last.span.lo n p) both.part rest) i.hi
    ∙ ap (λ (r : RangePart). cond (lies_in last.span.lo x.span.hi p) r rest) i.part
    ∙ ap (λ (t : Bool). cond t x.part rest) (covers last.span.lo last.span.hi x.span.hi p h.1 (omega (arith, i.on.0, h.2.1)))
    ∙ either (lies_in last.span.lo last.span.hi p) (lies_in last.span.hi x.span.hi p) x.part rest
    ∙ ap (λ (r : RangePart). cond (lies_in last.span.lo last.span.hi p) r (cond (lies_in last.span.hi x.span.hi p) x.part rest)) (sym i.on.1)
    ∙ ap (λ (n : ℕ). cond (lies_in last.span.lo last.span.hi p) last.part (cond (lies_in n x.span.hi p) x.part rest)) i.on.0
said_both a b (z ∷ zs) last x both ys i h p = ap (λ (r : RangePart). cond (contains z.span p) z.part r) (said_both z.span.hi b zs last x both ys i h.2 p)

merged_both : (xs : List RangePiece) (last both : RangePiece) → both.span.lo ≡ last.span.lo → both.part ≡ last.part → AreMerged (xs ++ last ∷ []) → AreMerged (xs ++ both ∷ [])
merged_both [] last both l e m = (λ z. m.0 (sym e ∙ z), tt, tt)
merged_both (z ∷ zs) last both l e m = (m.0, next zs m.1, merged_both zs last both l e m.2)
  where
    next : (ys : List RangePiece) → DiffersFromNext z (ys ++ last ∷ []) → DiffersFromNext z (ys ++ both ∷ [])
    next [] d = λ meets same. d (sym l ∙ meets) (sym e ∙ same)
    next (y ∷ ys) d = d

pub adds_both : (old init : List RangePiece) (last x both : RangePiece) (mid new : List RangePiece) → old ≡ init ++ last ∷ [] → mid ≡ init → new ≡ mid ++ both ∷ [] → IsBoth last x both → AddsBehind old x new
adds_both old init last x both mid new is same made i =
    subst (λ (o : List RangePiece). AddsBehind o x new) (sym is)
    (subst (λ (n : List RangePiece). AddsBehind (init ++ last ∷ []) x n) (sym (made ∙ ap (λ (m : List RangePiece). m ++ both ∷ []) same))
    (record {
      stand = λ rest h. stand_both 0 TOP init last x both rest i h;
      said = λ rest h p. said_both 0 TOP init last x both rest i h p;
      merged = λ m. merged_both init last both i.lo (i.part ∙ sym i.on.1) m;
    }))

-- A piece after the last

merged_behind : (xs : List RangePiece) (last x : RangePiece) → x.part ≢ range.N → (GoesOn last x → ⊥) → AreMerged (xs ++ last ∷ []) → AreMerged ((xs ++ last ∷ []) ++ x ∷ [])
merged_behind [] last x e apart m = (m.0, λ meets same. apart (sym meets, sym same), (e, tt, tt))
merged_behind (z ∷ zs) last x e apart m = (m.0, next zs m.1, merged_behind zs last x e apart m.2)
  where
    next : (ys : List RangePiece) → DiffersFromNext z (ys ++ last ∷ []) → DiffersFromNext z ((ys ++ last ∷ []) ++ x ∷ [])
    next [] d = d
    next (y ∷ ys) d = d

adds_more : (old : List RangePiece) (x : RangePiece) → (AreMerged old → AreMerged (old ++ x ∷ [])) → AddsBehind old x (old ++ x ∷ [])
adds_more old x merged = record {
  stand = λ rest h. subst (λ (l : List RangePiece). StandWithin 0 TOP l) (sym (append_assoc old (x ∷ []) rest)) h;
  said = λ rest h p. ap (λ (l : List RangePiece). first_range_at l p) (append_assoc old (x ∷ []) rest);
  merged = merged;
}

pub adds_first : (old : List RangePiece) (x : RangePiece) (new : List RangePiece) → old ≡ [] → new ≡ x ∷ [] → x.part ≢ range.N → AddsBehind old x new
adds_first old x new is made e =
    subst (λ (o : List RangePiece). AddsBehind o x new) (sym is)
    (subst (λ (n : List RangePiece). AddsBehind [] x n) (sym made) (adds_more [] x (λ m. (e, tt, tt))))

pub adds_apart : (old init : List RangePiece) (last x : RangePiece) (new : List RangePiece) → old ≡ init ++ last ∷ [] → new ≡ (init ++ last ∷ []) ++ x ∷ [] → x.part ≢ range.N → (GoesOn last x → ⊥) → AddsBehind old x new
adds_apart old init last x new is made e apart =
    subst (λ (o : List RangePiece). AddsBehind o x new) (sym is)
    (subst (λ (n : List RangePiece). AddsBehind (init ++ last ∷ []) x n) (sym made) (adds_more (init ++ last ∷ []) x (merged_behind init last x e apart)))

-- The last of the others begins before the piece

last_begins : (a b : ℕ) (init : List RangePiece) (last x : RangePiece) (rest : List RangePiece) → StandWithin a b ((init ++ last ∷ []) ++ x ∷ rest) → last.span.lo ≤ x.span.lo
last_begins a b [] last x rest h = omega (arith, h.1, h.2.0)
last_begins a b (z ∷ zs) last x rest h = last_begins z.span.hi b zs last x rest h.2

pub last_before : (old init : List RangePiece) (last x : RangePiece) → old ≡ init ++ last ∷ [] → (rest : List RangePiece) × StandWithin 0 TOP (old ++ x ∷ rest) → last.span.lo ≤ x.span.lo
last_before old init last x is h =
    last_begins 0 TOP init last x h.0 (subst (λ (o : List RangePiece). StandWithin 0 TOP (o ++ x ∷ h.0)) is h.1)
