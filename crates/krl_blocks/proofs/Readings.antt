-- What reading shows of all entries.
use Rattle.std.proofs.Common.{◌≡◌, ◌≢◌, ℕ, zero, suc, ◌+◌, ◌<◌, true, false, List, [], ◌∷◌, ◌++◌, take, Option, Some, None, refl, sym, ap, subst, ◌∙◌, arith, add-one}
use Rattle.std.specs.Prelude.{nat_lt}
use Rattle.std.specs.List.{AllByRecursion, slice_get}
use Rattle.std.proofs.lemmas.List.{append-nil}
use Rattle.std.proofs.lemmas.Bool.{ltb-false, lt-ltb}
use Rattle.std.proofs.Permutation.{every_append}
use Rattle.krl_blocks.specs.Laid.{flat, EndsAfter, EndsAt, IsLaid, KeysAbove, KeysRise, NoKey, AreBelow, AreFrom, IsFound, IsInserted}
use Rattle.krl_blocks.proofs.Places.{flat_join, keys_after_less}
use Rattle.krl_blocks.proofs.Edits.{below_none, above_none}

module _ {V : Type 0} where
  after_joined : (k : ℕ) (es fs : List (ℕ × V)) (t : ℕ) → EndsAfter k es t → KeysAbove t fs → KeysRise fs → KeysAbove k (es ++ fs) × KeysRise (es ++ fs)
  after_joined k [] fs t h a r = (keys_after_less k t fs (omega (arith, h)) a, r)
  after_joined k (e ∷ es) fs t h a r =
      let z = after_joined e.0 es fs t h.1 a r in
      let lt = h.0 in
      ((lt, keys_after_less k e.0 (es ++ fs) (omega (arith, lt)) z.0), z)

  ends_joined : (k low : ℕ) (es fs : List (ℕ × V)) (t : ℕ) → EndsAt low es t → KeysAbove t fs → KeysRise fs → (k < low → KeysAbove k (es ++ fs)) × KeysRise (es ++ fs)
  ends_joined k low [] fs t h a r = absurd h
  ends_joined k low (e ∷ es) fs t h a r =
      let z = after_joined e.0 es fs t h.1 a r in
      let le = h.0 in
      ((λ lt. (omega (arith, lt, le), keys_after_less k e.0 (es ++ fs) (omega (arith, lt, le)) z.0)), z)

  flat_rises : (k low : ℕ) (ts : List ℕ) (xs : List (List (ℕ × V))) → IsLaid low ts xs → (k < low → KeysAbove k (flat xs)) × KeysRise (flat xs)
  flat_rises k low [] [] h = ((λ lt. tt), tt)
  flat_rises k low [] (x ∷ xs) h = absurd h
  flat_rises k low (t ∷ ts) [] h = absurd h
  flat_rises k low (t ∷ ts) (x ∷ xs) h = let z = flat_rises t (suc t) ts xs h.1 in ends_joined k low x (flat xs) t h.0 (z.0 (omega arith)) z.1

  pub flat_rise : (ts : List ℕ) (xs : List (List (ℕ × V))) → IsLaid 0 ts xs → KeysRise (flat xs)
  flat_rise ts xs h = (flat_rises 0 0 ts xs h).1

  pub back_rises : (es fs : List (ℕ × V)) → KeysRise (es ++ fs) → KeysRise fs
  back_rises [] fs h = h
  back_rises (e ∷ es) fs h = back_rises es fs h.1

  module _ (es : List (ℕ × V)) (k : ℕ) (before : Option ℕ) (run : List (ℕ × V)) (f : IsFound es k before run) where
    none_behind : NoKey k (run ++ f.rest) → NoKey k es
    none_behind h = subst (NoKey k) (sym f.whole) (every_append (λ e. e.0 ≢ k) f.front (run ++ f.rest) (below_none k f.front f.below) h)

    pub found_empty : None ≡ slice_get run 0 → NoKey k es
    found_empty e = by_run run refl e
      where
        by_run : (zs : List (ℕ × V)) → run ≡ zs → None ≡ slice_get zs 0 → NoKey k es
        by_run [] is none = none_behind (subst (NoKey k) (sym (ap (λ (ys : List (ℕ × V)). ys ++ f.rest) is ∙ f.some is)) tt)
        by_run (z ∷ zs) is none = absurd (let bad : None ≡ Some z = none in cc)

    pub found_other : KeysRise es → (e : ℕ × V) → Some e ≡ slice_get run 0 → e.0 ≢ k → NoKey k es
    found_other rise e at ne = by_run run refl at
      where
        by_run : (zs : List (ℕ × V)) → run ≡ zs → Some e ≡ slice_get zs 0 → NoKey k es
        by_run [] is some = absurd (let bad : Some e ≡ None = some in cc)
        by_run (z ∷ zs) is some =
            let same : e ≡ z = cc in
            let here : run ++ f.rest ≡ z ∷ (zs ++ f.rest) = ap (λ (ys : List (ℕ × V)). ys ++ f.rest) is in
            let up : KeysRise (z ∷ (zs ++ f.rest)) = subst KeysRise here (back_rises f.front (run ++ f.rest) (subst KeysRise f.whole rise)) in
            let from = (subst (λ (ys : List (ℕ × V)). AllByRecursion (λ e. nat_lt e.0 k ≡ false) ys) here f.from).0 in
            none_behind (subst (NoKey k) (sym here) (subst (λ (y : ℕ × V). y.0 ≢ k) same ne, above_none k z.0 (zs ++ f.rest) (ltb-false z.0 k from) up.0))

-- Entries put in one after the other, in key order

pub taken_next : {X : Type 0} (xs : List X) (i : ℕ) (x : X) → Some x ≡ slice_get xs i → take (suc i) xs ≡ take i xs ++ x ∷ []
taken_next [] i x e = absurd (let bad : Some x ≡ None = e in cc)
taken_next {X = X} (y ∷ xs) zero x e = let same : y ≡ x = cc in ap (λ (z : X). z ∷ []) same
taken_next {X = X} (y ∷ xs) (suc i) x e = ap (λ (zs : List X). y ∷ zs) (taken_next xs i x e)

module _ {V : Type 0} where
  key_above : (k : ℕ) (es : List (ℕ × V)) (i : ℕ) (e : ℕ × V) → KeysAbove k es → Some e ≡ slice_get es i → k < e.0
  key_above k [] i e h at = absurd (let bad : Some e ≡ None = at in cc)
  key_above k (z ∷ es) zero e h at = let same : z ≡ e = cc in subst (λ (y : ℕ × V). k < y.0) same h.0
  key_above k (z ∷ es) (suc i) e h at = key_above k es i e h.1 at

  pub rise_below : (es : List (ℕ × V)) (i : ℕ) (e : ℕ × V) → KeysRise es → Some e ≡ slice_get es i → AreBelow e.0 (take i es)
  rise_below [] i e h at = absurd (let bad : Some e ≡ None = at in cc)
  rise_below (z ∷ es) zero e h at = tt
  rise_below (z ∷ es) (suc i) e h at = (lt-ltb z.0 e.0 (key_above z.0 es i e h.0 at), rise_below es i e h.1 at)

  below_and_from : (k : ℕ) (f g : List (ℕ × V)) → AreBelow k (f ++ g) → AreFrom k g → g ≡ []
  below_and_from k [] [] h a = refl
  below_and_from k [] (e ∷ g) h a = absurd (let bad : true ≡ false = sym h.0 ∙ a.0 in cc)
  below_and_from k (e ∷ f) g h a = below_and_from k f g h.1 a

  pub inserted_behind : (es fs : List (ℕ × V)) (k : ℕ) (v : V) → AreBelow k es → IsInserted es fs k v → fs ≡ es ++ (k, v) ∷ []
  inserted_behind es fs k v h i =
      let none = below_and_from k i.front i.back (subst (AreBelow k) i.old h) i.from in
      let same : es ≡ i.front = i.old ∙ ap (λ (gs : List (ℕ × V)). i.front ++ gs) none ∙ append-nil i.front in
      i.new ∙ ap (λ (gs : List (ℕ × V)). i.front ++ (k, v) ∷ gs) none ∙ ap (λ (gs : List (ℕ × V)). gs ++ (k, v) ∷ []) (sym same)

  pub inserted_next : (es fs gs : List (ℕ × V)) (i : ℕ) (e : ℕ × V) → KeysRise es → gs ≡ take i es → Some e ≡ slice_get es i → IsInserted gs fs e.0 e.1 → fs ≡ take (i + 1) es
  inserted_next es fs gs i e h is at put =
      inserted_behind gs fs e.0 e.1 (subst (AreBelow e.0) (sym is) (rise_below es i e h at)) put
      ∙ ap (λ (zs : List (ℕ × V)). zs ++ e ∷ []) is ∙ sym (taken_next es i e at) ∙ ap (λ n. take n es) (sym (add-one i))

-- the entries of one run more
pub flat_next : {V : Type 0} (xs : List (List (ℕ × V))) (i : ℕ) (x : List (ℕ × V)) → Some x ≡ slice_get xs i → flat (take (i + 1) xs) ≡ flat (take i xs) ++ x
flat_next {V = V} xs i x e =
    ap flat (ap (λ (n : ℕ). take n xs) (add-one i) ∙ taken_next xs i x e) ∙ flat_join (take i xs) (x ∷ [])
    ∙ ap (λ (es : List (ℕ × V)). flat (take i xs) ++ es) (append-nil x)
