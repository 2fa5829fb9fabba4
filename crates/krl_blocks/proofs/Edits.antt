-- One block with one entry more, less, or another.
use Rattle.std.proofs.Common.{get_or, ◌≡◌, ◌≢◌, ℕ, zero, suc, ◌-◌, ◌≤◌, ◌<◌, true, false, List, [], ◌∷◌, ◌++◌, length, take, drop, Option, Some, None, refl, sym, ap, subst, ◌∙◌, arith, slice_set}
use Rattle.std.proofs.lemmas.Option.{slice_get_read}
use Rattle.std.proofs.lemmas.List.{take-append-drop, drop_all}
use Rattle.std.proofs.lemmas.Bool.{ltb-true, ltb-false}
use Rattle.std.proofs.Permutation.{every_append}
use Rattle.std.specs.Prelude.{nat_lt}
use Rattle.std.specs.List.{slice_get}
use Rattle.krl_blocks.specs.Laid.{KeysAbove, KeysRise, AreBelow, AreFrom, NoKey, IsInserted, IsRemoved, IsChanged, HasEntry, last_key}

pub put_is : {V : Type 0} (es ds fs : List (ℕ × V)) (i k : ℕ) (v : V) → ds ≡ es → AreBelow k (take i ds) → AreFrom k (drop i ds) → fs ≡ take i es ++ (k, v) ∷ drop i es → IsInserted es fs k v
put_is {V = V} es ds fs i k v e f g h = record {
  front = take i es;
  back = drop i es;
  old = sym (take-append-drop i es);
  new = h;
  below = subst (λ (zs : List (ℕ × V)). AreBelow k (take i zs)) e f;
  from = subst (λ (zs : List (ℕ × V)). AreFrom k (drop i zs)) e g;
}

pub was_within : {X : Type 0} (i : ℕ) (xs : List X) → true ≡ nat_lt i (length xs) → i < length xs
was_within i xs e = ltb-true i (length xs) (sym e)

pub below_none : {V : Type 0} (k : ℕ) (es : List (ℕ × V)) → AreBelow k es → NoKey k es
below_none k [] h = tt
below_none k (e ∷ es) h = (λ f. omega (arith, f, ltb-true e.0 k h.0), below_none k es h.1)

pub above_none : {V : Type 0} (k j : ℕ) (es : List (ℕ × V)) → k ≤ j → KeysAbove j es → NoKey k es
above_none k j [] le h = tt
above_none k j (e ∷ es) le h = (λ f. omega (arith, f, le, h.0), above_none k j es le h.1)

-- an entry and those before and after it
pub cut_there : {X : Type 0} (es : List X) (i : ℕ) (e : X) → Some e ≡ slice_get es i → es ≡ take i es ++ e ∷ drop (suc i) es
cut_there [] i e h = absurd (let bad : Some e ≡ None = h in cc)
cut_there {X = X} (x ∷ es) zero e h = let same : x ≡ e = cc in ap (λ (z : X). z ∷ es) same
cut_there {X = X} (x ∷ es) (suc i) e h = ap (λ (zs : List X). x ∷ zs) (cut_there es i e h)

pub set_is : {X : Type 0} (xs : List X) (b : ℕ) (x y : X) → Some x ≡ slice_get xs b → slice_set xs b y ≡ take b xs ++ y ∷ drop (suc b) xs
set_is [] b x y h = absurd (let bad : Some x ≡ None = h in cc)
set_is (z ∷ xs) zero x y h = refl
set_is {X = X} (z ∷ xs) (suc b) x y h = ap (λ (zs : List X). z ∷ zs) (set_is xs b x y h)

pub rise_behind : {V : Type 0} (es : List (ℕ × V)) (i : ℕ) → KeysRise es → KeysRise (drop i es)
rise_behind es zero h = h
rise_behind [] (suc i) h = tt
rise_behind (e ∷ es) (suc i) h = rise_behind es i h.1

pub drop_there : {X : Type 0} (es : List X) (i : ℕ) (e : X) → Some e ≡ slice_get es i → drop i es ≡ e ∷ drop (suc i) es
drop_there [] i e h = absurd (let bad : Some e ≡ None = h in cc)
drop_there {X = X} (x ∷ es) zero e h = let same : x ≡ e = cc in ap (λ (z : X). z ∷ es) same
drop_there (x ∷ es) (suc i) e h = drop_there es i e h

module _ {V : Type 0} (es ds : List (ℕ × V)) (i k : ℕ) (e : ds ≡ es) (f : AreBelow k (take i ds)) (g : AreFrom k (drop i ds)) where
  low : AreBelow k (take i es)
  low = subst (λ (zs : List (ℕ × V)). AreBelow k (take i zs)) e f

  high : AreFrom k (drop i es)
  high = subst (λ (zs : List (ℕ × V)). AreFrom k (drop i zs)) e g

  module _ (x : ℕ × V) (gs : List (ℕ × V)) (j : gs ≡ es) (lt : true ≡ nat_lt i (length gs)) (is : x ≡ get_or gs i x) where
    pub there : Some x ≡ slice_get es i
    there = sym (slice_get_read gs (length gs) i x refl (ltb-true i (length gs) (sym lt)) is) ∙ ap (λ (zs : List (ℕ × V)). slice_get zs i) j

    pub taken_is : (fs : List (ℕ × V)) (v : V) → x.0 ≡ k → v ≡ x.1 → fs ≡ take i es ++ drop (suc i) es → IsRemoved es fs k v
    taken_is fs v same value new =
        record {
          front = take i es;
          back = drop (suc i) es;
          old = cut_there es i x there ∙ ap (λ (n : ℕ). take i es ++ (n, x.1) ∷ drop (suc i) es) same ∙ ap (λ (u : V). take i es ++ (k, u) ∷ drop (suc i) es) (sym value);
          new = new;
          below = low;
          from = (subst (AreFrom k) (drop_there es i x there) high).1;
        }

    pub changed_is : (fs : List (ℕ × V)) (v was : V) → x.0 ≡ k → was ≡ x.1 → fs ≡ slice_set es i (k, v) → IsChanged es fs k v was
    changed_is fs v was same value new =
        record {
          front = take i es;
          back = drop (suc i) es;
          old = cut_there es i x there ∙ ap (λ (n : ℕ). take i es ++ (n, x.1) ∷ drop (suc i) es) same ∙ ap (λ (u : V). take i es ++ (k, u) ∷ drop (suc i) es) (sym value);
          new = new ∙ set_is es i x (k, v) there;
          below = low;
          from = (subst (AreFrom k) (drop_there es i x there) high).1;
        }

    pub entry_is : x.0 ≡ k → HasEntry es k x.1
    entry_is same = record { front = take i es; back = drop (suc i) es; whole = cut_there es i x there ∙ ap (λ (n : ℕ). take i es ++ (n, x.1) ∷ drop (suc i) es) same }

    pub no_key_here : KeysRise ds → x.0 ≢ k → NoKey k es
    no_key_here rise ne =
        let at = drop_there es i x there in
        let front = subst (AreFrom k) at high in
        let rising = subst KeysRise at (rise_behind es i (subst KeysRise e rise)) in
        subst (NoKey k) (take-append-drop i es)
        (every_append (λ z. z.0 ≢ k) (take i es) (drop i es) (below_none k (take i es) low)
        (subst (NoKey k) (sym at) (ne, above_none k x.0 (drop (suc i) es) (ltb-false x.0 k front.0) rising.0)))

  pub no_key_behind : (gs : List (ℕ × V)) → gs ≡ es → false ≡ nat_lt i (length gs) → NoKey k es
  no_key_behind gs j far =
      let none = drop_all i es (subst (λ (zs : List (ℕ × V)). length zs ≤ i) j (ltb-false i (length gs) (sym far))) in
      subst (NoKey k) (take-append-drop i es)
      (every_append (λ z. z.0 ≢ k) (take i es) (drop i es) (below_none k (take i es) low) (subst (NoKey k) (sym none) tt))

last_take : {V : Type 0} (o : Option ℕ) (es : List (ℕ × V)) (i : ℕ) (d : ℕ × V) → i < length es → last_key o (take (suc i) es) ≡ Some (get_or es i d).0
last_take o [] i d h = absurd (omega (arith, h))
last_take o (e ∷ es) zero d h = refl
last_take o (e ∷ es) (suc i) d h = last_take (Some e.0) es i d (omega (arith, h))

pub last_cut : {V : Type 0} (es : List (ℕ × V)) (half : ℕ) (e : ℕ × V) → 0 < half → half ≤ length es → e ≡ get_or es (half - 1) e → last_key None (take half es) ≡ Some e.0
last_cut {V = V} es half e some within is =
    let more : half ≡ suc (half - 1) = omega (arith, some) in
    ap (λ n. last_key None (take n es)) more ∙ last_take None es (half - 1) e (omega (arith, some, within)) ∙ ap (λ (f : ℕ × V). Some f.0) (sym is)

-- what stands at b of a list of the same blocks
pub read_at : {X : Type 0} (xs ys : List X) (b : ℕ) (x : X) → b < length ys → ys ≡ xs → x ≡ get_or ys b x → Some x ≡ slice_get xs b
read_at {X = X} xs ys b x lt e is = sym (slice_get_read ys (length ys) b x refl lt is) ∙ ap (λ (zs : List X). slice_get zs b) e

pub same_at : {V : Type 0} (xs ys : List (List (ℕ × V))) (b : ℕ) (x y : List (ℕ × V)) → b < length xs → ys ≡ xs → x ≡ get_or xs b x → y ≡ get_or ys b y → y ≡ x
same_at {V = V} xs ys b x y lt e f g =
    let one = slice_get_read xs (length xs) b x refl lt f in
    let two = slice_get_read xs (length xs) b y refl lt (g ∙ ap (λ (zs : List (List (ℕ × V))). get_or zs b y) e) in
    let both : Some y ≡ Some x = sym two ∙ one in cc
