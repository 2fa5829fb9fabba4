-- What a change of one block makes of all, if only its entries matter.
use Rattle.std.proofs.Common.{◌≡◌, ℕ, zero, suc, List, [], ◌∷◌, ◌++◌, take, drop, Some, None, refl, sym, ap, subst, ◌∙◌, slice_set}
use Rattle.std.proofs.lemmas.List.{append_assoc}
use Rattle.std.specs.List.{AllByRecursion, slice_get, insert, remove}
use Rattle.krl_blocks.specs.Laid.{flat}

module _ {X : Type 0} (P : X → Type 0) where
  pub all_take : (xs : List X) (n : ℕ) → AllByRecursion P xs → AllByRecursion P (take n xs)
  all_take [] zero h = tt
  all_take [] (suc n) h = tt
  all_take (x ∷ xs) zero h = tt
  all_take (x ∷ xs) (suc n) h = (h.0, all_take xs n h.1)

  pub all_set : (xs : List X) (b : ℕ) (y : X) → AllByRecursion P xs → P y → AllByRecursion P (slice_set xs b y)
  all_set [] b y h p = tt
  all_set (x ∷ xs) zero y h p = (p, h.1)
  all_set (x ∷ xs) (suc b) y h p = (h.0, all_set xs b y h.1 p)

  pub all_remove : (xs : List X) (b : ℕ) → AllByRecursion P xs → AllByRecursion P (remove xs b)
  all_remove [] zero h = tt
  all_remove [] (suc b) h = tt
  all_remove (x ∷ xs) zero h = h.1
  all_remove (x ∷ xs) (suc b) h = (h.0, all_remove xs b h.1)

  pub all_insert : (xs : List X) (b : ℕ) (y : X) → AllByRecursion P xs → P y → AllByRecursion P (insert xs b y)
  all_insert xs zero y h p = (p, h)
  all_insert [] (suc b) y h p = (p, tt)
  all_insert (x ∷ xs) (suc b) y h p = (h.0, all_insert xs b y h.1 p)

  pub all_at : (xs : List X) (b : ℕ) (x : X) → Some x ≡ slice_get xs b → AllByRecursion P xs → P x
  all_at [] b x e h = absurd (let bad : Some x ≡ None = e in cc)
  all_at (y ∷ xs) zero x e h = let same : y ≡ x = cc in subst P same h.0
  all_at (y ∷ xs) (suc b) x e h = all_at xs b x e h.1

pub head_none : {X : Type 0} (xs : List X) → None ≡ slice_get xs 0 → xs ≡ []
head_none [] h = refl
head_none (x ∷ xs) h = absurd (let bad : None ≡ Some x = h in cc)

pub remove_set : {X : Type 0} (xs : List X) (b : ℕ) (y : X) → remove (slice_set xs b y) b ≡ remove xs b
remove_set [] zero y = refl
remove_set [] (suc b) y = refl
remove_set (x ∷ xs) zero y = refl
remove_set {X = X} (x ∷ xs) (suc b) y = ap (λ (zs : List X). x ∷ zs) (remove_set xs b y)

pub set_reads : {X : Type 0} (xs : List X) (b : ℕ) (x y : X) → Some x ≡ slice_get xs b → Some y ≡ slice_get (slice_set xs b y) b
set_reads [] b x y e = absurd (let bad : Some x ≡ None = e in cc)
set_reads (z ∷ xs) zero x y e = refl
set_reads (z ∷ xs) (suc b) x y e = set_reads xs b x y e

module _ {V : Type 0} where
  pub flat_set : (xs : List (List (ℕ × V))) (b : ℕ) (x y : List (ℕ × V)) → Some x ≡ slice_get xs b → flat (slice_set xs b y) ≡ flat (take b xs) ++ (y ++ flat (drop (suc b) xs))
  flat_set [] b x y h = absurd (let bad : Some x ≡ None = h in cc)
  flat_set (z ∷ xs) zero x y h = refl
  flat_set (z ∷ xs) (suc b) x y h = ap (λ (es : List (ℕ × V)). z ++ es) (flat_set xs b x y h) ∙ sym (append_assoc z (flat (take b xs)) (y ++ flat (drop (suc b) xs)))

  pub flat_gone : (xs : List (List (ℕ × V))) (b : ℕ) (y : List (ℕ × V)) → Some y ≡ slice_get xs b → y ≡ [] → flat (remove xs b) ≡ flat xs
  flat_gone [] b y h e = absurd (let bad : Some y ≡ None = h in cc)
  flat_gone (z ∷ xs) zero y h e = let same : y ≡ z = cc in let none : z ≡ [] = (sym same) ∙ e in ap (λ (es : List (ℕ × V)). es ++ flat xs) (sym none)
  flat_gone (z ∷ xs) (suc b) y h e = ap (λ (es : List (ℕ × V)). z ++ es) (flat_gone xs b y h e)

  pub flat_halved : (xs : List (List (ℕ × V))) (b : ℕ) (x l u : List (ℕ × V)) → Some x ≡ slice_get xs b → x ≡ l ++ u → flat (insert (slice_set xs b l) (suc b) u) ≡ flat xs
  flat_halved [] b x l u h e = absurd (let bad : Some x ≡ None = h in cc)
  flat_halved (z ∷ xs) zero x l u h e =
      let same : x ≡ z = cc in
      sym (append_assoc l u (flat xs)) ∙ ap (λ (es : List (ℕ × V)). es ++ flat xs) (sym e ∙ same)
  flat_halved (z ∷ xs) (suc b) x l u h e = ap (λ (es : List (ℕ × V)). z ++ es) (flat_halved xs b x l u h e)

  pub flat_merged : (xs : List (List (ℕ × V))) (j : ℕ) (p q z : List (ℕ × V)) → Some p ≡ slice_get xs j → Some q ≡ slice_get xs (suc j) → z ≡ p ++ q → flat (slice_set (remove xs (suc j)) j z) ≡ flat xs
  flat_merged [] j p q z f g e = absurd (let bad : Some p ≡ None = f in cc)
  flat_merged (x ∷ []) zero p q z f g e = absurd (let bad : Some q ≡ None = g in cc)
  flat_merged (x ∷ y ∷ xs) zero p q z f g e =
      let one : p ≡ x = cc in let two : q ≡ y = cc in
      ap (λ (es : List (ℕ × V)). es ++ flat xs) (e ∙ ap (λ (w : List (ℕ × V)). w ++ q) one ∙ ap (λ (w : List (ℕ × V)). x ++ w) two) ∙ append_assoc x y (flat xs)
  flat_merged (x ∷ xs) (suc j) p q z f g e = ap (λ (es : List (ℕ × V)). x ++ es) (flat_merged xs j p q z f g e)
