-- Neighbours that are not too thin.
use Rattle.std.proofs.Common.{◌≡◌, ℕ, zero, suc, ◌+◌, ◌≤◌, ◌<◌, false, List, [], ◌∷◌, ◌++◌, length, Some, None, sym, ap, subst, ◌∙◌, arith, slice_set}
use Rattle.std.proofs.lemmas.Bool.Decides.{nat_tests}
use Rattle.std.specs.Prelude.{nat_le}
use Rattle.std.specs.List.{AllByRecursion, slice_get, insert, remove}
use Rattle.krl_blocks.specs.Laid.{AreThick, AreNearlyThick, is_thin, last_length}

was_more : (n m : ℕ) → nat_le n m ≡ false → m < n
was_more n m h = grind (arith, nat_tests)

module _ {V : Type 0} where
  abbrev pub IsFilled : List (ℕ × V) → Type 0
  IsFilled x = 0 < length x

  pub thick_from : (m n : ℕ) (xs : List (List (ℕ × V))) → m ≤ n → AreThick m xs → AreThick n xs
  thick_from m n [] le h = tt
  thick_from m n (x ∷ xs) le h = (omega (arith, le, h.0), h.1)

  pub thick_set : (n : ℕ) (xs : List (List (ℕ × V))) (b : ℕ) (x y : List (ℕ × V)) → AreThick n xs → Some x ≡ slice_get xs b → length x ≤ length y → AreThick n (slice_set xs b y)
  thick_set n [] b x y h e le = tt
  thick_set n (z ∷ xs) zero x y h e le =
      let same : x ≡ z = cc in
      let at : length z ≤ length y = subst (λ (w : List (ℕ × V)). length w ≤ length y) same le in
      (omega (arith, at, h.0), thick_from (length z) (length y) xs at h.1)
  thick_set n (z ∷ xs) (suc b) x y h e le = (h.0, thick_set (length z) xs b x y h.1 e le)

  pub thick_more : (n : ℕ) (xs : List (List (ℕ × V))) (y : List (ℕ × V)) → AreThick n xs → 32 < last_length n xs + length y → AreThick n (xs ++ y ∷ [])
  thick_more n [] y h lt = (lt, tt)
  thick_more n (x ∷ xs) y h lt = (h.0, thick_more (length x) xs y h.1 lt)

  pub thick_halved : (n : ℕ) (xs : List (List (ℕ × V))) (b : ℕ) (x l u : List (ℕ × V)) → 0 < n → AllByRecursion IsFilled xs → AreThick n xs → Some x ≡ slice_get xs b → 32 ≤ length l → 32 ≤ length u → AreThick n (insert (slice_set xs b l) (suc b) u)
  thick_halved n [] b x l u some each h e f g = absurd (let bad : Some x ≡ None = e in cc)
  thick_halved n (z ∷ []) zero x l u some each h e f g = (omega (arith, some, f), (omega (arith, f, g), tt))
  thick_halved n (z ∷ y ∷ xs) zero x l u some each h e f g = (omega (arith, some, f), (omega (arith, f, g), (let y_some = each.1.0 in omega (arith, g, y_some), h.1.1)))
  thick_halved n (z ∷ xs) (suc b) x l u some each h e f g = (h.0, thick_halved (length z) xs b x l u each.0 each.1 h.1 e f g)

  -- one entry less in the block at b
  pub nearly : (n : ℕ) (xs : List (List (ℕ × V))) (b : ℕ) (x y : List (ℕ × V)) → AreThick n xs → Some x ≡ slice_get xs b → length x ≡ suc (length y) → AreNearlyThick n b (slice_set xs b y)
  nearly n [] b x y h e is = tt
  nearly n (z ∷ xs) zero x y h e is =
      let same : x ≡ z = cc in
      let at : length z ≡ suc (length y) = ap length (sym same) ∙ is in
      (subst (λ k. 32 < n + k) at h.0, subst (λ k. AreThick k xs) at h.1)
  nearly n (z ∷ xs) (suc b) x y h e is = (h.0, nearly (length z) xs b x y h.1 e is)

  -- and none is left there
  pub nearly_gone : (n : ℕ) (xs : List (List (ℕ × V))) (b : ℕ) (x y : List (ℕ × V)) → AreThick n xs → Some x ≡ slice_get xs b → length x ≡ 1 → AreThick n (remove xs b)
  nearly_gone n [] b x y h e is = absurd (let bad : Some x ≡ None = e in cc)
  nearly_gone n (z ∷ xs) zero x y h e is =
      let same : x ≡ z = cc in
      let at : length z ≡ 1 = ap length (sym same) ∙ is in
      thick_from (length z) n xs (omega (arith, at, h.0)) h.1
  nearly_gone n (z ∷ xs) (suc b) x y h e is = (h.0, nearly_gone (length z) xs b x y h.1 e is)

  abbrev pub LeftIsThick : ℕ → ℕ → List (List (ℕ × V)) → Type 0
  LeftIsThick n zero [] = Unit {0}
  LeftIsThick n zero (x ∷ xs) = 32 < n + length x
  LeftIsThick n (suc b) xs = is_thin xs b ≡ false

  pub nearly_none : (n b : ℕ) (xs : List (List (ℕ × V))) → AreNearlyThick n b xs → is_thin xs b ≡ false → LeftIsThick n b xs → AreThick n xs
  nearly_none n b [] h f l = tt
  nearly_none n zero (x ∷ []) h f l = (l, tt)
  nearly_none n zero (x ∷ y ∷ xs) h f l = (l, (was_more (length x + length y) 32 f, h.1.1))
  nearly_none n (suc b) (x ∷ []) h f l = (h.0, tt)
  nearly_none n (suc zero) (x ∷ y ∷ xs) h f l = (h.0, nearly_none (length x) zero (y ∷ xs) h.1 f (was_more (length x + length y) 32 l))
  nearly_none n (suc (suc b)) (x ∷ y ∷ xs) h f l = (h.0, nearly_none (length x) (suc b) (y ∷ xs) h.1 f l)

  pub merged_here : (n j : ℕ) (xs : List (List (ℕ × V))) (p q z : List (ℕ × V)) → AllByRecursion IsFilled xs → AreNearlyThick n j xs → Some p ≡ slice_get xs j → Some q ≡ slice_get xs (suc j) → length z ≡ length p + length q → AreThick n (slice_set (remove xs (suc j)) j z)
  merged_here n j [] p q z each h f g is = absurd (let bad : Some p ≡ None = f in cc)
  merged_here n zero (x ∷ []) p q z each h f g is = absurd (let bad : Some q ≡ None = g in cc)
  merged_here n zero (x ∷ y ∷ xs) p q z each h f g is =
      let one : p ≡ x = cc in let two : q ≡ y = cc in
      let at : length z ≡ length x + length y = is ∙ ap (λ (w : List (ℕ × V)). length w + length q) one ∙ ap (λ (w : List (ℕ × V)). length x + length w) two in
      let some = each.1.0 in
      (omega (arith, h.0, at, some), thick_from (length y) (length z) xs (omega (arith, at)) h.1.1)
  merged_here n (suc j) (x ∷ xs) p q z each h f g is = (h.0, merged_here (length x) j xs p q z each.1 h.1 f g is)

  pub merged_before : (n j : ℕ) (xs : List (List (ℕ × V))) (p q z : List (ℕ × V)) → AllByRecursion IsFilled xs → AreNearlyThick n (suc j) xs → Some p ≡ slice_get xs j → Some q ≡ slice_get xs (suc j) → length z ≡ length p + length q → AreThick n (slice_set (remove xs (suc j)) j z)
  merged_before n j [] p q z each h f g is = absurd (let bad : Some p ≡ None = f in cc)
  merged_before n zero (x ∷ []) p q z each h f g is = absurd (let bad : Some q ≡ None = g in cc)
  merged_before n zero (x ∷ y ∷ xs) p q z each h f g is =
      let one : p ≡ x = cc in let two : q ≡ y = cc in
      let at : length z ≡ length x + length y = is ∙ ap (λ (w : List (ℕ × V)). length w + length q) one ∙ ap (λ (w : List (ℕ × V)). length x + length w) two in
      let some = each.0 in
      (omega (arith, h.0, at), thick_from (suc (length y)) (length z) xs (omega (arith, at, some)) h.1.1)
  merged_before n (suc j) (x ∷ xs) p q z each h f g is = (h.0, merged_before (length x) j xs p q z each.1 h.1 f g is)
