-- Looking at one number after another.
use Rattle.std.proofs.Common.{◌≡◌, ℕ, zero, suc, ◌+◌, ◌<◌, ◌&&◌, Bool, true, false, List, [], ◌∷◌, ◌++◌, Option, None, Some, refl, sym, ap, ◌∙◌, arith, add-one, ◌⊎◌, inl, inr}
use Rattle.std.specs.Prelude.{is_some, not}
use Rattle.std.specs.List.{find}
use Rattle.std.proofs.lemmas.List.Folds.{find-append}
use Rattle.krl_modes.specs.Parts.{ranges_compatible, keys_compatible}
use Rattle.krl_modes.specs.declared.part.RangePart.{RangePart}
use Rattle.krl_modes.specs.declared.part.KeyPart.{KeyPart}
use Rattle.krl_modes.specs.declared.part.RangePart.TheVariants as range
use Rattle.krl_modes.specs.declared.part.KeyPart.TheVariants as key
use Rattle.krl_world.specs.States.{State, range_held, key_held}
use Rattle.krl_script.specs.Soundness.{are_compatible, all_below, numbers_below}

pub all_none : (f : ℕ → Bool) → all_below 0 f ≡ true
unfolding all_below
all_none f = refl

pub all_more : (n : ℕ) (f : ℕ → Bool) → all_below n f ≡ true → f n ≡ true → all_below (n + 1) f ≡ true
unfolding all_below
all_more n f all here = rw (add-one n, all, here) refl

-- a number is one of those below n, or n
below_or_at : (k n : ℕ) → k < suc n → (k < n) ⊎ (k ≡ n)
below_or_at k n l = grind arith

and_false : (b : Bool) → b && false ≡ false
and_false true = refl
and_false false = refl

pub all_fails : (k n : ℕ) (f : ℕ → Bool) → k < n → f k ≡ false → all_below n f ≡ false
unfolding all_below
all_fails k zero f l here = absurd (omega arith)
all_fails k (suc n) f l here =
    elim (below_or_at k n l) [
      | inl below ↦ rw (all_fails k n f below here) refl
      | inr at ↦ let fails : f n ≡ false = ap f (sym at) ∙ here in rw fails (and_false (all_below n f))
    ]

pub all_of_below : (n : ℕ) (f : ℕ → Bool) → ((k : ℕ) → k < n → f k ≡ true) → all_below n f ≡ true
unfolding all_below
all_of_below zero f each = refl
all_of_below (suc n) f each = rw (all_of_below n f (λ k l. each k (omega (arith, l))), each n (omega arith)) refl

-- N is compatible with everything
pub nothing_goes : (w : State) (n c p : ℕ) (held : RangePart × KeyPart) → held ≡ (range_held w c p, key_held w c p) → held.0 ≡ range.N → held.1 ≡ key.N → all_below n (are_compatible w p c) ≡ true
nothing_goes w n c p held is no_range no_key =
    let no_range' : range_held w c p ≡ range.N = sym (ap (λ (h : RangePart × KeyPart). h.0) is) ∙ no_range in
    let no_key' : key_held w c p ≡ key.N = sym (ap (λ (h : RangePart × KeyPart). h.1) is) ∙ no_key in
    all_of_below n (are_compatible w p c) (λ d l. rw (no_range', no_key') refl)

-- what the parts show, which were read
pub goes_by : (w : State) (c d p : ℕ) (held : RangePart × KeyPart) (b : Bool) → held ≡ (range_held w c p, key_held w c p) → b ≡ ranges_compatible held.0 (range_held w d p) && keys_compatible held.1 (key_held w d p) → b ≡ are_compatible w p c d
goes_by w c d p held b is e = e ∙ ap (λ (h : RangePart × KeyPart). ranges_compatible h.0 (range_held w d p) && keys_compatible h.1 (key_held w d p)) is

pub none_first : (f : ℕ → Bool) → find f (numbers_below 0) ≡ None
unfolding numbers_below
none_first f = refl

pub none_more : (n : ℕ) (f : ℕ → Bool) → find f (numbers_below n) ≡ None → f n ≡ false → find f (numbers_below (n + 1)) ≡ None
unfolding numbers_below
none_more n f none here = rw (add-one n, find-append, none, here) refl

pub found_here : (k n : ℕ) (f : ℕ → Bool) → k < n → find f (numbers_below k) ≡ None → f k ≡ true → find f (numbers_below n) ≡ Some k
unfolding numbers_below
found_here k zero f l none here = absurd (omega arith)
found_here k (suc n) f l none here =
    elim (below_or_at k n l) [
      | inl below ↦ rw (find-append, found_here k n f below none here) refl
      | inr at ↦ let none' : find f (numbers_below n) ≡ None = ap (λ (m : ℕ). find f (numbers_below m)) (sym at) ∙ none in
          let here' : f n ≡ true = ap f (sym at) ∙ here in
          rw (find-append, none', here') (ap Some (sym at))
    ]

-- what is found among the numbers, or after them
pub found_before : (f : ℕ → Bool) (xs ys : List ℕ) (r : Option ℕ) → r ≡ find f xs → is_some r ≡ true → r ≡ find f (xs ++ ys)
found_before f xs ys None e some = absurd (let bad : false ≡ true = some in cc)
found_before f xs ys (Some x) e some = rw (find-append, ← e) refl

found_after : (f : ℕ → Bool) (xs ys : List ℕ) (r s : Option ℕ) → r ≡ find f xs → is_some r ≡ false → s ≡ find f ys → s ≡ find f (xs ++ ys)
found_after f xs ys None s e none found = rw (find-append, ← e) found
found_after f xs ys (Some x) s e none found = absurd (let bad : true ≡ false = none in cc)

pub found_next : (f : ℕ → Bool) (xs : List ℕ) (a b : ℕ) (r : Option ℕ) → r ≡ find f xs → is_some r ≡ false → f a ≡ true → Some a ≡ find f (xs ++ a ∷ b ∷ [])
found_next f xs a b r e none here = found_after f xs (a ∷ b ∷ []) r (Some a) e none (rw here refl)

pub found_last : (f : ℕ → Bool) (xs : List ℕ) (a b : ℕ) (r : Option ℕ) → r ≡ find f xs → is_some r ≡ false → f a ≡ false → f b ≡ true → Some b ≡ find f (xs ++ a ∷ b ∷ [])
found_last f xs a b r e none not_a here = found_after f xs (a ∷ b ∷ []) r (Some b) e none (rw (not_a, here) refl)

pub found_nowhere : (f : ℕ → Bool) (xs : List ℕ) (a b : ℕ) (r : Option ℕ) → r ≡ find f xs → is_some r ≡ false → f a ≡ false → f b ≡ false → None ≡ find f (xs ++ a ∷ b ∷ [])
found_nowhere f xs a b r e none not_a not_b = found_after f xs (a ∷ b ∷ []) r None e none (rw (not_a, not_b) refl)

-- what was looked at, from what a function returned of it
pub is_false : (b c : Bool) → b ≡ c → b ≡ false → not c ≡ true
is_false b c e h = rw (← e, h) refl

pub is_true : (b c : Bool) → b ≡ c → b ≡ true → not c ≡ false
is_true b c e h = rw (← e, h) refl

-- nothing is found if the test fails everywhere
pub none_unsound : (n : ℕ) (f : ℕ → Bool) → ((k : ℕ) → f k ≡ false) → find f (numbers_below n) ≡ None
unfolding numbers_below
none_unsound zero f each = refl
none_unsound (suc n) f each = rw (find-append, none_unsound n f each, each n) refl
