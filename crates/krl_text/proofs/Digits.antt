-- What digits spell.
use Rattle.std.proofs.Common.{◌≡◌, ℕ, ◌+◌, ◌*◌, ◌≤◌, ◌<◌, ◌^◌, List, [], ◌∷◌, length, drop, get_or, arith, cond, true, false, ◌&&◌, nat_le, ltb, Some, None, refl, sym, subst, ap, ◌∙◌, length-drop}
use Rattle.std.proofs.lemmas.Bool.{lt-ltb}
use Rattle.std.proofs.lemmas.Bool.Decides.{nat_tests}
use Rattle.std.proofs.lemmas.List.{drop_more, nil_from_length}
use Rattle.std.specs.Str.{all_ascii_digits}
use Rattle.std.specs.Char.{digit_value}
use Rattle.std.specs.Str.Parse.{digits_value, digits_value_after}
use Rattle.krl_text.specs.Words.{digits_of, has_digits}

-- more digits make no smaller number
pub digits_value_grows : (n : ℕ) (bytes : List ℕ) → n ≤ digits_value_after 10 n bytes
digits_value_grows n [] = omega arith
digits_value_grows n (b ∷ bytes) = omega (arith, digits_value_grows (n * 10 + digit_value b) bytes)

-- if the digits up to one make too large a number, so do all
pub digits_value_from : (word : List ℕ) (i value : ℕ) → i < length word → digits_value_after 10 value (drop i word) ≡ digits_value 10 word → value * 10 + digit_value (get_or word i 0) ≤ digits_value 10 word
digits_value_from word i value l e =
    let more = digits_value_grows (value * 10 + digit_value (get_or word i 0)) (drop (i + 1) word) in
    let at : digits_value_after 10 value (drop i word) ≡ digits_value_after 10 (value * 10 + digit_value (get_or word i 0)) (drop (i + 1) word) = ap (digits_value_after 10 value) (drop_more word i 0 l) in
    omega (arith, more, at, e)

pub too_large : (word : List ℕ) → 2 ^ 64 ≤ digits_value 10 word → None ≡ digits_of word
too_large word h =
    let over : ltb (digits_value 10 word) (2 ^ 64) ≡ false = grind (arith) in
    elim (has_digits word) as (λ b. None ≡ cond (b && ltb (digits_value 10 word) (2 ^ 64)) (Some (digits_value 10 word)) None) [
      | true ↦ rw over refl
      | false ↦ refl
    ]

-- digits that were all read, and whose number fits
pub spelled : (word : List ℕ) (i value : ℕ) → 0 < length word → length word ≤ 20 → length word ≤ i → digits_value_after 10 value (drop i word) ≡ digits_value 10 word → all_ascii_digits (drop i word) ≡ all_ascii_digits word → value < 2 ^ 64 → Some value ≡ digits_of word
spelled word i value l s e v d f =
    let none : drop i word ≡ [] = nil_from_length (drop i word) (omega (arith, length-drop i word, e)) in
    let is : value ≡ digits_value 10 word = ap (digits_value_after 10 value) (sym none) ∙ v in
    let all : all_ascii_digits word ≡ true = sym d ∙ ap all_ascii_digits none in
    let some : ltb 0 (length word) ≡ true = lt-ltb 0 (length word) l in
    let short : nat_le (length word) 20 ≡ true = grind (arith, nat_tests) in
    let has : has_digits word ≡ true = rw (some, short, all) refl in
    let under : ltb (digits_value 10 word) (2 ^ 64) ≡ true = lt-ltb (digits_value 10 word) (2 ^ 64) (subst (λ n. n < 2 ^ 64) is f) in
    subst (λ b. Some value ≡ cond (b && ltb (digits_value 10 word) (2 ^ 64)) (Some (digits_value 10 word)) None) (sym has)
    (subst (λ b. Some value ≡ cond b (Some (digits_value 10 word)) None) (sym under) (ap Some is))
