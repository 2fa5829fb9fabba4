-- Pins: the least free id, the span that meets one, and a pin that is set.
use Rattle.std.proofs.Common.{◌≡◌, ◌≢◌, ℕ, zero, suc, ◌<◌, ◌≤◌, ◌+◌, inl, inr, true, false, Option, None, Some, is_some, List, [], ◌∷◌, ◌++◌, length, get_or, set, refl, sym, ap, ◌∙◌, arith, get_or-set_same, get_or-set_other}
use Rattle.std.proofs.Math.Seq.{get_or-append_seam}
use Rattle.std.proofs.lemmas.Bool.Decides.{eqb_tells}
use Rattle.std.proofs.lemmas.Bool.{or_from, or_left, or_right}
use Rattle.krl_modes.specs.Spans.{Bounds}
use Rattle.krl_client.specs.Clients.{free_from, meets_one, with_pin}
use Rattle.krl_client.specs.Splits.{if_taken, pin_meets}
use Rattle.krl_client.specs.Fields.{pins_of}

taken : (s : Option Bounds) (i : ℕ) (later : Option ℕ) → is_some s ≡ true → if_taken s i later ≡ later
taken None i later h = absurd (let bad : false ≡ true = h in cc)
taken (Some x) i later h = refl

untaken : (s : Option Bounds) (i : ℕ) (later : Option ℕ) → is_some s ≡ false → if_taken s i later ≡ Some i
untaken None i later h = refl
untaken (Some x) i later h = absurd (let bad : true ≡ false = h in cc)

-- an id is taken: the least free one is a later one
pub free_more : (pins : ℕ → Option Bounds) (i n j m : ℕ) → j ≡ suc i → n ≡ suc m → is_some (pins i) ≡ true → free_from pins i n ≡ free_from pins j m
free_more pins i n j m p q h = rw (p, q) (taken (pins i) i (free_from pins (suc i) m) h)

-- it is free
pub free_here : (pins : ℕ → Option Bounds) (i n m : ℕ) → n ≡ suc m → is_some (pins i) ≡ false → free_from pins i n ≡ Some i
free_here pins i n m q h = rw q (untaken (pins i) i (free_from pins (suc i) m) h)

-- a span that meets none of the first i pins, nor the next
pub meets_more : (pins : ℕ → Option Bounds) (i j : ℕ) (s : Bounds) → j ≡ suc i → meets_one pins i s ≡ false → pin_meets s (pins i) ≡ false → meets_one pins j s ≡ false
meets_more pins i j s p h k = rw p (or_from (pin_meets s (pins i)) (meets_one pins i s) k h)

pub meets_found : (pins : ℕ → Option Bounds) (n i : ℕ) (s : Bounds) → i < n → pin_meets s (pins i) ≡ true → meets_one pins n s ≡ true
meets_found pins zero i s lt h = absurd (omega arith)
meets_found pins (suc n) i s lt h =
    elim (eqb_tells i n) [
      | inl e ↦ or_left (pin_meets s (pins n)) (meets_one pins n s) (ap (λ (k : ℕ). pin_meets s (pins k)) (sym e.1) ∙ h)
      | inr ne ↦ or_right (pin_meets s (pins n)) (meets_one pins n s) (meets_found pins n i s (omega (arith, ne.1)) h)
    ]

-- A pin that is set

set_at : (xs : List (Option Bounds)) (i : ℕ) (s : Option Bounds) → i < length xs → (j : ℕ) → pins_of (set xs i s) j ≡ with_pin (pins_of xs) i s j
set_at xs i s h j =
    elim (eqb_tells j i) [
      | inl e ↦ rw e.0 (ap (λ (k : ℕ). get_or (set xs i s) k None) e.1 ∙ get_or-set_same xs i s None h)
      | inr ne ↦ rw ne.0 (get_or-set_other xs i j s None ne.1)
    ]

pub pins_set : (xs : List (Option Bounds)) (i : ℕ) (s : Option Bounds) → i < length xs → pins_of (set xs i s) ≡ with_pin (pins_of xs) i s
pins_set xs i s h = λ t j. set_at xs i s h j t

beside : (xs : List (Option Bounds)) (s : Option Bounds) (j : ℕ) → j ≢ length xs → get_or (xs ++ s ∷ []) j None ≡ get_or xs j None
beside [] s zero ne = absurd (ne refl)
beside [] s (suc j) ne = refl
beside (x ∷ xs) s zero ne = refl
beside (x ∷ xs) s (suc j) ne = beside xs s j (λ e. ne (ap (λ (k : ℕ). suc k) e))

add_at : (xs : List (Option Bounds)) (s : Option Bounds) (j : ℕ) → pins_of (xs ++ s ∷ []) j ≡ with_pin (pins_of xs) (length xs) s j
add_at xs s j =
    elim (eqb_tells j (length xs)) [
      | inl e ↦ rw e.0 (ap (λ (k : ℕ). get_or (xs ++ s ∷ []) k None) e.1 ∙ get_or-append_seam xs s [] None)
      | inr ne ↦ rw ne.0 (beside xs s j ne.1)
    ]

pub pins_add : (xs : List (Option Bounds)) (i : ℕ) (s : Option Bounds) → i ≡ length xs → pins_of (xs ++ s ∷ []) ≡ with_pin (pins_of xs) i s
pins_add xs i s e = rw e (λ t j. add_at xs s j t)

none_at : (xs : List (Option Bounds)) → pins_of xs (length xs) ≡ None
none_at [] = refl
none_at (x ∷ xs) = none_at xs

not_none : (s : Bounds) (o : Option Bounds) → o ≡ Some s → o ≡ None → ⊥
not_none s o e n = cc

free_upto : (pins : ℕ → Option Bounds) (n i id m : ℕ) → pins m ≡ None → i ≤ m → free_from pins i n ≡ Some id → (id ≤ m) × (id < i + n)
free_upto pins zero i id m none le h = absurd (let bad : None ≡ Some id = h in cc)
free_upto pins (suc n) i id m none le h =
    elim (pins i) as (λ (s : Option Bounds). pins i ≡ s → if_taken s i (free_from pins (suc i) n) ≡ Some id → (id ≤ m) × (id < i + suc n)) [
      | None ↦ λ e k. let is : i ≡ id = cc in (omega arith, omega arith)
      | Some s ↦ λ e k.
          let apart : i ≢ m = λ same. not_none s (pins m) (sym (ap pins same) ∙ e) none in
          let later = free_upto pins n (suc i) id m none (omega arith) k in (later.0, omega arith)
    ] refl h

-- the least free id is one that stands in the list, or the next
pub free_next : (xs : List (Option Bounds)) (id : ℕ) → free_from (pins_of xs) 0 8 ≡ Some id → (id ≤ length xs) × (id < 8)
free_next xs id h = let upto = free_upto (pins_of xs) 8 0 id (length xs) (none_at xs) (omega arith) h in (upto.0, omega arith)
