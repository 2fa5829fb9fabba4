-- A guess of how many of a list that rises lie below a point: a look at the last of these, and at the one after it.
use Rattle.std.proofs.Common.{◌≡◌, ℕ, zero, suc, ◌-◌, ◌≤◌, ◌<◌, true, false, List, [], ◌∷◌, length, take, drop, Some, None, ap, ◌∙◌, arith}
use Rattle.std.proofs.lemmas.Bool.{ltb-true, leb-true, lt-ltb, le-ltb}
use Rattle.std.specs.Prelude.{nat_lt, nat_le}
use Rattle.std.specs.List.{AllByRecursion, slice_get}
use Rattle.krl_blocks.specs.Laid.{Above, Rises, KeysAbove, KeysRise, AreBelow, AreFrom}
use Rattle.krl_blocks.proofs.Places.{above_from as keys_above_from}

-- Numbers

above_taken : (k : ℕ) (ns : List ℕ) (i : ℕ) → Above k ns → Above k (take i ns)
above_taken k [] zero h = tt
above_taken k [] (suc i) h = tt
above_taken k (n ∷ ns) zero h = tt
above_taken k (n ∷ ns) (suc i) h = (h.0, above_taken k ns i h.1)

pub taken_rise : (ns : List ℕ) (i : ℕ) → Rises ns → Rises (take i ns)
taken_rise [] zero h = tt
taken_rise [] (suc i) h = tt
taken_rise (n ∷ ns) zero h = tt
taken_rise (n ∷ ns) (suc i) h = (above_taken n ns i h.0, taken_rise ns i h.1)

pub dropped_rise : (ns : List ℕ) (i : ℕ) → Rises ns → Rises (drop i ns)
dropped_rise [] zero h = tt
dropped_rise [] (suc i) h = tt
dropped_rise (n ∷ ns) zero h = h
dropped_rise (n ∷ ns) (suc i) h = dropped_rise ns i h.1

up_to_last : (k : ℕ) (ns : List ℕ) (l p : ℕ) → Rises (k ∷ ns) → Some l ≡ slice_get (k ∷ ns) (length ns) → l < p → AllByRecursion (λ t. nat_lt t p ≡ true) (k ∷ ns) × (k ≤ l)
up_to_last k [] l p h e lt = let same : l ≡ k = cc in ((lt-ltb k p (omega (arith, same, lt)), tt), omega (arith, same))
up_to_last k (n ∷ ns) l p h e lt =
    let r = up_to_last n ns l p h.1 e lt in let up = h.0.0 in let le = r.1 in
    ((lt-ltb k p (omega (arith, up, le, lt)), r.0), omega (arith, up, le))

-- if the last lies below the point, all do
pub below_by_last : (ns : List ℕ) (l p : ℕ) → Rises ns → Some l ≡ slice_get ns (length ns - 1) → nat_lt l p ≡ true → AllByRecursion (λ t. nat_lt t p ≡ true) ns
below_by_last [] l p h e t = tt
below_by_last (n ∷ ns) l p h e t = (up_to_last n ns l p h (e ∙ ap (slice_get (n ∷ ns)) (let less : length (n ∷ ns) - 1 ≡ length ns = omega arith in less)) (ltb-true l p t)).0

pub below_by_none : (ns : List ℕ) (p : ℕ) → None ≡ slice_get ns (length ns - 1) → AllByRecursion (λ t. nat_lt t p ≡ true) ns
below_by_none [] p e = tt
below_by_none (n ∷ ns) p e = absurd (last_there n ns (e ∙ ap (slice_get (n ∷ ns)) (let less : length (n ∷ ns) - 1 ≡ length ns = omega arith in less)))
  where
    last_there : (k : ℕ) (ks : List ℕ) → None ≡ slice_get (k ∷ ks) (length ks) → ⊥
    last_there k [] f = let bad : None ≡ Some k = f in absurd (cc)
    last_there k (j ∷ ks) f = last_there j ks f

above_from : (k : ℕ) (ns : List ℕ) (p : ℕ) → Above k ns → p ≤ k → AllByRecursion (λ t. nat_lt t p ≡ false) ns
above_from k [] p h le = tt
above_from k (n ∷ ns) p h le = let up = h.0 in (le-ltb n p (omega (arith, up, le)), above_from k ns p h.1 le)

-- if the first does not lie below the point, none does
pub from_by_first : (ns : List ℕ) (f p : ℕ) → Rises ns → Some f ≡ slice_get ns 0 → nat_le p f ≡ true → AllByRecursion (λ t. nat_lt t p ≡ false) ns
from_by_first [] f p h e t = tt
from_by_first (n ∷ ns) f p h e t = let same : f ≡ n = cc in let le = leb-true p f t in (le-ltb n p (omega (arith, same, le)), above_from n ns p h.0 (omega (arith, same, le)))

pub from_by_none : (ns : List ℕ) (p : ℕ) → None ≡ slice_get ns 0 → AllByRecursion (λ t. nat_lt t p ≡ false) ns
from_by_none [] p e = tt
from_by_none (n ∷ ns) p e = absurd (let bad : None ≡ Some n = e in cc)

-- Entries

module _ {V : Type 0} where
  keys_above_taken : (k : ℕ) (es : List (ℕ × V)) (i : ℕ) → KeysAbove k es → KeysAbove k (take i es)
  keys_above_taken k [] zero h = tt
  keys_above_taken k [] (suc i) h = tt
  keys_above_taken k (e ∷ es) zero h = tt
  keys_above_taken k (e ∷ es) (suc i) h = (h.0, keys_above_taken k es i h.1)

  pub taken_keys_rise : (es : List (ℕ × V)) (i : ℕ) → KeysRise es → KeysRise (take i es)
  taken_keys_rise [] zero h = tt
  taken_keys_rise [] (suc i) h = tt
  taken_keys_rise (e ∷ es) zero h = tt
  taken_keys_rise (e ∷ es) (suc i) h = (keys_above_taken e.0 es i h.0, taken_keys_rise es i h.1)

  keys_to_last : (z : ℕ × V) (es : List (ℕ × V)) (l : ℕ × V) (p : ℕ) → KeysRise (z ∷ es) → Some l ≡ slice_get (z ∷ es) (length es) → l.0 < p → AreBelow p (z ∷ es) × (z.0 ≤ l.0)
  keys_to_last z [] l p h e lt = let same : l ≡ z = cc in let key = ap (λ (y : ℕ × V). y.0) same in ((lt-ltb z.0 p (omega (arith, key, lt)), tt), omega (arith, key))
  keys_to_last z (x ∷ es) l p h e lt =
      let r = keys_to_last x es l p h.1 e lt in let up = h.0.0 in let le = r.1 in
      ((lt-ltb z.0 p (omega (arith, up, le, lt)), r.0), omega (arith, up, le))

  pub keys_below_by_last : (es : List (ℕ × V)) (l : ℕ × V) (p : ℕ) → KeysRise es → Some l ≡ slice_get es (length es - 1) → nat_lt l.0 p ≡ true → AreBelow p es
  keys_below_by_last [] l p h e t = tt
  keys_below_by_last (z ∷ es) l p h e t = (keys_to_last z es l p h (e ∙ ap (slice_get (z ∷ es)) (let less : length (z ∷ es) - 1 ≡ length es = omega arith in less)) (ltb-true l.0 p t)).0

  pub keys_below_by_none : (es : List (ℕ × V)) (p : ℕ) → None ≡ slice_get es (length es - 1) → AreBelow p es
  keys_below_by_none [] p e = tt
  keys_below_by_none (z ∷ es) p e = absurd (last_there z es (e ∙ ap (slice_get (z ∷ es)) (let less : length (z ∷ es) - 1 ≡ length es = omega arith in less)))
    where
      last_there : (y : ℕ × V) (ys : List (ℕ × V)) → None ≡ slice_get (y ∷ ys) (length ys) → ⊥
      last_there y [] f = let bad : None ≡ Some y = f in absurd (cc)
      last_there y (x ∷ ys) f = last_there x ys f

  pub keys_from_by_first : (es : List (ℕ × V)) (f : ℕ × V) (p : ℕ) → KeysRise es → Some f ≡ slice_get es 0 → nat_le p f.0 ≡ true → AreFrom p es
  keys_from_by_first [] f p h e t = tt
  keys_from_by_first (z ∷ es) f p h e t =
      let same : f ≡ z = cc in let key = ap (λ (y : ℕ × V). y.0) same in let le = leb-true p f.0 t in
      (le-ltb z.0 p (omega (arith, key, le)), keys_above_from p z.0 es (omega (arith, key, le)) h.0)

  pub keys_from_by_none : (es : List (ℕ × V)) (p : ℕ) → None ≡ slice_get es 0 → AreFrom p es
  keys_from_by_none [] p e = tt
  keys_from_by_none (z ∷ es) p e = absurd (let bad : None ≡ Some z = e in cc)
