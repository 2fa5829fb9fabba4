-- Places apart.
use Rattle.std.proofs.Common.{◌≡◌, ◌≢◌, ℕ, zero, suc, ◌≤◌, ◌<◌, List, [], ◌∷◌, ◌++◌, Some, None, sym, subst, arith}
use Rattle.std.specs.List.{AllByRecursion, slice_get, insert, remove}
use Rattle.krl_blocks.specs.Shelves.{AreApart}

module _ (P : ℕ → Type 0) where
  pub all_last : (xs : List ℕ) (p : ℕ) → AllByRecursion P xs → P p → AllByRecursion P (xs ++ p ∷ [])
  all_last [] p h a = (a, tt)
  all_last (x ∷ xs) p h a = (h.0, all_last xs p h.1 a)

  pub all_but_last : (xs : List ℕ) (p : ℕ) → AllByRecursion P (xs ++ p ∷ []) → AllByRecursion P xs × P p
  all_but_last [] p h = (tt, h.0)
  all_but_last (x ∷ xs) p h = let r = all_but_last xs p h.1 in ((h.0, r.0), r.1)

  pub all_inserted : (xs ys : List ℕ) (b p : ℕ) → AllByRecursion P (xs ++ ys) → P p → AllByRecursion P (insert xs b p ++ ys)
  all_inserted xs ys zero p h a = (a, h)
  all_inserted [] ys (suc b) p h a = (a, h)
  all_inserted (x ∷ xs) ys (suc b) p h a = (h.0, all_inserted xs ys b p h.1 a)

  pub all_removed : (xs ys : List ℕ) (b : ℕ) → AllByRecursion P (xs ++ ys) → AllByRecursion P (remove xs b ++ ys)
  all_removed [] ys zero h = h
  all_removed [] ys (suc b) h = h
  all_removed (x ∷ xs) ys zero h = h.1
  all_removed (x ∷ xs) ys (suc b) h = (h.0, all_removed xs ys b h.1)

  pub all_read : (xs ys : List ℕ) (b p : ℕ) → Some p ≡ slice_get xs b → AllByRecursion P (xs ++ ys) → P p
  all_read [] ys b p e h = absurd (let bad : Some p ≡ None = e in cc)
  all_read (x ∷ xs) ys zero p e h = let same : x ≡ p = cc in subst P same h.0
  all_read (x ∷ xs) ys (suc b) p e h = all_read xs ys b p e h.1

pub first_apart : (xs ys : List ℕ) → AreApart (xs ++ ys) → AreApart xs
first_apart [] ys h = tt
first_apart (x ∷ xs) ys h = (first_all xs h.0, first_apart xs ys h.1)
  where
    first_all : (zs : List ℕ) → AllByRecursion (λ q. q ≢ x) (zs ++ ys) → AllByRecursion (λ q. q ≢ x) zs
    first_all [] h = tt
    first_all (z ∷ zs) h = (h.0, first_all zs h.1)

turned : (xs : List ℕ) (p x : ℕ) → AllByRecursion (λ q. q ≢ p) xs → x ≢ p → AllByRecursion (λ q. q ≢ p) (x ∷ xs)
turned xs p x h ne = (ne, h)

-- the last of the places, apart from the others
pub last_apart : (xs : List ℕ) (p : ℕ) → AreApart (xs ++ p ∷ []) → AreApart xs × AllByRecursion (λ q. q ≢ p) xs
last_apart [] p h = (tt, tt)
last_apart (x ∷ xs) p h =
    let r = last_apart xs p h.1 in
    let z = all_but_last (λ q. q ≢ x) xs p h.0 in
    ((z.0, r.0), ((λ e. z.1 (sym e)), r.1))

pub more_apart : (xs : List ℕ) (p : ℕ) → AreApart xs → AllByRecursion (λ q. q ≢ p) xs → AreApart (xs ++ p ∷ [])
more_apart [] p h a = (tt, tt)
more_apart (x ∷ xs) p h a = (all_last (λ q. q ≢ x) xs p h.0 (λ e. a.0 (sym e)), more_apart xs p h.1 a.1)

pub insert_apart : (xs ys : List ℕ) (b p : ℕ) → AreApart (xs ++ ys) → AllByRecursion (λ q. q ≢ p) (xs ++ ys) → AreApart (insert xs b p ++ ys)
insert_apart xs ys zero p h a = (a, h)
insert_apart [] ys (suc b) p h a = (a, h)
insert_apart (x ∷ xs) ys (suc b) p h a = (all_inserted (λ q. q ≢ x) xs ys b p h.0 (λ e. a.0 (sym e)), insert_apart xs ys b p h.1 a.1)

-- a place that is taken away is apart from the others
pub remove_apart : (xs ys : List ℕ) (b p : ℕ) → Some p ≡ slice_get xs b → AreApart (xs ++ ys) → AreApart (remove xs b ++ ys) × AllByRecursion (λ q. q ≢ p) (remove xs b ++ ys)
remove_apart [] ys b p e h = absurd (let bad : Some p ≡ None = e in cc)
remove_apart (x ∷ xs) ys zero p e h = let same : x ≡ p = cc in (h.1, subst (λ (n : ℕ). AllByRecursion (λ q. q ≢ n) (xs ++ ys)) same h.0)
remove_apart (x ∷ xs) ys (suc b) p e h =
    let r = remove_apart xs ys b p e h.1 in
    let ne = all_read (λ q. q ≢ x) xs ys b p e h.0 in
    ((all_removed (λ q. q ≢ x) xs ys b h.0, r.0), ((λ f. ne (sym f)), r.1))

-- places below n are apart from n
pub below_apart : (xs : List ℕ) (n : ℕ) → AllByRecursion (λ p. p < n) xs → AllByRecursion (λ q. q ≢ n) xs
below_apart [] n h = tt
below_apart (x ∷ xs) n h = ((λ e. let lt = h.0 in omega (arith, e, lt)), below_apart xs n h.1)

pub all_weaker : (xs : List ℕ) (n m : ℕ) → n ≤ m → AllByRecursion (λ p. p < n) xs → AllByRecursion (λ p. p < m) xs
all_weaker [] n m le h = tt
all_weaker (x ∷ xs) n m le h = (let lt = h.0 in omega (arith, lt, le), all_weaker xs n m le h.1)
