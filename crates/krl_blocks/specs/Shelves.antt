-- Blocks in an order of their own, each in 64 cells of one list.
use Rattle.std.specs.Prelude.{◌≡◌, ◌≢◌, ◌≤◌, ◌+◌, ◌*◌, ◌⊎◌, ℕ, zero, suc, length, take, drop, replicate, slice_get, slice_set, vec_capacity, List, [], ◌∷◌, ◌++◌, Some}
use Rattle.std.specs.List.{AllByRecursion, insert, remove}
use Rattle.std.specs.Global.{Vec}
use Rattle.krl_blocks.specs.declared.spot.Spot.{Spot}

-- the blocks, in order, and how many there may be with no more memory
pub record Shelved (V : Type 0) : Type 0 where
  pub blocks : List (List (ℕ × V))
  pub most : ℕ

-- one block has other entries
pub record IsOneOther
    {V : Type 0} (xs ys : List (List (ℕ × V))) (b : ℕ) (How : List (ℕ × V) → List (ℕ × V) → Type 0) : Type 0 where
  pub block : List (ℕ × V)
  pub other : List (ℕ × V)
  pub there : Some block ≡ slice_get xs b
  pub new : ys ≡ slice_set xs b other
  pub how : How block other

-- one block is two, the second with the entries from i on
pub record IsSplit {V : Type 0} (xs ys : List (List (ℕ × V))) (b i : ℕ) : Type 0 where
  pub block : List (ℕ × V)
  pub there : Some block ≡ slice_get xs b
  pub new : ys ≡ insert (slice_set xs b (take i block)) (suc b) (drop i block)

-- the block at b and the one after it have at most 64 entries together
abbrev pub AreFew : {V : Type 0} → List (List (ℕ × V)) → ℕ → Type 0
AreFew [] b = Unit {0}
AreFew (x ∷ []) b = Unit {0}
AreFew (x ∷ y ∷ xs) zero = length x + length y ≤ 64
AreFew (x ∷ y ∷ xs) (suc b) = AreFew (y ∷ xs) b

-- one block and the one after it are one
pub record IsJoined {V : Type 0} (xs ys : List (List (ℕ × V))) (b : ℕ) : Type 0 where
  pub lower : List (ℕ × V)
  pub upper : List (ℕ × V)
  pub first : Some lower ≡ slice_get xs b
  pub second : Some upper ≡ slice_get xs (suc b)
  pub new : ys ≡ slice_set (remove xs (suc b)) b (lower ++ upper)

-- the entries of a block
abbrev pub entries_at : {X : Type 0} → List X → Spot → List X
entries_at cells s = take s.len (drop (64 * s.place) cells)

-- the blocks at these spots
abbrev pub shown : {X : Type 0} → List Spot → List X → List (List X)
shown [] cells = []
shown (s ∷ spots) cells = entries_at cells s ∷ shown spots cells

-- the places of these spots
abbrev pub places : List Spot → List ℕ
places [] = []
places (s ∷ spots) = s.place ∷ places spots

-- no two of the places are the same
abbrev pub AreApart : List ℕ → Type 0
AreApart [] = Unit {0}
AreApart (p ∷ ps) = AllByRecursion (λ q. q ≢ p) ps × AreApart ps

-- each place is that of one block, or spare, and there is a place for as many as there may be
pub record IsStored {V : Type 0} (order : Vec Spot) (spare : Vec ℕ) (cells : Vec (ℕ × V)) (most : ℕ) : Type 0 where
  pub apart : AreApart (places order.items ++ spare.items)
  pub within : AllByRecursion (λ p. 64 * p + 64 ≤ length cells.items) (places order.items ++ spare.items)
  pub small : AllByRecursion (λ s. s.len ≤ 64) order.items
  pub all : 64 * (length order.items + length spare.items) ≡ length cells.items
  pub few : length order.items + length spare.items ≤ most
  pub orders : most ≤ vec_capacity order
  pub spares : most ≤ vec_capacity spare
  pub room : 64 * most ≤ vec_capacity cells

-- a place that no block has: the last of the spare ones, or a new one after all cells
abbrev pub IsFree : {X : Type 0} → List ℕ → List ℕ → List X → List X → ℕ → X → Type 0
IsFree spare left cells more place x =
    ((spare ≡ left ++ place ∷ []) × (more ≡ cells))
    ⊎ ((spare ≡ []) × (left ≡ []) × (64 * place ≡ length cells) × (more ≡ cells ++ replicate 64 x))
