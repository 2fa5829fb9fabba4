-- How the entries lie: in blocks, each with the greatest of its keys.
pub use Rattle.krl_blocks.specs.Entries.{KeysAbove, KeysRise, AreBelow, AreFrom, NoKey, last_key, HasEntry, IsFound, IsInserted, IsRemoved, IsChanged}
pub use Rattle.krl_blocks.specs.Shelves.{Shelved, IsOneOther}
use Rattle.std.specs.Prelude.{◌≡◌, slice_set, slice_get, vec_capacity, length, take, drop, ◌⊎◌, ◌+◌, ◌-◌, ◌*◌, ◌≤◌, ◌<◌, ℕ, zero, suc, Bool, true, false, nat_lt, nat_le, List, [], ◌∷◌, ◌++◌, Some, None}
use Rattle.std.specs.List.{AllByRecursion, flat_map, insert}
use Rattle.std.specs.Global.{Vec}

-- the entries of all blocks, in order
abbrev pub flat : {V : Type 0} → List (List (ℕ × V)) → List (ℕ × V)
flat xs = flat_map (λ x. x) xs

-- each number of the list is above k
abbrev pub Above : ℕ → List ℕ → Type 0
Above k [] = Unit {0}
Above k (n ∷ ns) = (k < n) × Above k ns

-- the numbers strictly rise
abbrev pub Rises : List ℕ → Type 0
Rises [] = Unit {0}
Rises (n ∷ ns) = Above n ns × Rises ns

-- the keys rise from above k on, and the last of them is top, or k is if there is none
abbrev pub EndsAfter : {V : Type 0} → ℕ → List (ℕ × V) → ℕ → Type 0
EndsAfter k [] top = k ≡ top
EndsAfter k (e ∷ es) top = (k < e.0) × EndsAfter e.0 es top

-- there are keys, which rise, the first is at least low, and the last is top
abbrev pub EndsAt : {V : Type 0} → ℕ → List (ℕ × V) → ℕ → Type 0
EndsAt low [] top = ⊥
EndsAt low (e ∷ es) top = (low ≤ e.0) × EndsAfter e.0 es top

-- the blocks, none of them empty, whose keys rise through all of them from low on, and their tops
abbrev pub IsLaid : {V : Type 0} → ℕ → List ℕ → List (List (ℕ × V)) → Type 0
IsLaid low [] [] = Unit {0}
IsLaid low [] (x ∷ xs) = ⊥
IsLaid low (t ∷ ts) [] = ⊥
IsLaid low (t ∷ ts) (x ∷ xs) = EndsAt low x t × IsLaid (suc t) ts xs

-- the same, and they end at top or before
abbrev pub LaidTo : {V : Type 0} → ℕ → List ℕ → List (List (ℕ × V)) → ℕ → Type 0
LaidTo low [] [] top = low ≤ suc top
LaidTo low [] (x ∷ xs) top = ⊥
LaidTo low (t ∷ ts) [] top = ⊥
LaidTo low (t ∷ ts) (x ∷ xs) top = EndsAt low x t × LaidTo (suc t) ts xs top

-- each two neighbours have more than 32 entries together, if n entries stand before the first
abbrev pub AreThick : {V : Type 0} → ℕ → List (List (ℕ × V)) → Type 0
AreThick n [] = Unit {0}
AreThick n (x ∷ xs) = (32 < n + length x) × AreThick (length x) xs

-- a block has at most 64 entries
abbrev pub IsSmall : {V : Type 0} → List (ℕ × V) → Type 0
IsSmall x = length x ≤ 64

-- how many entries the last block has, or n if there is none
abbrev pub last_length : {V : Type 0} → ℕ → List (List (ℕ × V)) → ℕ
last_length n [] = n
last_length n (x ∷ xs) = last_length (length x) xs

-- what holds of the tops and the blocks, with room for the top of each block that there may be
pub record IsKept {V : Type 0} (ts : Vec ℕ) (s : Shelved V) : Type 0 where
  pub laid : IsLaid 0 ts.items s.blocks
  pub thick : AreThick 64 s.blocks
  pub small : AllByRecursion IsSmall s.blocks
  pub tops : s.most ≤ vec_capacity ts

-- the entries of a full block, in two halves, and the last key of the lower half
pub record IsHalved {V : Type 0} (es lower upper : List (ℕ × V)) (top : ℕ) : Type 0 where
  pub items : es ≡ lower ++ upper
  pub some : length lower ≡ 32
  pub others : length upper ≡ 32
  pub last : last_key None lower ≡ Some top

-- the block at b is parted in two halves, and top is the last key of the lower one
pub record AreHalved {V : Type 0} (xs ys : List (List (ℕ × V))) (b top : ℕ) : Type 0 where
  pub block : List (ℕ × V)
  pub lower : List (ℕ × V)
  pub upper : List (ℕ × V)
  pub there : Some block ≡ slice_get xs b
  pub halved : IsHalved block lower upper top
  pub blocks : ys ≡ insert (slice_set xs b lower) (suc b) upper

-- the same, and its top is put in
pub record IsParted {V : Type 0} (ts us : List ℕ) (xs ys : List (List (ℕ × V))) (b : ℕ) : Type 0 where
  pub top : ℕ
  pub tops : us ≡ insert ts b top
  pub halves : AreHalved xs ys b top

-- two neighbours, the first of them at j, have few entries together
abbrev pub is_thin : {V : Type 0} → List (List (ℕ × V)) → ℕ → Bool
is_thin [] j = false
is_thin (x ∷ []) j = false
is_thin (x ∷ y ∷ xs) zero = nat_le (length x + length y) 32
is_thin (x ∷ y ∷ xs) (suc j) = is_thin (y ∷ xs) j

-- thick, if the block at b had one entry more
abbrev pub AreNearlyThick : {V : Type 0} → ℕ → ℕ → List (List (ℕ × V)) → Type 0
AreNearlyThick n b [] = Unit {0}
AreNearlyThick n zero (x ∷ xs) = (32 < n + suc (length x)) × AreThick (suc (length x)) xs
AreNearlyThick n (suc b) (x ∷ xs) = (32 < n + length x) × AreNearlyThick (length x) b xs

-- kept, but the neighbours of the block at b may be too thin
pub record IsNearly {V : Type 0} (ts : Vec ℕ) (s : Shelved V) (b : ℕ) : Type 0 where
  pub laid : IsLaid 0 ts.items s.blocks
  pub nearly : AreNearlyThick 64 b s.blocks
  pub small : AllByRecursion IsSmall s.blocks
  pub tops : s.most ≤ vec_capacity ts

-- kept, but the block at b has lost an entry, and its top is as before
pub record IsShort {V : Type 0} (ts : Vec ℕ) (s : Shelved V) (b : ℕ) : Type 0 where
  pub was : List (List (ℕ × V))
  pub key : ℕ
  pub value : V
  pub one : IsOneOther was s.blocks b (λ x y. IsRemoved x y key value)
  pub below : AllByRecursion (λ t. nat_lt t key ≡ true) (take b ts.items)
  pub rest : AllByRecursion (λ t. nat_lt t key ≡ false) (drop b ts.items)
  pub laid : IsLaid 0 ts.items was
  pub thick : AreThick 64 was
  pub small : AllByRecursion IsSmall was
  pub tops : s.most ≤ vec_capacity ts

-- nearly kept, and the blocks at j and after it are the thin ones
pub record IsMergeable {V : Type 0} (ts : Vec ℕ) (s : Shelved V) (j : ℕ) : Type 0 where
  pub b : ℕ
  pub nearly : IsNearly ts s b
  pub near : (b ≡ j) ⊎ (b ≡ suc j)
  pub thin : is_thin s.blocks j ≡ true

-- kept, with so many entries, and with room for so many: 16 entries fill more than a block, whatever
-- the neighbours have
pub record IsHeld {V : Type 0} (ts : Vec ℕ) (s : Shelved V) (len room : ℕ) : Type 0 where
  pub kept : IsKept ts s
  pub count : len ≡ length (flat s.blocks)
  pub fits : room ≤ 16 * s.most - 15
