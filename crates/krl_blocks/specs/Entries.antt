-- Entries in key order: where a point stands among them, and what a change makes of them.
use Rattle.std.specs.Prelude.{◌≡◌, ◌≢◌, ◌<◌, ℕ, true, false, nat_lt, List, [], ◌∷◌, ◌++◌, Option, Some, None}
use Rattle.std.specs.List.{AllByRecursion}

-- the entries, in key order, and how many there may be with no more memory
pub record Entries (V : Type 0) : Type 0 where
  pub list : List (ℕ × V)
  pub room : ℕ

-- each key of the list is above k
abbrev pub KeysAbove : {V : Type 0} → ℕ → List (ℕ × V) → Type 0
KeysAbove k [] = Unit {0}
KeysAbove k (e ∷ es) = (k < e.0) × KeysAbove k es

-- the keys strictly rise
abbrev pub KeysRise : {V : Type 0} → List (ℕ × V) → Type 0
KeysRise [] = Unit {0}
KeysRise (e ∷ es) = KeysAbove e.0 es × KeysRise es

-- each key is below p
abbrev pub AreBelow : {V : Type 0} → ℕ → List (ℕ × V) → Type 0
AreBelow p es = AllByRecursion (λ e. nat_lt e.0 p ≡ true) es

-- each key is p or above it
abbrev pub AreFrom : {V : Type 0} → ℕ → List (ℕ × V) → Type 0
AreFrom p es = AllByRecursion (λ e. nat_lt e.0 p ≡ false) es

-- no entry has the key
abbrev pub NoKey : {V : Type 0} → ℕ → List (ℕ × V) → Type 0
NoKey k es = AllByRecursion (λ e. e.0 ≢ k) es

-- the last key, or o if there is none
abbrev pub last_key : {V : Type 0} → Option ℕ → List (ℕ × V) → Option ℕ
last_key o [] = o
last_key o (e ∷ es) = last_key (Some e.0) es

-- an entry has this key and this value
pub record HasEntry {V : Type 0} (es : List (ℕ × V)) (k : ℕ) (v : V) : Type 0 where
  pub front : List (ℕ × V)
  pub back : List (ℕ × V)
  pub whole : es ≡ front ++ (k, v) ∷ back

-- the entries below p stand in front, and the others after; the last key in front is before, and
-- the list run begins what comes after, with at least one entry if there is any
pub record IsFound {V : Type 0} (es : List (ℕ × V)) (p : ℕ) (before : Option ℕ) (run : List (ℕ × V)) : Type 0 where
  pub front : List (ℕ × V)
  pub rest : List (ℕ × V)
  pub whole : es ≡ front ++ (run ++ rest)
  pub below : AreBelow p front
  pub from : AreFrom p (run ++ rest)
  pub last : before ≡ last_key None front
  pub some : run ≡ [] → rest ≡ []

-- the list run begins what stands from p on, with at least one entry if there is any
pub record IsRun {V : Type 0} (es : List (ℕ × V)) (p : ℕ) (run : List (ℕ × V)) : Type 0 where
  pub front : List (ℕ × V)
  pub rest : List (ℕ × V)
  pub whole : es ≡ front ++ (run ++ rest)
  pub below : AreBelow p front
  pub from : AreFrom p (run ++ rest)
  pub some : run ≡ [] → rest ≡ []

-- the new entry comes after those with lesser keys
pub record IsInserted {V : Type 0} (es fs : List (ℕ × V)) (k : ℕ) (v : V) : Type 0 where
  pub front : List (ℕ × V)
  pub back : List (ℕ × V)
  pub old : es ≡ front ++ back
  pub new : fs ≡ front ++ (k, v) ∷ back
  pub below : AreBelow k front
  pub from : AreFrom k back

-- the entry of the key is gone, and the others stay
pub record IsRemoved {V : Type 0} (es fs : List (ℕ × V)) (k : ℕ) (v : V) : Type 0 where
  pub front : List (ℕ × V)
  pub back : List (ℕ × V)
  pub old : es ≡ front ++ (k, v) ∷ back
  pub new : fs ≡ front ++ back
  pub below : AreBelow k front
  pub from : AreFrom k back

-- the entry of the key has another value in place of was, and the others stay
pub record IsChanged {V : Type 0} (es fs : List (ℕ × V)) (k : ℕ) (v was : V) : Type 0 where
  pub front : List (ℕ × V)
  pub back : List (ℕ × V)
  pub old : es ≡ front ++ (k, was) ∷ back
  pub new : fs ≡ front ++ (k, v) ∷ back
  pub below : AreBelow k front
  pub from : AreFrom k back
