-- A walk over the pairs of a map in a span: a test changes their values, and picks those that go.
use Rattle.std.specs.Prelude.{◌≡◌, ℕ, suc, ◌≤◌, Bool, false, List, [], ◌∷◌, ◌++◌, Option, None, Some, if◌then◌else◌}
use Rattle.std.specs.declared.cmp.Ordering.{Ordering}
use Rattle.std.specs.BTreeMap.{BTreeMap}
use Rattle.std_collections.specs.declared.btree_map.extract.Cursor.{Cursor}
use Rattle.std_collections.specs.Layout.BTreeMapExtract.{extract_rest}
use Rattle.krl_cache.specs.Entries.{lies_in, RiseWithin}

-- no key of the list lies from lo on below hi
abbrev pub AreOut : {V : Type 0} → ℕ → ℕ → List (ℕ × V) → Type 0
AreOut lo hi [] = Unit {0}
AreOut lo hi (e ∷ es) = (lies_in lo hi e.0 ≡ false) × AreOut lo hi es

-- keys that strictly rise from lo on
abbrev pub Rise : {V : Type 0} → ℕ → List (ℕ × V) → Type 0
Rise lo [] = Unit {0}
Rise lo (e ∷ es) = (lo ≤ e.0) × Rise (suc e.0) es

module _ {F V : Type 0} (T : F → ℕ → V → Bool → V → F → Type 0) where
  -- the test was asked of each pair in turn, from the state f to g: those that it picked are gone,
  -- and the others are as it left them
  abbrev pub Sifts : F → List (ℕ × V) → F → List (ℕ × V) → Type 0
  Sifts f [] g kept = (g ≡ f) × (kept ≡ [])
  Sifts f (e ∷ es) g kept =
      (b : Bool) × (w : V) × (h : F) × (rest : List (ℕ × V)) × T f e.0 e.1 b w h
      × Sifts h es g rest × (kept ≡ (if b then rest else (e.0, w) ∷ rest))

  -- of the pairs of es the test was asked of those from lo on below hi, and fs has what is left
  pub record IsSifted (f : F) (lo hi : ℕ) (es fs : List (ℕ × V)) : Type 0 where
    pub front : List (ℕ × V)
    pub middle : List (ℕ × V)
    pub back : List (ℕ × V)
    pub kept : List (ℕ × V)
    pub last : F
    pub whole : es ≡ front ++ (middle ++ back)
    pub left : fs ≡ front ++ (kept ++ back)
    pub before : AreOut lo hi front
    pub within : RiseWithin lo hi middle
    pub after : AreOut lo hi back
    pub sifts : Sifts f middle last kept

  -- the test, which began as f, has asked some pairs of old from lo on below hi, and has xs left to
  -- ask; now has what is left of all
  pub record Stands (f : F) (lo hi : ℕ) (old : List (ℕ × V)) (g : F) (xs now : List (ℕ × V)) : Type 0 where
    pub front : List (ℕ × V)
    pub asked : List (ℕ × V)
    pub kept : List (ℕ × V)
    pub back : List (ℕ × V)
    pub whole : old ≡ front ++ ((asked ++ xs) ++ back)
    pub left : now ≡ front ++ (kept ++ (xs ++ back))
    pub ran : Sifts f asked g kept
    pub rise : Rise 0 now
    pub before : AreOut lo hi front
    pub within : RiseWithin lo hi (asked ++ xs)
    pub after : AreOut lo hi back

  -- such a walk stands before what it has left to ask, in the map m
  abbrev pub StandsAt : {R : Type 0} → (R → ℕ → Ordering) → F → ℕ → ℕ → List (ℕ × V) → BTreeMap ℕ V
      → Option (Cursor R F) → Type 0
  StandsAt end f lo hi old m None = (g : F) × Stands f lo hi old g [] m.entries
  StandsAt end f lo hi old m (Some c) = Stands f lo hi old c.within.test (extract_rest end m (Some c)) m.entries

  -- wherever a walk stood at c in m, it has come to its end in n
  pub record RunsOut {R : Type 0} (end : R → ℕ → Ordering) (m n : BTreeMap ℕ V) (c : Option (Cursor R F)) : Type 0 where
    pub out : (f : F) (lo hi : ℕ) (old : List (ℕ × V)) → StandsAt end f lo hi old m c → IsSifted f lo hi old n.entries
