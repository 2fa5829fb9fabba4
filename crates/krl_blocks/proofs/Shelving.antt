-- What a change of the cells or of the spots makes of the blocks.
use Rattle.std.proofs.Common.{◌≡◌, ◌≢◌, ℕ, zero, suc, ◌+◌, ◌-◌, ◌*◌, ◌≤◌, ◌<◌, List, [], ◌∷◌, ◌++◌, length, take, drop, Some, None, ◌⊎◌, inl, inr, refl, sym, ap, subst, ◌∙◌, arith, slice_set}
use Rattle.std.proofs.Math.Logic.{⊎_elim}
use Rattle.std.proofs.Math.Seq.{take-set-lt}
use Rattle.std.proofs.lemmas.List.{append_assoc, length-append, length-drop, length-take-le, take-take, drop-drop, drop-take, take_at, drop_at, take-append-le, drop-append-le, take-set-le, drop-set-lt, drop-set-add, set_split}
use Rattle.std.proofs.lemmas.List.Edits.{length-paste, take-paste, drop-paste}
use Rattle.std.specs.List.{AllByRecursion, slice_get, insert, remove}
use Rattle.krl_blocks.specs.declared.spot.Spot.{Spot}
use Rattle.krl_blocks.specs.Shelves.{entries_at, shown, places, AreApart}

-- Cells that are written over

module _ {X : Type 0} where
  -- n elements of ss are written over the cells from at on
  abbrev pub over : List X → ℕ → List X → ℕ → List X
  over ws at ss n = take at ws ++ take n ss ++ drop (at + n) ws

  take_over : (ws ss : List X) (at n k : ℕ) → k ≤ at → at ≤ length ws → take k (over ws at ss n) ≡ take k ws
  take_over ws ss at n k le fits =
      let long = length-take-le at ws fits in
      let both = length-append (take at ws) (take n ss) in
      take-append-le k (take at ws ++ take n ss) (drop (at + n) ws) (omega (arith, le, long, both))
      ∙ take-append-le k (take at ws) (take n ss) (omega (arith, le, long))
      ∙ take-take k at ws le

  drop_over : (ws ss : List X) (at n k : ℕ) → at + n ≤ k → at ≤ length ws → n ≤ length ss → drop k (over ws at ss n) ≡ drop k ws
  drop_over ws ss at n k le fits some =
      let more : at + n + (k - (at + n)) ≡ k = omega (arith, le) in
      ap (λ m. drop m (over ws at ss n)) (sym more)
      ∙ sym (drop-drop (k - (at + n)) (at + n) (over ws at ss n))
      ∙ ap (drop (k - (at + n))) (drop-paste ws at ss n fits some)
      ∙ drop-drop (k - (at + n)) (at + n) ws
      ∙ ap (λ m. drop m ws) more

  drop_over_at : (ws ss : List X) (at n : ℕ) → at ≤ length ws → drop at (over ws at ss n) ≡ take n ss ++ drop (at + n) ws
  drop_over_at ws ss at n fits =
      ap (drop at) (append_assoc (take at ws) (take n ss) (drop (at + n) ws))
      ∙ drop_at (take at ws) (take n ss ++ drop (at + n) ws) at (length-take-le at ws fits)

  -- the cells from a on
  from_over : (ws ss : List X) (a j n : ℕ) → a + j ≤ length ws → drop a (over ws (a + j) ss n) ≡ over (drop a ws) j ss n
  from_over ws ss a j n fits =
      let long = length-take-le (a + j) ws fits in
      let both = length-append (take (a + j) ws) (take n ss) in
      let far : a + j + n ≡ a + (j + n) = omega arith in
      drop-append-le a (take (a + j) ws ++ take n ss) (drop (a + j + n) ws) (omega (arith, long, both))
      ∙ ap (λ l. l ++ drop (a + j + n) ws) (drop-append-le a (take (a + j) ws) (take n ss) (omega (arith, long)))
      ∙ ap (λ l. l ++ take n ss ++ drop (a + j + n) ws) (drop-take a j ws)
      ∙ ap (λ l. take j (drop a ws) ++ take n ss ++ l) (ap (λ m. drop m ws) far ∙ sym (drop-drop (j + n) a ws))

  take_both : (xs ys zs : List X) (m : ℕ) → m ≡ length xs + length ys → take m (xs ++ (ys ++ zs)) ≡ xs ++ ys
  take_both xs ys zs m e =
      let both = length-append xs ys in
      ap (take m) (sym (append_assoc xs ys zs)) ∙ take_at (xs ++ ys) zs m (omega (arith, both, e))

  put_front : (zs : List X) (i n : ℕ) (e : X) → suc (i + n) ≤ length zs
      → take (suc (i + n)) (slice_set (over zs (suc i) (drop i zs) n) i e) ≡ insert (take (i + n) zs) i e
  put_front zs i n e h =
      let left = length-drop i zs in
      let some : n ≤ length (drop i zs) = omega (arith, left, h) in
      let l = over zs (suc i) (drop i zs) n in
      let long : length l ≡ length zs = length-paste zs (suc i) (drop i zs) n (omega (arith, h)) some in
      let first = length-take-le i zs (omega (arith, h)) in
      let count = length-take-le n (drop i zs) some in
      ap (take (suc (i + n))) (
      set_split l i e (omega (arith, long, h))
      ∙ ap (λ xs. xs ++ e ∷ drop (suc i) l) (take_over zs (drop i zs) (suc i) n i (omega arith) (omega (arith, h)))
      ∙ ap (λ xs. take i zs ++ e ∷ xs) (drop_over_at zs (drop i zs) (suc i) n (omega (arith, h)))
      )
      ∙ take_both (take i zs) (e ∷ take n (drop i zs)) (drop (suc i + n) zs) (suc (i + n)) (omega (arith, first, count))
      ∙ ap (λ xs. xs ++ e ∷ take n (drop i zs)) (sym (take-take i (i + n) zs (omega arith)))
      ∙ ap (λ xs. take i (take (i + n) zs) ++ e ∷ xs) (sym (drop-take i n zs))

  take_front : (zs : List X) (i n : ℕ) → suc (i + n) ≤ length zs → take (i + n) (over zs i (drop (suc i) zs) n) ≡ remove (take (suc (i + n)) zs) i
  take_front zs i n h =
      let left = length-drop (suc i) zs in
      let on : suc i + n ≡ suc (i + n) = omega arith in
      take-paste zs i (drop (suc i) zs) n (omega (arith, h)) (omega (arith, left, h))
      ∙ ap (λ xs. xs ++ take n (drop (suc i) zs)) (sym (take-take i (suc (i + n)) zs (omega arith)))
      ∙ ap (λ xs. take i (take (suc (i + n)) zs) ++ xs) (sym (drop-take (suc i) n zs) ∙ ap (λ m. drop (suc i) (take m zs)) on)

  module _ (ws us : List X) (a i len at n dest : ℕ) (is : at ≡ a + i) (count : i + n ≡ len) where
    -- an entry is put in before the one at i
    pub cells_put : (vs : List X) (e : X) → dest ≡ at + 1 → a + suc len ≤ length ws → us ≡ over ws dest (drop at ws) n → vs ≡ slice_set us at e → take (suc len) (drop a vs) ≡ insert (take len (drop a ws)) i e
    cells_put vs e next fits f g =
        let left = length-drop a ws in
        let to : dest ≡ a + suc i = omega (arith, next, is) in
        ap (λ zs. take (suc len) (drop a zs)) (
        g ∙ ap (λ zs. slice_set zs at e) (f ∙ ap (λ k. over ws k (drop at ws) n) to ∙ ap (λ k. over ws (a + suc i) (drop k ws) n) is)
        ∙ ap (λ k. slice_set (over ws (a + suc i) (drop (a + i) ws) n) k e) is
        )
        ∙ ap (take (suc len)) (
        drop-set-add a (over ws (a + suc i) (drop (a + i) ws) n) i e
        ∙ ap (λ zs. slice_set zs i e) (from_over ws (drop (a + i) ws) a (suc i) n (omega (arith, fits, count)))
        ∙ ap (λ zs. slice_set (over (drop a ws) (suc i) zs n) i e) (sym (drop-drop i a ws))
        )
        ∙ ap (λ k. take (suc k) (slice_set (over (drop a ws) (suc i) (drop i (drop a ws)) n) i e)) (sym count)
        ∙ put_front (drop a ws) i n e (omega (arith, left, fits, count))
        ∙ ap (λ k. insert (take k (drop a ws)) i e) count

    -- the entry at i is taken out
    pub cells_taken : dest ≡ at + 1 → a + suc len ≤ length ws → us ≡ over ws at (drop dest ws) n → take len (drop a us) ≡ remove (take (suc len) (drop a ws)) i
    cells_taken next fits f =
        let left = length-drop a ws in
        let to : dest ≡ a + suc i = omega (arith, next, is) in
        ap (λ zs. take len (drop a zs)) (f ∙ ap (λ k. over ws k (drop dest ws) n) is ∙ ap (λ k. over ws (a + i) (drop k ws) n) to)
        ∙ ap (take len) (from_over ws (drop (a + suc i) ws) a i n (omega (arith, fits, count)) ∙ ap (λ zs. over (drop a ws) i zs n) (sym (drop-drop (suc i) a ws)))
        ∙ ap (λ k. take k (over (drop a ws) i (drop (suc i) (drop a ws)) n)) (sym count)
        ∙ take_front (drop a ws) i n (omega (arith, left, fits, count))
        ∙ ap (λ k. remove (take (suc k) (drop a ws)) i) count

  -- another entry is at i
  pub cells_set : (ws vs : List X) (a i len at : ℕ) (e : X) → at ≡ a + i → i < len → vs ≡ slice_set ws at e → take len (drop a vs) ≡ slice_set (take len (drop a ws)) i e
  cells_set ws vs a i len at e is lt f =
      ap (λ zs. take len (drop a zs)) (f ∙ ap (λ k. slice_set ws k e) is) ∙ ap (take len) (drop-set-add a ws i e) ∙ take-set-lt len (drop a ws) i e lt

  -- n entries are copied to a place of their own
  pub cells_copied : (ws us : List X) (a b i n len at : ℕ) → at ≡ a + i → i + n ≡ len → b ≤ length ws → a + len ≤ length ws → us ≡ over ws b (drop at ws) n → take n (drop b us) ≡ drop i (take len (drop a ws))
  cells_copied ws us a b i n len at is count fits some f =
      let left = length-drop at ws in
      let long = length-take-le n (drop at ws) (omega (arith, left, is, count, some)) in
      ap (λ zs. take n (drop b zs)) f ∙ ap (take n) (drop_over_at ws (drop at ws) b n fits)
      ∙ take_at (take n (drop at ws)) (drop (b + n) ws) n long
      ∙ ap (λ k. take n (drop k ws)) is ∙ ap (take n) (sym (drop-drop i a ws))
      ∙ sym (drop-take i n (drop a ws)) ∙ ap (λ k. drop i (take k (drop a ws))) count

  -- n entries are copied after those of another place
  pub cells_joined : (ws us : List X) (a b k n len dest : ℕ) → dest ≡ a + k → k + n ≡ len → a + k ≤ length ws → b + n ≤ length ws → us ≡ over ws dest (drop b ws) n → take len (drop a us) ≡ take k (drop a ws) ++ take n (drop b ws)
  cells_joined ws us a b k n len dest is count fits some f =
      let left = length-drop b ws in
      let rest = length-drop a ws in
      ap (λ zs. take len (drop a zs)) (f ∙ ap (λ m. over ws m (drop b ws) n) is)
      ∙ ap (take len) (from_over ws (drop b ws) a k n fits)
      ∙ ap (λ m. take m (over (drop a ws) k (drop b ws) n)) (sym count)
      ∙ take-paste (drop a ws) k (drop b ws) n (omega (arith, rest, fits)) (omega (arith, left, some))

  -- The other places

  -- the cells are the same, except for the 64 from a on
  pub record AreSameBut (a : ℕ) (vs ws : List X) : Type 0 where
    pub before : take a vs ≡ take a ws
    pub behind : drop (a + 64) vs ≡ drop (a + 64) ws

  pub same_over : (ws us ss : List X) (a at n : ℕ) → us ≡ over ws at ss n → a ≤ at → at + n ≤ a + 64 → at ≤ length ws → n ≤ length ss → AreSameBut a us ws
  same_over ws us ss a at n f low high fits some = record {
    before = ap (take a) f ∙ take_over ws ss at n a low fits;
    behind = ap (drop (a + 64)) f ∙ drop_over ws ss at n (a + 64) high fits some;
  }

  pub same_set : (ws us : List X) (a at : ℕ) (e : X) → us ≡ slice_set ws at e → a ≤ at → at < a + 64 → AreSameBut a us ws
  same_set ws us a at e f low high = record {
    before = ap (take a) f ∙ take-set-le a ws at e low;
    behind = ap (drop (a + 64)) f ∙ drop-set-lt (a + 64) ws at e high;
  }

  pub same_then : (ws us vs : List X) (a : ℕ) → AreSameBut a us ws → AreSameBut a vs us → AreSameBut a vs ws
  same_then ws us vs a f g = record { before = g.before ∙ f.before; behind = g.behind ∙ f.behind }

  within_front : (ws : List X) (a b n : ℕ) → b + n ≤ a → take n (drop b (take a ws)) ≡ take n (drop b ws)
  within_front ws a b n le =
      let more : b + (a - b) ≡ a = omega (arith, le) in
      ap (λ m. take n (drop b (take m ws))) (sym more) ∙ ap (take n) (drop-take b (a - b) ws) ∙ take-take n (a - b) (drop b ws) (omega (arith, le))

  within_back : (ws : List X) (a b : ℕ) → a ≤ b → drop b ws ≡ drop (b - a) (drop a ws)
  within_back ws a b le = let more : b ≡ a + (b - a) = omega (arith, le) in ap (λ m. drop m ws) more ∙ sym (drop-drop (b - a) a ws)

  same_cells : (vs ws : List X) (a b n : ℕ) → AreSameBut a vs ws → n ≤ 64 → (b + 64 ≤ a) ⊎ (a + 64 ≤ b) → take n (drop b vs) ≡ take n (drop b ws)
  same_cells vs ws a b n same small side = ⊎_elim
      (λ (le : b + 64 ≤ a). sym (within_front vs a b n (omega (arith, le, small))) ∙ ap (λ zs. take n (drop b zs)) same.before ∙ within_front ws a b n (omega (arith, le, small)))
      (λ (le : a + 64 ≤ b). ap (take n) (within_back vs (a + 64) b le ∙ ap (drop (b - (a + 64))) same.behind ∙ sym (within_back ws (a + 64) b le)))
      side

two_sides : (p q : ℕ) → q ≢ p → (64 * q + 64 ≤ 64 * p) ⊎ (64 * p + 64 ≤ 64 * q)
two_sides zero zero ne = absurd (ne refl)
two_sides zero (suc q) ne = inr (omega arith)
two_sides (suc p) zero ne = inl (omega arith)
two_sides (suc p) (suc q) ne = ⊎_elim (λ (le : 64 * q + 64 ≤ 64 * p). inl (omega (arith, le))) (λ (le : 64 * p + 64 ≤ 64 * q). inr (omega (arith, le))) (two_sides p q (λ e. ne (ap suc e)))

-- The blocks that are shown

abbrev pub AreSmall : List Spot → Type 0
AreSmall ss = AllByRecursion (λ s. s.len ≤ 64) ss

pub length_places : (ss : List Spot) → length (places ss) ≡ length ss
length_places [] = refl
length_places (s ∷ ss) = ap suc (length_places ss)

pub place_at : (ss : List Spot) (b : ℕ) (s : Spot) → Some s ≡ slice_get ss b → Some s.place ≡ slice_get (places ss) b
place_at [] b s e = absurd (let bad : Some s ≡ None = e in cc)
place_at (t ∷ ss) zero s e = let same : s ≡ t = cc in ap (λ (u : Spot). Some u.place) same
place_at (t ∷ ss) (suc b) s e = place_at ss b s e

pub places_insert : (ss : List Spot) (b : ℕ) (s : Spot) → places (insert ss b s) ≡ insert (places ss) b s.place
places_insert ss zero s = refl
places_insert [] (suc b) s = refl
places_insert (t ∷ ss) (suc b) s = ap (λ (ps : List ℕ). t.place ∷ ps) (places_insert ss b s)

pub places_more : (ss : List Spot) (s : Spot) → places (ss ++ s ∷ []) ≡ places ss ++ s.place ∷ []
places_more [] s = refl
places_more (t ∷ ss) s = ap (λ (ps : List ℕ). t.place ∷ ps) (places_more ss s)

pub places_remove : (ss : List Spot) (b : ℕ) → places (remove ss b) ≡ remove (places ss) b
places_remove [] zero = refl
places_remove [] (suc b) = refl
places_remove (t ∷ ss) zero = refl
places_remove (t ∷ ss) (suc b) = ap (λ (ps : List ℕ). t.place ∷ ps) (places_remove ss b)

pub places_set : (ss : List Spot) (b : ℕ) (s t : Spot) → Some s ≡ slice_get ss b → t.place ≡ s.place → places (slice_set ss b t) ≡ places ss
places_set [] b s t e f = refl
places_set (u ∷ ss) zero s t e f = let same : s ≡ u = cc in ap (λ (p : ℕ). p ∷ places ss) (f ∙ ap (λ (v : Spot). v.place) same)
places_set (u ∷ ss) (suc b) s t e f = ap (λ (ps : List ℕ). u.place ∷ ps) (places_set ss b s t e f)

pub small_at : (ss : List Spot) (b : ℕ) (s : Spot) → AreSmall ss → Some s ≡ slice_get ss b → s.len ≤ 64
small_at [] b s h e = absurd (let bad : Some s ≡ None = e in cc)
small_at (t ∷ ss) zero s h e = let same : t ≡ s = cc in subst (λ (u : Spot). u.len ≤ 64) same h.0
small_at (t ∷ ss) (suc b) s h e = small_at ss b s h.1 e

module _ {X : Type 0} where
  pub shown_length : (ss : List Spot) (ws : List X) → length (shown ss ws) ≡ length ss
  shown_length [] ws = refl
  shown_length (s ∷ ss) ws = ap suc (shown_length ss ws)

  pub shown_at : (ss : List Spot) (ws : List X) (b : ℕ) (s : Spot) → Some s ≡ slice_get ss b → Some (entries_at ws s) ≡ slice_get (shown ss ws) b
  shown_at [] ws b s e = absurd (let bad : Some s ≡ None = e in cc)
  shown_at (t ∷ ss) ws zero s e = let same : s ≡ t = cc in ap (λ (u : Spot). Some (entries_at ws u)) same
  shown_at (t ∷ ss) ws (suc b) s e = shown_at ss ws b s e

  pub shown_insert : (ss : List Spot) (ws : List X) (b : ℕ) (s : Spot) → shown (insert ss b s) ws ≡ insert (shown ss ws) b (entries_at ws s)
  shown_insert ss ws zero s = refl
  shown_insert [] ws (suc b) s = refl
  shown_insert (t ∷ ss) ws (suc b) s = ap (λ (xs : List (List X)). entries_at ws t ∷ xs) (shown_insert ss ws b s)

  pub shown_more : (ss : List Spot) (ws : List X) (s : Spot) → shown (ss ++ s ∷ []) ws ≡ shown ss ws ++ entries_at ws s ∷ []
  shown_more [] ws s = refl
  shown_more (t ∷ ss) ws s = ap (λ (xs : List (List X)). entries_at ws t ∷ xs) (shown_more ss ws s)

  pub shown_remove : (ss : List Spot) (ws : List X) (b : ℕ) → shown (remove ss b) ws ≡ remove (shown ss ws) b
  shown_remove [] ws zero = refl
  shown_remove [] ws (suc b) = refl
  shown_remove (t ∷ ss) ws zero = refl
  shown_remove (t ∷ ss) ws (suc b) = ap (λ (xs : List (List X)). entries_at ws t ∷ xs) (shown_remove ss ws b)

  pub shown_spot : (ss : List Spot) (ws : List X) (b : ℕ) (t : Spot) → shown (slice_set ss b t) ws ≡ slice_set (shown ss ws) b (entries_at ws t)
  shown_spot [] ws b t = refl
  shown_spot (s ∷ ss) ws zero t = refl
  shown_spot (s ∷ ss) ws (suc b) t = ap (λ (xs : List (List X)). entries_at ws s ∷ xs) (shown_spot ss ws b t)

  -- the cells of a place that no block has are others
  pub shown_but : (ss : List Spot) (ws vs : List X) (p : ℕ) → AllByRecursion (λ q. q ≢ p) (places ss) → AreSmall ss → AreSameBut (64 * p) vs ws → shown ss vs ≡ shown ss ws
  shown_but [] ws vs p apart small same = refl
  shown_but (s ∷ ss) ws vs p apart small same =
      ap (λ (x : List X). x ∷ shown ss vs) (same_cells vs ws (64 * p) (64 * s.place) s.len same small.0 (two_sides p s.place apart.0))
      ∙ ap (λ (xs : List (List X)). entries_at ws s ∷ xs) (shown_but ss ws vs p apart.1 small.1 same)

  -- those of the block at b are others
  pub shown_set : (ss : List Spot) (ws vs : List X) (b : ℕ) (s t : Spot) → AreApart (places ss) → AreSmall ss → Some s ≡ slice_get ss b → AreSameBut (64 * s.place) vs ws → shown (slice_set ss b t) vs ≡ slice_set (shown ss ws) b (entries_at vs t)
  shown_set [] ws vs b s t apart small e same = refl
  shown_set (u ∷ ss) ws vs zero s t apart small e same =
      let one : s ≡ u = cc in
      ap (λ (xs : List (List X)). entries_at vs t ∷ xs) (shown_but ss ws vs u.place apart.0 small.1 (subst (λ (v : Spot). AreSameBut (64 * v.place) vs ws) one same))
  shown_set (u ∷ ss) ws vs (suc b) s t apart small e same =
      ap (λ (x : List X). x ∷ shown (slice_set ss b t) vs) (same_cells vs ws (64 * s.place) (64 * u.place) u.len same small.0 (two_sides s.place u.place (λ f. first_other (places ss) b s.place u.place (place_at ss b s e) apart.0 (sym f))))
      ∙ ap (λ (xs : List (List X)). entries_at ws u ∷ xs) (shown_set ss ws vs b s t apart.1 small.1 e same)
    where
      first_other : (ps : List ℕ) (i n m : ℕ) → Some n ≡ slice_get ps i → AllByRecursion (λ q. q ≢ m) ps → n ≡ m → ⊥
      first_other [] i n m f h same = absurd (let bad : Some n ≡ None = f in cc)
      first_other (q ∷ ps) zero n m f h same = let one : n ≡ q = cc in h.0 (sym one ∙ same)
      first_other (q ∷ ps) (suc i) n m f h same = first_other ps i n m f h.1 same

  -- more cells come after
  pub shown_longer : (ss : List Spot) (ws vs : List X) → AreSmall ss → AllByRecursion (λ p. 64 * p + 64 ≤ length ws) (places ss) → shown ss (ws ++ vs) ≡ shown ss ws
  shown_longer [] ws vs small within = refl
  shown_longer (s ∷ ss) ws vs small within =
      let few = small.0 in
      let fits = within.0 in
      let left = length-drop (64 * s.place) ws in
      ap (λ (x : List X). x ∷ shown ss (ws ++ vs)) (
      ap (take s.len) (drop-append-le (64 * s.place) ws vs (omega (arith, fits)))
      ∙ take-append-le s.len (drop (64 * s.place) ws) vs (omega (arith, few, fits, left))
      )
      ∙ ap (λ (xs : List (List X)). entries_at ws s ∷ xs) (shown_longer ss ws vs small.1 within.1)
