-- There is room for a row at each slot: rows stand at slots of the index, and those are few.
use Rattle.krl_table.proofs.Names.{◌≡◌, ◌≢◌, ℕ, suc, ◌≤◌, ◌<◌, Bool, true, false, ◌||◌, cond, List, [], ◌∷◌, ◌++◌, Some, None, IsSome, ◌⊎◌, inl, inr, length, map, refl, sym, ap, subst, ◌∙◌}
use Rattle.krl_table.proofs.Names.{⊎_elim, arith, nat_eq, eq-eqb, ne_eqb, nat_tests, is_some, if◌then◌else◌, nat_cmp, eq_by_cmp, END, Value, Index, slots, is_slot, Kept, IsOver}
use Rattle.std.specs.FinMap as fin
use Rattle.std.specs.FinMap.Entries as entries
use Rattle.std_alloc.proofs.Flags.{T_true}
use Rattle.krl_table.proofs.Rows.RowChanges.{eq_cases}
use Rattle.krl_durable.proofs.Slots as pairs
use Rattle.krl_blocks.specs.Laid.{Above, Rises}
use Rattle.std.proofs.Math.Bool.{or-true}
use Rattle.krl_modes.proofs.Basics.{not_both}

-- Members

-- the number stands in the list
abbrev pub Lists : ℕ → List ℕ → Type 0
Lists n [] = ⊥
Lists n (k ∷ ks) = (n ≡ k) ⊎ Lists n ks

end_in : (es : List (ℕ × Value)) → Lists END (map (λ e. e.0) es ++ END ∷ [])
end_in [] = inl refl
end_in (e ∷ es) = inr (end_in es)

keys_in : (es : List (ℕ × Value)) (n : ℕ) → entries.find nat_cmp n es ≢ None → Lists n (map (λ e. e.0) es ++ END ∷ [])
keys_in [] n some = absurd (some refl)
keys_in (e ∷ es) n some = eq_cases n e.0 (λ f. inl f)
    (λ ne. let apart : eq_by_cmp nat_cmp n e.0 ≡ false = grind (arith, nat_tests) in inr (keys_in es n (λ none. some (ap (λ b. cond b (Some e.1) (entries.find nat_cmp n es)) apart ∙ none))))

-- a slot stands in the list of all slots
pub slots_have : (m : Index) (n : ℕ) → is_slot m n ≡ true → Lists n (slots m)
slots_have m n e = eq_cases n END (λ f. subst (λ x. Lists x (slots m)) (sym f) (end_in (fin.entries m)))
    (λ ne. keys_in (fin.entries m) n (λ none. not_both (is_slot m n) e (ap (λ b. b || is_some (fin.get m n)) (ne_eqb n END ne) ∙ ap is_some (fin.get-entries m n ∙ none))))

key_found : (es : List (ℕ × Value)) (n : ℕ) → Lists n (map (λ e. e.0) es ++ END ∷ []) → (n ≡ END) ⊎ (is_some (entries.find nat_cmp n es) ≡ true)
key_found [] n (inl e) = inl e
key_found [] n (inr h) = absurd h
key_found (e ∷ es) n (inl f) = inr (let same : eq_by_cmp nat_cmp n e.0 ≡ true = grind (arith, nat_tests) in ap (λ b. is_some (cond b (Some e.1) (entries.find nat_cmp n es))) same)
key_found (e ∷ es) n (inr h) = ⊎_elim (λ (a : n ≡ END). inl a) (λ (a : is_some (entries.find nat_cmp n es) ≡ true). inr (by_test (eq_by_cmp nat_cmp n e.0) a)) (key_found es n h)
  where
    by_test : (b : Bool) → is_some (entries.find nat_cmp n es) ≡ true → is_some (cond b (Some e.1) (entries.find nat_cmp n es)) ≡ true
    by_test true a = refl
    by_test false a = a

-- and nothing else stands there
pub slots_are : (m : Index) (n : ℕ) → Lists n (slots m) → is_slot m n ≡ true
slots_are m n h = ⊎_elim
    (λ (e : n ≡ END). ap (λ b. b || is_some (fin.get m n)) (eq-eqb n END e))
    (λ (e : is_some (entries.find nat_cmp n (fin.entries m)) ≡ true). ap (λ b. nat_eq n END || b) (ap is_some (fin.get-entries m n) ∙ e) ∙ or-true (nat_eq n END))
    (key_found (fin.entries m) n h)

-- How many

not_above : (k : ℕ) (ns : List ℕ) → Above k ns → Lists k ns → ⊥
not_above k [] h at = at
not_above k (n ∷ ns) h (inl e) = omega (arith, e, h.0)
not_above k (n ∷ ns) h (inr at) = not_above k ns h.1 at

-- without one of its members
abbrev less_one : ℕ → List ℕ → List ℕ
less_one k [] = []
less_one k (n ∷ ns) = if nat_eq k n then ns else n ∷ less_one k ns

one_less : (k : ℕ) (ns : List ℕ) → Lists k ns → length ns ≡ suc (length (less_one k ns))
one_less k [] at = absurd at
one_less k (n ∷ ns) (inl e) = sym (ap (λ b. suc (length (if b then ns else n ∷ less_one k ns))) (eq-eqb k n e))
one_less k (n ∷ ns) (inr at) = by_test (nat_eq k n) (one_less k ns at)
  where
    by_test : (b : Bool) → length ns ≡ suc (length (less_one k ns)) → suc (length ns) ≡ suc (length (if b then ns else n ∷ less_one k ns))
    by_test true e = refl
    by_test false e = ap suc e

stays : (k j : ℕ) (ns : List ℕ) → Lists j ns → j ≢ k → Lists j (less_one k ns)
stays k j [] at ne = absurd at
stays k j (n ∷ ns) at ne = by_test (nat_eq k n) refl at (λ h. stays k j ns h ne)
  where
    by_test : (b : Bool) → nat_eq k n ≡ b → (j ≡ n) ⊎ Lists j ns → (Lists j ns → Lists j (less_one k ns)) → Lists j (if b then ns else n ∷ less_one k ns)
    by_test true e (inl f) ih = absurd (ne (let same : k ≡ n = grind (arith, nat_tests) in f ∙ sym same))
    by_test true e (inr h) ih = h
    by_test false e (inl f) ih = inl f
    by_test false e (inr h) ih = inr (ih h)

-- different numbers that all stand in a list are no more than it has
few : (ns ks : List ℕ) → Rises ns → ((n : ℕ) → Lists n ns → Lists n ks) → length ns ≤ length ks
few [] ks r h = omega arith
few (n ∷ ns) ks r h =
    let one = one_less n ks (h n (inl refl)) in
    let rest = few ns (less_one n ks) r.1 (λ j at. stays n j ks (h j (inr at)) (λ e. not_above n ns r.0 (subst (λ x. Lists x ns) e at))) in
    omega (arith, one, rest)

-- The keys of a map

module _ {V : Type 0} where
  keys_above : (k : ℕ) (es : List (ℕ × V)) → pairs.Above k es → Above k (map (λ e. e.0) es)
  keys_above k [] h = tt
  keys_above k (e ∷ es) h = (h.0, keys_above k es h.1)

  keys_rise : (es : List (ℕ × V)) → pairs.Rises es → Rises (map (λ e. e.0) es)
  keys_rise [] h = tt
  keys_rise (e ∷ es) h = (keys_above e.0 es h.0, keys_rise es h.1)

  key_there : (es : List (ℕ × V)) (n : ℕ) → Lists n (map (λ e. e.0) es) → IsSome (entries.find nat_cmp n es)
  key_there [] n at = absurd at
  key_there (e ∷ es) n (inl f) = let same : eq_by_cmp nat_cmp n e.0 ≡ true = grind (arith, nat_tests) in subst (λ b. IsSome (cond b (Some e.1) (entries.find nat_cmp n es))) (sym same) refl
  key_there (e ∷ es) n (inr at) = by_test (eq_by_cmp nat_cmp n e.0) (key_there es n at)
    where
      by_test : (b : Bool) → IsSome (entries.find nat_cmp n es) → IsSome (cond b (Some e.1) (entries.find nat_cmp n es))
      by_test true h = refl
      by_test false h = h

  as_many : (es : List (ℕ × V)) → length (map (λ e. e.0) es) ≡ length es
  as_many [] = refl
  as_many (e ∷ es) = ap suc (as_many es)

  has_key : (es : List (ℕ × V)) (n : ℕ) → IsSome (entries.find nat_cmp n es) → Lists n (map (λ e. e.0) es)
  has_key [] n some = absurd (cc)
  has_key (e ∷ es) n some = eq_cases n e.0 (λ f. inl f)
      (λ ne. let apart : eq_by_cmp nat_cmp n e.0 ≡ false = grind (arith, nat_tests) in inr (has_key es n (subst (λ b. IsSome (cond b (Some e.1) (entries.find nat_cmp n es))) apart some)))

kept_rise : (t : Kept) → Rises (map (λ e. e.0) (fin.entries t))
kept_rise t = keys_rise (fin.entries t) (pairs.rises (fin.entries t) (T_true _ (fin.entries_sorted t)))

-- a map with rows at no other slots has no more of them
pub rows_less : (t u : Kept) → ((n : ℕ) → IsSome (fin.get u n) → IsSome (fin.get t n)) → length (fin.entries u) ≤ length (fin.entries t)
rows_less t u kept =
    let le = few (map (λ e. e.0) (fin.entries u)) (map (λ e. e.0) (fin.entries t)) (kept_rise u)
    (λ n at. has_key (fin.entries t) n (subst IsSome (fin.get-entries t n) (kept n (subst IsSome (sym (fin.get-entries u n)) (key_there (fin.entries u) n at))))) in
    let a = as_many (fin.entries u) in let b = as_many (fin.entries t) in omega (arith, le, a, b)

many_slots : (es : List (ℕ × Value)) → length (map (λ e. e.0) es ++ END ∷ []) ≡ suc (length es)
many_slots [] = refl
many_slots (e ∷ es) = ap suc (many_slots es)

module _ (m : Index) (t : Kept) (over : IsOver m t) where
  at_slots : (n : ℕ) → Lists n (map (λ e. e.0) (fin.entries t)) → is_slot m n ≡ true
  at_slots n at = over.within n (subst IsSome (sym (fin.get-entries t n)) (key_there (fin.entries t) n at))

  -- no more rows than slots
  pub rows_few : length (fin.entries t) ≤ suc (length (fin.entries m))
  rows_few =
      let le = few (map (λ e. e.0) (fin.entries t)) (slots m) (kept_rise t) (λ n at. slots_have m n (at_slots n at)) in
      let a = as_many (fin.entries t) in let b = many_slots (fin.entries m) in omega (arith, le, a, b)

  -- and one less if a slot has none
  rows_fewer : (k : ℕ) → is_slot m k ≡ true → fin.get t k ≡ None → length (fin.entries t) ≤ length (fin.entries m)
  rows_fewer k slot none =
      let le = few (map (λ e. e.0) (fin.entries t)) (less_one k (slots m)) (kept_rise t)
      (λ n at. stays k n (slots m) (slots_have m n (at_slots n at))
      (λ e. let there = key_there (fin.entries t) n at in let bad = subst IsSome (sym (fin.get-entries t n) ∙ ap (fin.get t) e ∙ none) there in absurd (cc))) in
      let one = one_less k (slots m) (slots_have m k slot) in
      let a = as_many (fin.entries t) in let b = many_slots (fin.entries m) in omega (arith, le, one, a, b)

  -- so there is room at each slot, if there are more rows than entries can be
  pub room_at : (most room k : ℕ) → most < room → length (fin.entries m) ≤ most → is_slot m k ≡ true → fin.get t k ≡ None → length (fin.entries t) < room
  room_at most room k many less slot none = let a = rows_fewer k slot none in omega (arith, a, many, less)

  -- and at a new one, if the index has room for a key
  pub room_new : (most room : ℕ) → most < room → length (fin.entries m) < most → length (fin.entries t) < room
  room_new most room many less = let a = rows_few in omega (arith, a, many, less)
