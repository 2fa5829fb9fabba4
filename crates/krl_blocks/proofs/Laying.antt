-- What a change of one block makes of all, if their order matters.
use Rattle.std.proofs.Common.{◌≡◌, ◌≢◌, ℕ, zero, suc, ◌≤◌, ◌<◌, true, false, List, [], ◌∷◌, ◌++◌, length, take, drop, Some, None, IfSome, refl, sym, ap, subst, ◌∙◌, arith, slice_set}
use Rattle.std.proofs.lemmas.Option.{slice_get_past}
use Rattle.std.proofs.lemmas.List.{append-nil, append_assoc}
use Rattle.std.proofs.lemmas.Bool.{ltb-true, ltb-false}
use Rattle.std.proofs.Permutation.{every_append}
use Rattle.std.specs.Prelude.{nat_lt}
use Rattle.std.specs.List.{AllByRecursion, slice_get, insert, remove}
use Rattle.krl_blocks.specs.Laid.{flat, KeysRise, EndsAfter, EndsAt, IsLaid, AreBelow, AreFrom, NoKey, IsInserted, IsRemoved, IsChanged, IsHalved, last_key, last_length}
use Rattle.krl_blocks.proofs.Places.{IsAt, at_block, past_blocks, ends_top, ends_rise, after_last, laid_less, flat_join, front_all}
use Rattle.krl_blocks.proofs.Edits.{cut_there, below_none, set_is}
use Rattle.krl_blocks.proofs.Around.{all_take, flat_set}
use Rattle.krl_blocks.proofs.Thick.{IsFilled}

-- What holds of what is laid

pub laid_lengths : {V : Type 0} (low : ℕ) (ts : List ℕ) (xs : List (List (ℕ × V))) → IsLaid low ts xs → length ts ≡ length xs
laid_lengths low [] [] h = refl
laid_lengths low [] (x ∷ xs) h = absurd h
laid_lengths low (t ∷ ts) [] h = absurd h
laid_lengths low (t ∷ ts) (x ∷ xs) h = ap suc (laid_lengths (suc t) ts xs h.1)

pub rising_at : {V : Type 0} (low : ℕ) (ts : List ℕ) (xs : List (List (ℕ × V))) (b : ℕ) → IsLaid low ts xs → IfSome (slice_get xs b) (λ x. KeysRise x)
rising_at low ts [] b h = tt
rising_at low [] (x ∷ xs) b h = absurd h
rising_at low (t ∷ ts) (x ∷ xs) zero h = ends_rise low x t h.0
rising_at low (t ∷ ts) (x ∷ xs) (suc b) h = rising_at (suc t) ts xs b h.1

filled_ends : {V : Type 0} (low : ℕ) (es : List (ℕ × V)) (t : ℕ) → EndsAt low es t → 0 < length es
filled_ends low [] t h = absurd h
filled_ends low (e ∷ es) t h = omega arith

pub laid_filled : {V : Type 0} (low : ℕ) (ts : List ℕ) (xs : List (List (ℕ × V))) → IsLaid low ts xs → AllByRecursion IsFilled xs
laid_filled low ts [] h = tt
laid_filled low [] (x ∷ xs) h = absurd h
laid_filled low (t ∷ ts) (x ∷ xs) h = (filled_ends low x t h.0, laid_filled (suc t) ts xs h.1)

-- One entry more

after_put : {V : Type 0} (j k : ℕ) (v : V) (t : ℕ) (f g : List (ℕ × V)) → EndsAfter j (f ++ g) t → j < k → k ≤ t → AreBelow k f → AreFrom k g → NoKey k g → EndsAfter j (f ++ (k, v) ∷ g) t
after_put j k v t [] [] h lt le b a n = absurd (omega (arith, h, lt, le))
after_put j k v t [] (e ∷ g) h lt le b a n = (lt, ((let ne = n.0 in let from = ltb-false e.0 k a.0 in omega (arith, ne, from)), h.1))
after_put j k v t (e ∷ f) g h lt le b a n = (h.0, after_put e.0 k v t f g h.1 (ltb-true e.0 k b.0) le b.1 a n)

ends_put : {V : Type 0} (low k : ℕ) (v : V) (t : ℕ) (f g : List (ℕ × V)) → EndsAt low (f ++ g) t → low ≤ k → k ≤ t → AreBelow k f → AreFrom k g → NoKey k g → EndsAt low (f ++ (k, v) ∷ g) t
ends_put low k v t [] [] h ge le b a n = absurd h
ends_put low k v t [] (e ∷ g) h ge le b a n = (ge, ((let ne = n.0 in let from = ltb-false e.0 k a.0 in omega (arith, ne, from)), h.1))
ends_put low k v t (e ∷ f) g h ge le b a n = (h.0, after_put e.0 k v t f g h.1 (ltb-true e.0 k b.0) le b.1 a n)

-- another block in its place, with the same bounds
laid_set : {V : Type 0} (low : ℕ) (ts : List ℕ) (xs : List (List (ℕ × V))) (b : ℕ) (x y : List (ℕ × V)) → IsLaid low ts xs → Some x ≡ slice_get xs b → ((l t : ℕ) → EndsAt l x t → Some t ≡ slice_get ts b → EndsAt l y t) → IsLaid low ts (slice_set xs b y)
laid_set low ts [] b x y h e f = h
laid_set low [] (z ∷ xs) b x y h e f = absurd h
laid_set low (t ∷ ts) (z ∷ xs) zero x y h e f = let same : x ≡ z = cc in (f low t (subst (λ (w : List (ℕ × _)). EndsAt low w t) (sym same) h.0) refl, h.1)
laid_set low (t ∷ ts) (z ∷ xs) (suc b) x y h e f = (h.0, laid_set (suc t) ts xs b x y h.1 e f)

second_part : {X : Type 0} (P : X → Type 0) (xs ys : List X) → AllByRecursion P (xs ++ ys) → AllByRecursion P ys
second_part P [] ys h = h
second_part P (x ∷ xs) ys h = second_part P xs ys h.1

-- After all blocks

laid_more : {V : Type 0} (low k : ℕ) (v : V) (b : ℕ) (ts : List ℕ) (xs : List (List (ℕ × V))) (y : List (ℕ × V)) → IsLaid low ts xs → AllByRecursion (λ t. nat_lt t k ≡ true) (take b ts) → None ≡ slice_get xs b → low ≤ k → y ≡ (k, v) ∷ [] → IsLaid low (ts ++ k ∷ []) (xs ++ y ∷ [])
laid_more {V = V} low k v b [] [] y h f e le is = (subst (λ (es : List (ℕ × V)). EndsAt low es k) (sym is) (le, refl), tt)
laid_more low k v b [] (x ∷ xs) y h f e le is = absurd h
laid_more low k v b (t ∷ ts) [] y h f e le is = absurd h
laid_more low k v zero (t ∷ ts) (x ∷ xs) y h f e le is = absurd (let bad : None ≡ Some x = e in cc)
laid_more low k v (suc b) (t ∷ ts) (x ∷ xs) y h f e le is = (h.0, laid_more (suc t) k v b ts xs y h.1 f.1 e (let lt = ltb-true t k f.0 in omega (arith, lt)) is)

after_longer : {V : Type 0} (j k : ℕ) (v : V) (t : ℕ) (es : List (ℕ × V)) → EndsAfter j es t → t < k → EndsAfter j (es ++ (k, v) ∷ []) k
after_longer j k v t [] h lt = (omega (arith, h, lt), refl)
after_longer j k v t (e ∷ es) h lt = (h.0, after_longer e.0 k v t es h.1 lt)

ends_longer : {V : Type 0} (low k : ℕ) (v : V) (t : ℕ) (es : List (ℕ × V)) → EndsAt low es t → t < k → EndsAt low (es ++ (k, v) ∷ []) k
ends_longer low k v t [] h lt = absurd h
ends_longer low k v t (e ∷ es) h lt = (h.0, after_longer e.0 k v t es h.1 lt)

laid_longer : {V : Type 0} (low k : ℕ) (v : V) (b : ℕ) (ts : List ℕ) (xs : List (List (ℕ × V))) (x y : List (ℕ × V)) → IsLaid low ts xs → AllByRecursion (λ t. nat_lt t k ≡ true) ts → suc b ≡ length xs → Some x ≡ slice_get xs b → y ≡ x ++ (k, v) ∷ [] → IsLaid low (slice_set ts b k) (slice_set xs b y) × (flat (slice_set xs b y) ≡ flat xs ++ (k, v) ∷ [])
laid_longer low k v b ts [] x y h f last at is = absurd (omega (arith, last))
laid_longer low k v b [] (z ∷ xs) x y h f last at is = absurd h
laid_longer {V = V} low k v zero (t ∷ []) (z ∷ []) x y h f last at is =
    let same : x ≡ z = cc in
    let items : y ≡ z ++ (k, v) ∷ [] = is ∙ ap (λ (w : List (ℕ × V)). w ++ (k, v) ∷ []) same in (
      (subst (λ (es : List (ℕ × V)). EndsAt low es k) (sym items) (ends_longer low k v t z h.0 (ltb-true t k f.0)), tt),
      append-nil y ∙ items ∙ ap (λ (es : List (ℕ × V)). es ++ (k, v) ∷ []) (sym (append-nil z)),
    )
laid_longer low k v zero (t ∷ u ∷ ts) (z ∷ []) x y h f last at is = absurd h.1
laid_longer low k v zero (t ∷ ts) (z ∷ w ∷ xs) x y h f last at is = absurd (omega (arith, last))
laid_longer {V = V} low k v (suc b) (t ∷ ts) (z ∷ xs) x y h f last at is =
    let ih = laid_longer (suc t) k v b ts xs x y h.1 f.1 (omega (arith, last)) at is in
    ((h.0, ih.0), ap (λ (es : List (ℕ × V)). z ++ es) ih.1 ∙ sym (append_assoc z (flat xs) ((k, v) ∷ [])))

-- the last block's length, as an index reads it
pub last_length_is : {V : Type 0} (n b : ℕ) (xs : List (List (ℕ × V))) (x : List (ℕ × V)) → suc b ≡ length xs → Some x ≡ slice_get xs b → last_length n xs ≡ length x
last_length_is n b [] x last e = absurd (omega (arith, last))
last_length_is {V = V} n zero (y ∷ []) x last e = let same : x ≡ y = cc in ap length (sym same)
last_length_is n zero (y ∷ z ∷ xs) x last e = absurd (omega (arith, last))
last_length_is n (suc b) (y ∷ xs) x last e = last_length_is (length y) b xs x (omega (arith, last)) e

module _ {V : Type 0} (k : ℕ) (v : V) (ts : List ℕ) (xs : List (List (ℕ × V))) (laid : IsLaid 0 ts xs) where
  -- the key belongs into the block at b
  module _ (b : ℕ) (below : AllByRecursion (λ t. nat_lt t k ≡ true) (take b ts)) (from : AllByRecursion (λ t. nat_lt t k ≡ false) (drop b ts)) (x y : List (ℕ × V)) (there : Some x ≡ slice_get xs b) where
    at : IsAt k None 0 ts xs b x
    at = at_block k None 0 ts xs b x (omega arith) laid below from there

    -- the entries, as those of the block and those around it
    whole : flat xs ≡ at.front ++ (x ++ at.rest)
    whole = at.whole

    whole_new : flat (slice_set xs b y) ≡ at.front ++ (y ++ at.rest)
    whole_new =
        flat_set xs b x y there ∙ ap (λ (es : List (ℕ × V)). es ++ (y ++ flat (drop (suc b) xs))) (sym at.front_is)
        ∙ ap (λ (es : List (ℕ × V)). at.front ++ (y ++ es)) (sym at.rest_is)

    module _ (new : NoKey k (flat xs)) (i : IsInserted x y k v) where
      none_there : NoKey k i.back
      none_there =
          second_part (λ z. z.0 ≢ k) i.front i.back (subst (NoKey k) i.old
          (front_all (λ z. z.0 ≢ k) x at.rest (second_part (λ z. z.0 ≢ k) at.front (x ++ at.rest) (subst (NoKey k) whole new))))

      pub put_laid : IsLaid 0 ts (slice_set xs b y)
      put_laid =
          subst (λ (zs : List (List (ℕ × V))). IsLaid 0 ts zs) (sym (set_is xs b x y there))
          (subst (λ (ns : List ℕ). IsLaid 0 ns (take b xs ++ y ∷ drop (suc b) xs)) (sym (cut_there ts b at.top at.top_is))
          (at.again (at.top ∷ []) (y ∷ []) (
            subst (λ (es : List (ℕ × V)). EndsAt at.low es at.top) (sym i.new)
                (ends_put at.low k v at.top i.front i.back (subst (λ (es : List (ℕ × V)). EndsAt at.low es at.top) i.old at.ends) at.start at.far i.below i.from none_there),
            omega arith,
          )).0)

      pub put_flat : IsInserted (flat xs) (flat (slice_set xs b y)) k v
      put_flat = record {
        front = at.front ++ i.front;
        back = i.back ++ at.rest;
        old = whole ∙ ap (λ (es : List (ℕ × V)). at.front ++ (es ++ at.rest)) i.old
            ∙ ap (λ (es : List (ℕ × V)). at.front ++ es) (append_assoc i.front i.back at.rest)
            ∙ sym (append_assoc at.front i.front (i.back ++ at.rest));
        new = whole_new
            ∙ ap (λ (es : List (ℕ × V)). at.front ++ (es ++ at.rest)) i.new
            ∙ ap (λ (es : List (ℕ × V)). at.front ++ es) (append_assoc i.front ((k, v) ∷ i.back) at.rest)
            ∙ sym (append_assoc at.front i.front ((k, v) ∷ (i.back ++ at.rest)));
        below = every_append (λ z. nat_lt z.0 k ≡ true) at.front i.front at.below i.below;
        from = every_append (λ z. nat_lt z.0 k ≡ false) i.back at.rest i.from at.from;
      }

    pub removed_flat : IsRemoved x y k v → IsRemoved (flat xs) (flat (slice_set xs b y)) k v
    removed_flat i = record {
      front = at.front ++ i.front;
      back = i.back ++ at.rest;
      old = whole ∙ ap (λ (es : List (ℕ × V)). at.front ++ (es ++ at.rest)) i.old
          ∙ ap (λ (es : List (ℕ × V)). at.front ++ es) (append_assoc i.front ((k, v) ∷ i.back) at.rest)
          ∙ sym (append_assoc at.front i.front ((k, v) ∷ (i.back ++ at.rest)));
      new = whole_new ∙ ap (λ (es : List (ℕ × V)). at.front ++ (es ++ at.rest)) i.new
          ∙ ap (λ (es : List (ℕ × V)). at.front ++ es) (append_assoc i.front i.back at.rest)
          ∙ sym (append_assoc at.front i.front (i.back ++ at.rest));
      below = every_append (λ z. nat_lt z.0 k ≡ true) at.front i.front at.below i.below;
      from = every_append (λ z. nat_lt z.0 k ≡ false) i.back at.rest i.from at.from;
    }

    pub changed_flat : (was : V) → IsChanged x y k v was → IsChanged (flat xs) (flat (slice_set xs b y)) k v was
    changed_flat was i = record {
      front = at.front ++ i.front;
      back = i.back ++ at.rest;
      old = whole ∙ ap (λ (es : List (ℕ × V)). at.front ++ (es ++ at.rest)) i.old
          ∙ ap (λ (es : List (ℕ × V)). at.front ++ es) (append_assoc i.front ((k, was) ∷ i.back) at.rest)
          ∙ sym (append_assoc at.front i.front ((k, was) ∷ (i.back ++ at.rest)));
      new = whole_new
          ∙ ap (λ (es : List (ℕ × V)). at.front ++ (es ++ at.rest)) i.new
          ∙ ap (λ (es : List (ℕ × V)). at.front ++ es) (append_assoc i.front ((k, v) ∷ i.back) at.rest)
          ∙ sym (append_assoc at.front i.front ((k, v) ∷ (i.back ++ at.rest)));
      below = every_append (λ z. nat_lt z.0 k ≡ true) at.front i.front at.below i.below;
      from = every_append (λ z. nat_lt z.0 k ≡ false) i.back at.rest i.from at.from;
    }

  -- all tops are below the key
  module _ (below : AllByRecursion (λ t. nat_lt t k ≡ true) ts) where
    some_below : AllByRecursion (λ t. nat_lt t k ≡ true) (take (length xs) ts)
    some_below = all_take (λ t. nat_lt t k ≡ true) ts (length xs) below

    nothing : None ≡ slice_get xs (length xs)
    nothing = sym (slice_get_past xs (length xs) (omega arith))

    keys_below : AreBelow k (flat xs)
    keys_below = (past_blocks k None 0 ts xs (length xs) laid some_below nothing).below

    inserted_last : (fs : List (ℕ × V)) → fs ≡ flat xs ++ (k, v) ∷ [] → IsInserted (flat xs) fs k v
    inserted_last fs e = record { front = flat xs; back = []; old = sym (append-nil (flat xs)); new = e; below = keys_below; from = tt }

    pub append_laid : (y : List (ℕ × V)) → y ≡ (k, v) ∷ [] → IsLaid 0 (ts ++ k ∷ []) (xs ++ y ∷ [])
    append_laid y is = laid_more 0 k v (length xs) ts xs y laid some_below nothing (omega arith) is

    pub append_flat : (y : List (ℕ × V)) → y ≡ (k, v) ∷ [] → IsInserted (flat xs) (flat (xs ++ y ∷ [])) k v
    append_flat y is = inserted_last (flat (xs ++ y ∷ [])) (flat_join xs (y ∷ []) ∙ ap (λ (es : List (ℕ × V)). flat xs ++ (es ++ [])) is)

    pub push_laid : (b : ℕ) (x y : List (ℕ × V)) → suc b ≡ length xs → Some x ≡ slice_get xs b → y ≡ x ++ (k, v) ∷ [] → IsLaid 0 (slice_set ts b k) (slice_set xs b y)
    push_laid b x y last there is = (laid_longer 0 k v b ts xs x y laid below last there is).0

    pub push_flat : (b : ℕ) (x y : List (ℕ × V)) → suc b ≡ length xs → Some x ≡ slice_get xs b → y ≡ x ++ (k, v) ∷ [] → IsInserted (flat xs) (flat (slice_set xs b y)) k v
    push_flat b x y last there is = inserted_last (flat (slice_set xs b y)) (laid_longer 0 k v b ts xs x y laid below last there is).1

-- Another value

after_change : {V : Type 0} (j k : ℕ) (v w : V) (t : ℕ) (f g : List (ℕ × V)) → EndsAfter j (f ++ (k, w) ∷ g) t → EndsAfter j (f ++ (k, v) ∷ g) t
after_change j k v w t [] g h = h
after_change j k v w t (e ∷ f) g h = (h.0, after_change e.0 k v w t f g h.1)

ends_change : {V : Type 0} (low k : ℕ) (v w : V) (t : ℕ) (f g : List (ℕ × V)) → EndsAt low (f ++ (k, w) ∷ g) t → EndsAt low (f ++ (k, v) ∷ g) t
ends_change low k v w t [] g h = h
ends_change low k v w t (e ∷ f) g h = (h.0, after_change e.0 k v w t f g h.1)

pub changed_laid : {V : Type 0} (k : ℕ) (v was : V) (ts : List ℕ) (xs : List (List (ℕ × V))) (b : ℕ) (x y : List (ℕ × V)) → IsLaid 0 ts xs → Some x ≡ slice_get xs b → IsChanged x y k v was → IsLaid 0 ts (slice_set xs b y)
changed_laid {V = V} k v was ts xs b x y h e i =
    laid_set 0 ts xs b x y h e
    (λ l t ends at. subst (λ (es : List (ℕ × V)). EndsAt l es t) (sym i.new) (ends_change l k v was t i.front i.back (subst (λ (es : List (ℕ × V)). EndsAt l es t) i.old ends)))

pub same_laid : {V : Type 0} (ts : List ℕ) (xs : List (List (ℕ × V))) (b : ℕ) (x y : List (ℕ × V)) → IsLaid 0 ts xs → Some x ≡ slice_get xs b → y ≡ x → IsLaid 0 ts (slice_set xs b y)
same_laid {V = V} ts xs b x y h e is = laid_set 0 ts xs b x y h e (λ l t ends at. subst (λ (es : List (ℕ × V)). EndsAt l es t) (sym is) ends)

pub same_flat : {V : Type 0} (xs : List (List (ℕ × V))) (b : ℕ) (x y : List (ℕ × V)) → Some x ≡ slice_get xs b → y ≡ x → flat (slice_set xs b y) ≡ flat xs
same_flat [] b x y e is = refl
same_flat {V = V} (z ∷ xs) zero x y e is = let same : x ≡ z = cc in ap (λ (es : List (ℕ × V)). es ++ flat xs) (is ∙ same)
same_flat {V = V} (z ∷ xs) (suc b) x y e is = ap (λ (es : List (ℕ × V)). z ++ es) (same_flat xs b x y e is)

-- A block in two

after_two : {V : Type 0} (j top t : ℕ) (f g : List (ℕ × V)) → EndsAfter j (f ++ g) top → last_key (Some j) f ≡ Some t → EndsAfter j f t × EndsAfter t g top
after_two {V = V} j top t [] g h e = let same : j ≡ t = cc in (same, subst (λ (n : ℕ). EndsAfter n g top) same h)
after_two j top t (x ∷ f) g h e = let r = after_two x.0 top t f g h.1 e in ((h.0, r.0), r.1)

ends_two : {V : Type 0} (low top t : ℕ) (f g : List (ℕ × V)) → EndsAt low (f ++ g) top → last_key None f ≡ Some t → 0 < length g → EndsAt low f t × EndsAt (suc t) g top
ends_two low top t [] g h e some = absurd (let bad : None ≡ Some t = e in cc)
ends_two low top t (x ∷ f) [] h e some = absurd (omega (arith, some))
ends_two low top t (x ∷ f) (y ∷ g) h e some = let r = after_two x.0 top t f (y ∷ g) h.1 e in ((h.0, r.0), (let lt = r.1.0 in omega (arith, lt), r.1.1))

pub halved_laid : {V : Type 0} (low : ℕ) (ts : List ℕ) (xs : List (List (ℕ × V))) (b : ℕ) (x l u : List (ℕ × V)) (top : ℕ) → IsLaid low ts xs → Some x ≡ slice_get xs b → IsHalved x l u top → IsLaid low (insert ts b top) (insert (slice_set xs b l) (suc b) u)
halved_laid low ts [] b x l u top h e i = absurd (let bad : Some x ≡ None = e in cc)
halved_laid low [] (z ∷ xs) b x l u top h e i = absurd h
halved_laid {V = V} low (t ∷ ts) (z ∷ xs) zero x l u top h e i =
    let same : x ≡ z = cc in
    let parts : z ≡ l ++ u = (sym same) ∙ i.items in
    let r = ends_two low t top l u (subst (λ (es : List (ℕ × V)). EndsAt low es t) parts h.0) i.last (let n = i.others in omega (arith, n)) in
    (r.0, (r.1, h.1))
halved_laid low (t ∷ ts) (z ∷ xs) (suc b) x l u top h e i = (h.0, halved_laid (suc t) ts xs b x l u top h.1 e i)

-- One entry less

some_same : (a b : ℕ) → Some a ≡ Some b → a ≡ b
some_same a b h = cc

after_start : {V : Type 0} (j k top t : ℕ) (g : List (ℕ × V)) → j < k → EndsAfter k g top → last_key (Some j) g ≡ Some t → EndsAfter j g t × (t ≤ top)
after_start j k top t [] lt h e = let same = some_same j t e in (same, omega (arith, lt, h, same))
after_start {V = V} j k top t (x ∷ g) lt h e =
    let same = some_same top t (sym (after_last x.0 g top h.1) ∙ e) in
    ((omega (arith, lt, h.0), subst (λ (n : ℕ). EndsAfter x.0 g n) same h.1), omega (arith, same))

after_cut : {V : Type 0} (j k : ℕ) (v : V) (top t : ℕ) (f g : List (ℕ × V)) → EndsAfter j (f ++ (k, v) ∷ g) top → last_key (Some j) (f ++ g) ≡ Some t → EndsAfter j (f ++ g) t × (t ≤ top)
after_cut j k v top t [] g h e = after_start j k top t g h.0 h.1 e
after_cut j k v top t (x ∷ f) g h e = let r = after_cut x.0 k v top t f g h.1 e in ((h.0, r.0), r.1)

ends_cut : {V : Type 0} (low k : ℕ) (v : V) (top t : ℕ) (f g : List (ℕ × V)) → EndsAt low (f ++ (k, v) ∷ g) top → last_key None (f ++ g) ≡ Some t → EndsAt low (f ++ g) t × (t ≤ top)
ends_cut low k v top t [] [] h e = absurd (let bad : None ≡ Some t = e in cc)
ends_cut low k v top t [] (x ∷ g) h e =
    let same = some_same top t (sym (after_last x.0 g top h.1.1) ∙ e) in
    let up = h.1.0 in
    ((omega (arith, h.0, up), subst (λ (n : ℕ). EndsAfter x.0 g n) same h.1.1), omega (arith, same))
ends_cut low k v top t (x ∷ f) g h e = let r = after_cut x.0 k v top t f g h.1 e in ((h.0, r.0), r.1)

pub topped_laid : {V : Type 0} (low k : ℕ) (v : V) (top : ℕ) (ts : List ℕ) (xs : List (List (ℕ × V))) (b : ℕ) (x y : List (ℕ × V)) → IsLaid low ts xs → Some x ≡ slice_get xs b → IsRemoved x y k v → last_key None y ≡ Some top → IsLaid low (slice_set ts b top) (slice_set xs b y)
topped_laid low k v top ts [] b x y h e i last = absurd (let bad : Some x ≡ None = e in cc)
topped_laid low k v top [] (z ∷ xs) b x y h e i last = absurd h
topped_laid {V = V} low k v top (t ∷ ts) (z ∷ xs) zero x y h e i last =
    let same : x ≡ z = cc in
    let parts : z ≡ i.front ++ (k, v) ∷ i.back = (sym same) ∙ i.old in
    let cut = ends_cut low k v t top i.front i.back (subst (λ (es : List (ℕ × V)). EndsAt low es t) parts h.0) (ap (last_key None) (sym i.new) ∙ last) in
    let le = cut.1 in
    (subst (λ (es : List (ℕ × V)). EndsAt low es top) (sym i.new) cut.0, laid_less (suc top) (suc t) ts xs (omega (arith, le)) h.1)
topped_laid low k v top (t ∷ ts) (z ∷ xs) (suc b) x y h e i last = (h.0, topped_laid (suc t) k v top ts xs b x y h.1 e i last)

-- One block less

pub gone_laid : {V : Type 0} (low : ℕ) (ts : List ℕ) (xs : List (List (ℕ × V))) (b : ℕ) → IsLaid low ts xs → IsLaid low (remove ts b) (remove xs b)
gone_laid low [] [] zero h = tt
gone_laid low [] [] (suc b) h = tt
gone_laid low [] (x ∷ xs) b h = absurd h
gone_laid low (t ∷ ts) [] b h = absurd h
gone_laid low (t ∷ ts) (x ∷ xs) zero h = let le = ends_top low x t h.0 in laid_less low (suc t) ts xs (omega (arith, le)) h.1
gone_laid low (t ∷ ts) (x ∷ xs) (suc b) h = (h.0, gone_laid (suc t) ts xs b h.1)

-- Two blocks in one

after_join : {V : Type 0} (j t top : ℕ) (f g : List (ℕ × V)) → EndsAfter j f t → EndsAt (suc t) g top → EndsAfter j (f ++ g) top
after_join j t top [] [] h k = absurd k
after_join j t top [] (e ∷ g) h k = (omega (arith, h, k.0), k.1)
after_join j t top (e ∷ f) g h k = (h.0, after_join e.0 t top f g h.1 k)

ends_join : {V : Type 0} (low t top : ℕ) (f g : List (ℕ × V)) → EndsAt low f t → EndsAt (suc t) g top → EndsAt low (f ++ g) top
ends_join low t top [] g h k = absurd h
ends_join low t top (e ∷ f) g h k = (h.0, after_join e.0 t top f g h.1 k)

pub merged_laid : {V : Type 0} (low : ℕ) (ts : List ℕ) (xs : List (List (ℕ × V))) (j : ℕ) (p q z : List (ℕ × V)) → IsLaid low ts xs → Some p ≡ slice_get xs j → Some q ≡ slice_get xs (suc j) → z ≡ p ++ q → IsLaid low (remove ts j) (slice_set (remove xs (suc j)) j z)
merged_laid low ts [] j p q z h f g is = absurd (let bad : Some p ≡ None = f in cc)
merged_laid low [] (x ∷ xs) j p q z h f g is = absurd h
merged_laid low (t ∷ ts) (x ∷ []) zero p q z h f g is = absurd (let bad : Some q ≡ None = g in cc)
merged_laid low (t ∷ []) (x ∷ y ∷ xs) zero p q z h f g is = absurd h.1
merged_laid {V = V} low (t ∷ u ∷ ts) (x ∷ y ∷ xs) zero p q z h f g is =
    let one : p ≡ x = cc in let two : q ≡ y = cc in
    let parts : z ≡ x ++ y = is ∙ ap (λ (w : List (ℕ × V)). w ++ q) one ∙ ap (λ (w : List (ℕ × V)). x ++ w) two in
    (subst (λ (es : List (ℕ × V)). EndsAt low es u) (sym parts) (ends_join low t u x y h.0 h.1.0), h.1.1)
merged_laid low (t ∷ ts) (x ∷ xs) (suc j) p q z h f g is = (h.0, merged_laid (suc t) ts xs j p q z h.1 f g is)

-- No entry

past_none : {V : Type 0} (k : ℕ) (es : List (ℕ × V)) → AreFrom (suc k) es → NoKey k es
past_none k [] h = tt
past_none k (e ∷ es) h = (λ f. omega (arith, f, ltb-false e.0 (suc k) h.0), past_none k es h.1)

module _ {V : Type 0} (k : ℕ) (ts : List ℕ) (xs : List (List (ℕ × V))) (b : ℕ) (laid : IsLaid 0 ts xs) (below : AllByRecursion (λ t. nat_lt t k ≡ true) (take b ts)) where
  pub absent : AllByRecursion (λ t. nat_lt t k ≡ false) (drop b ts) → (x : List (ℕ × V)) → Some x ≡ slice_get xs b → NoKey k x → NoKey k (flat xs)
  absent from x there none =
      let at = at_block k None 0 ts xs b x (omega arith) laid below from there in
      subst (NoKey k) (sym at.whole)
      (every_append (λ z. z.0 ≢ k) at.front (x ++ at.rest) (below_none k at.front at.below)
      (every_append (λ z. z.0 ≢ k) x at.rest none (past_none k at.rest at.past)))

  pub absent_behind : length xs ≤ b → NoKey k (flat xs)
  absent_behind far = below_none k (flat xs) (past_blocks k None 0 ts xs b laid below (sym (slice_get_past xs b far))).below
