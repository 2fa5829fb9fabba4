-- Where a point stands among the blocks.
use Rattle.std.proofs.Common.{◌≡◌, ℕ, zero, suc, ◌-◌, ◌≤◌, ◌<◌, true, false, List, [], ◌∷◌, ◌++◌, length, take, drop, Option, Some, None, refl, sym, ap, subst, ◌∙◌, arith}
use Rattle.std.proofs.lemmas.Option.{slice_get_past}
use Rattle.std.proofs.lemmas.List.{take-append-drop, append-nil, append_assoc}
use Rattle.std.proofs.lemmas.Bool.Decides.{nat_tests}
use Rattle.std.proofs.lemmas.Bool.{ltb-true, ltb-false, lt-ltb, le-ltb}
use Rattle.std.proofs.Permutation.{every_append}
use Rattle.std.specs.Prelude.{nat_lt, slice_index_or}
use Rattle.std.specs.List.{AllByRecursion, AllWithin, slice_get}
use Rattle.std.specs.List.Sorted.{IsPartitionedBy}
use Rattle.krl_blocks.specs.Laid.{flat, Above, Rises, KeysAbove, KeysRise, EndsAfter, EndsAt, IsLaid, LaidTo, AreBelow, AreFrom, last_key, IsFound}

-- Lists that rise

above_at : (k : ℕ) (ns : List ℕ) (j d : ℕ) → Above k ns → j < length ns → k < slice_index_or ns j d
above_at k [] j d h l = absurd (omega (arith, l))
above_at k (n ∷ ns) zero d h l = h.0
above_at k (n ∷ ns) (suc j) d h l = above_at k ns j d h.1 (omega (arith, l))

rise : (ns : List ℕ) (i j d : ℕ) → Rises ns → i ≤ j → j < length ns → slice_index_or ns i d ≤ slice_index_or ns j d
rise [] i j d h le l = absurd (omega (arith, l))
rise (n ∷ ns) zero zero d h le l = omega arith
rise (n ∷ ns) zero (suc j) d h le l = omega (arith, above_at n ns j d h.0 (omega (arith, l)))
rise (n ∷ ns) (suc i) zero d h le l = absurd (omega (arith, le))
rise (n ∷ ns) (suc i) (suc j) d h le l = rise ns i j d h.1 (omega (arith, le)) (omega (arith, l))

pub below_before : (a b p : ℕ) → a ≤ b → nat_lt b p ≡ true → nat_lt a p ≡ true
below_before a b p le h = grind (arith, nat_tests)

pub tops_partitioned : (ns : List ℕ) (p : ℕ) → Rises ns → IsPartitionedBy (λ t. nat_lt t p) ns
tops_partitioned ns p h i j d le l up = below_before (slice_index_or ns i d) (slice_index_or ns j d) p (rise ns i j d h le l) up

key_above_at : {V : Type 0} (k : ℕ) (es : List (ℕ × V)) (j : ℕ) (d : ℕ × V) → KeysAbove k es → j < length es → k < (slice_index_or es j d).0
key_above_at k [] j d h l = absurd (omega (arith, l))
key_above_at k (e ∷ es) zero d h l = h.0
key_above_at k (e ∷ es) (suc j) d h l = key_above_at k es j d h.1 (omega (arith, l))

keys_rise : {V : Type 0} (es : List (ℕ × V)) (i j : ℕ) (d : ℕ × V) → KeysRise es → i ≤ j → j < length es → (slice_index_or es i d).0 ≤ (slice_index_or es j d).0
keys_rise [] i j d h le l = absurd (omega (arith, l))
keys_rise (e ∷ es) zero zero d h le l = omega arith
keys_rise (e ∷ es) zero (suc j) d h le l = omega (arith, key_above_at e.0 es j d h.0 (omega (arith, l)))
keys_rise (e ∷ es) (suc i) zero d h le l = absurd (omega (arith, le))
keys_rise (e ∷ es) (suc i) (suc j) d h le l = keys_rise es i j d h.1 (omega (arith, le)) (omega (arith, l))

pub keys_partitioned : {V : Type 0} (es : List (ℕ × V)) (p : ℕ) → KeysRise es → IsPartitionedBy (λ e. nat_lt e.0 p) es
keys_partitioned es p h i j d le l up = below_before (slice_index_or es i d).0 (slice_index_or es j d).0 p (keys_rise es i j d h le l) up

pub front_passes : {X : Type 0} (P : X → Type 0) (xs : List X) (i : ℕ) → i ≤ length xs → AllWithin P xs 0 i → AllByRecursion P (take i xs)
front_passes P [] zero l h = tt
front_passes P [] (suc i) l h = absurd (omega (arith, l))
front_passes P (x ∷ xs) zero l h = tt
front_passes P (x ∷ xs) (suc i) l h = (h 0 x (omega arith) (omega arith), front_passes P xs i (omega (arith, l)) (λ k d a b. h (suc k) d (omega arith) (omega (arith, b))))

pub back_passes : {X : Type 0} (P : X → Type 0) (xs : List X) (i : ℕ) → AllWithin P xs i (length xs) → AllByRecursion P (drop i xs)
back_passes P [] zero h = tt
back_passes P [] (suc i) h = tt
back_passes P (x ∷ xs) zero h = (h 0 x (omega arith) (omega arith), back_passes P xs 0 (λ k d a b. h (suc k) d (omega arith) (omega (arith, b))))
back_passes P (x ∷ xs) (suc i) h = back_passes P xs i (λ k d a b. h (suc k) d (omega (arith, a)) (omega (arith, b)))

-- What is laid rises

pub keys_after_less : {V : Type 0} (j k : ℕ) (es : List (ℕ × V)) → j ≤ k → KeysAbove k es → KeysAbove j es
keys_after_less j k [] le h = tt
keys_after_less j k (e ∷ es) le h = (omega (arith, le, h.0), keys_after_less j k es le h.1)

after_above : {V : Type 0} (k : ℕ) (es : List (ℕ × V)) (t : ℕ) → EndsAfter k es t → KeysAbove k es
after_above k [] t h = tt
after_above k (e ∷ es) t h = (h.0, keys_after_less k e.0 es (omega (arith, h.0)) (after_above e.0 es t h.1))

after_rise : {V : Type 0} (k : ℕ) (es : List (ℕ × V)) (t : ℕ) → EndsAfter k es t → KeysRise es
after_rise k [] t h = tt
after_rise k (e ∷ es) t h = (after_above e.0 es t h.1, after_rise e.0 es t h.1)

pub ends_rise : {V : Type 0} (low : ℕ) (es : List (ℕ × V)) (t : ℕ) → EndsAt low es t → KeysRise es
ends_rise low [] t h = absurd h
ends_rise low (e ∷ es) t h = (after_above e.0 es t h.1, after_rise e.0 es t h.1)

after_top : {V : Type 0} (k : ℕ) (es : List (ℕ × V)) (t : ℕ) → EndsAfter k es t → k ≤ t
after_top k [] t h = omega (arith, h)
after_top k (e ∷ es) t h = omega (arith, h.0, after_top e.0 es t h.1)

pub ends_top : {V : Type 0} (low : ℕ) (es : List (ℕ × V)) (t : ℕ) → EndsAt low es t → low ≤ t
ends_top low [] t h = absurd h
ends_top low (e ∷ es) t h = omega (arith, h.0, after_top e.0 es t h.1)

above_less : (j k : ℕ) (ns : List ℕ) → j ≤ k → Above k ns → Above j ns
above_less j k [] le h = tt
above_less j k (n ∷ ns) le h = (omega (arith, le, h.0), above_less j k ns le h.1)

laid_above : {V : Type 0} (t : ℕ) (ts : List ℕ) (xs : List (List (ℕ × V))) → IsLaid (suc t) ts xs → Above t ts
laid_above t [] xs h = tt
laid_above t (u ∷ ts) [] h = absurd h
laid_above t (u ∷ ts) (x ∷ xs) h = let lt = ends_top (suc t) x u h.0 in (omega (arith, lt), above_less t u ts (omega (arith, lt)) (laid_above u ts xs h.1))

pub laid_rise : {V : Type 0} (low : ℕ) (ts : List ℕ) (xs : List (List (ℕ × V))) → IsLaid low ts xs → Rises ts
laid_rise low [] xs h = tt
laid_rise low (t ∷ ts) [] h = absurd h
laid_rise low (t ∷ ts) (x ∷ xs) h = (laid_above t ts xs h.1, laid_rise (suc t) ts xs h.1)

-- The block of a point

pub laid_less : {V : Type 0} (j k : ℕ) (ts : List ℕ) (xs : List (List (ℕ × V))) → j ≤ k → IsLaid k ts xs → IsLaid j ts xs
laid_less j k [] [] le h = tt
laid_less j k [] (x ∷ xs) le h = absurd h
laid_less j k (t ∷ ts) [] le h = absurd h
laid_less {V = V} j k (t ∷ ts) (x ∷ xs) le h = (ends_less x h.0, h.1)
  where
    ends_less : (es : List (ℕ × V)) → EndsAt k es t → EndsAt j es t
    ends_less [] g = absurd g
    ends_less (e ∷ es) g = (omega (arith, le, g.0), g.1)

after_below : {V : Type 0} (p k : ℕ) (es : List (ℕ × V)) (t : ℕ) → EndsAfter k es t → t < p → AreBelow p es
after_below p k [] t h lt = tt
after_below p k (e ∷ es) t h lt = (lt-ltb e.0 p (omega (arith, after_top e.0 es t h.1, lt)), after_below p e.0 es t h.1 lt)

ends_below : {V : Type 0} (p low : ℕ) (es : List (ℕ × V)) (t : ℕ) → EndsAt low es t → t < p → AreBelow p es
ends_below p low [] t h lt = absurd h
ends_below p low (e ∷ es) t h lt = (lt-ltb e.0 p (omega (arith, after_top e.0 es t h.1, lt)), after_below p e.0 es t h.1 lt)

pub above_from : {V : Type 0} (p k : ℕ) (es : List (ℕ × V)) → p ≤ k → KeysAbove k es → AreFrom p es
above_from p k [] le h = tt
above_from p k (e ∷ es) le h = (le-ltb e.0 p (omega (arith, le, h.0)), above_from p k es le h.1)

ends_from : {V : Type 0} (p low : ℕ) (es : List (ℕ × V)) (t : ℕ) → EndsAt low es t → p ≤ low → AreFrom p es
ends_from p low [] t h le = absurd h
ends_from p low (e ∷ es) t h le = (le-ltb e.0 p (omega (arith, le, h.0)), above_from p e.0 es (omega (arith, le, h.0)) (after_above e.0 es t h.1))

pub front_all : {X : Type 0} (P : X → Type 0) (xs ys : List X) → AllByRecursion P (xs ++ ys) → AllByRecursion P xs
front_all P [] ys h = tt
front_all P (x ∷ xs) ys h = (h.0, front_all P xs ys h.1)

laid_from : {V : Type 0} (p low : ℕ) (ts : List ℕ) (xs : List (List (ℕ × V))) → IsLaid low ts xs → p ≤ low → AreFrom p (flat xs)
laid_from p low [] [] h le = tt
laid_from p low [] (x ∷ xs) h le = absurd h
laid_from p low (t ∷ ts) [] h le = absurd h
laid_from p low (t ∷ ts) (x ∷ xs) h le =
    every_append (λ e. nat_lt e.0 p ≡ false) x (flat xs) (ends_from p low x t h.0 le) (laid_from p (suc t) ts xs h.1 (omega (arith, le, ends_top low x t h.0)))

-- the last number, or this if there is none
abbrev pub last_of : Option ℕ → List ℕ → Option ℕ
last_of o [] = o
last_of o (n ∷ ns) = last_of (Some n) ns

pub last_join : {V : Type 0} (o : Option ℕ) (xs ys : List (ℕ × V)) → last_key o (xs ++ ys) ≡ last_key (last_key o xs) ys
last_join o [] ys = refl
last_join o (x ∷ xs) ys = last_join (Some x.0) xs ys

pub after_last : {V : Type 0} (k : ℕ) (es : List (ℕ × V)) (t : ℕ) → EndsAfter k es t → last_key (Some k) es ≡ Some t
after_last k [] t h = ap (λ (n : ℕ). Some n) h
after_last k (e ∷ es) t h = after_last e.0 es t h.1

ends_last : {V : Type 0} (o : Option ℕ) (low : ℕ) (es : List (ℕ × V)) (t : ℕ) → EndsAt low es t → last_key o es ≡ Some t
ends_last o low [] t h = absurd h
ends_last o low (e ∷ es) t h = after_last e.0 es t h.1

-- x is the block at b, and the blocks before it lie below p, those after it not; its keys rise from
-- low on up to top, which is not below p
pub record IsAt {V : Type 0} (p : ℕ) (o : Option ℕ) (least : ℕ) (ts : List ℕ) (xs : List (List (ℕ × V))) (b : ℕ) (x : List (ℕ × V)) : Type 0 where
  pub front : List (ℕ × V)
  pub rest : List (ℕ × V)
  pub front_is : front ≡ flat (take b xs)
  pub rest_is : rest ≡ flat (drop (suc b) xs)
  pub whole : flat xs ≡ front ++ (x ++ rest)
  pub below : AreBelow p front
  pub from : AreFrom p rest
  pub last : last_of o (take b ts) ≡ last_key o front
  pub low : ℕ
  pub top : ℕ
  pub ends : EndsAt low x top
  pub start : low ≤ p
  pub far : p ≤ top
  pub past : AreFrom (suc p) rest
  pub top_is : Some top ≡ slice_get ts b
  -- and other blocks in its place are laid with the others
  pub again : (us : List ℕ) (ys : List (List (ℕ × V))) → LaidTo low us ys top → IsLaid least (take b ts ++ (us ++ drop (suc b) ts)) (take b xs ++ (ys ++ drop (suc b) xs)) × (flat (take b xs ++ (ys ++ drop (suc b) xs)) ≡ front ++ (flat ys ++ rest))

laid_on : {V : Type 0} (low top : ℕ) (us : List ℕ) (ys : List (List (ℕ × V))) (ts : List ℕ) (xs : List (List (ℕ × V))) → LaidTo low us ys top → IsLaid (suc top) ts xs → IsLaid low (us ++ ts) (ys ++ xs)
laid_on low top [] [] ts xs h g = laid_less low (suc top) ts xs h g
laid_on low top [] (y ∷ ys) ts xs h g = absurd h
laid_on low top (u ∷ us) [] ts xs h g = absurd h
laid_on low top (u ∷ us) (y ∷ ys) ts xs h g = (h.0, laid_on (suc u) top us ys ts xs h.1 g)

pub flat_join : {V : Type 0} (xs ys : List (List (ℕ × V))) → flat (xs ++ ys) ≡ flat xs ++ flat ys
flat_join [] ys = refl
flat_join {V = V} (x ∷ xs) ys = ap (λ (es : List (ℕ × V)). x ++ es) (flat_join xs ys) ∙ sym (append_assoc x (flat xs) (flat ys))

pub at_block : {V : Type 0} (p : ℕ) (o : Option ℕ) (low : ℕ) (ts : List ℕ) (xs : List (List (ℕ × V))) (b : ℕ) (x : List (ℕ × V)) → low ≤ p → IsLaid low ts xs → AllByRecursion (λ t. nat_lt t p ≡ true) (take b ts) → AllByRecursion (λ t. nat_lt t p ≡ false) (drop b ts) → Some x ≡ slice_get xs b → IsAt p o low ts xs b x
at_block p o low [] [] b x le h f g e = absurd (let bad : Some x ≡ None = e in cc)
at_block p o low [] (y ∷ ys) b x le h f g e = absurd h
at_block p o low (t ∷ ts) [] b x le h f g e = absurd h
at_block {V = V} p o low (t ∷ ts) (y ∷ ys) zero x le h f g e =
    let same : x ≡ y = cc in
    subst (λ (z : List (ℕ × V)). IsAt p o low (t ∷ ts) (y ∷ ys) 0 z) (sym same)
    (record {
      front = [];
      rest = flat ys;
      front_is = refl;
      rest_is = refl;
      whole = refl;
      below = tt;
      from = laid_from p (suc t) ts ys h.1 (omega (arith, ltb-false t p g.0));
      last = refl;
      low = low;
      top = t;
      ends = h.0;
      start = le;
      far = ltb-false t p g.0;
      past = laid_from (suc p) (suc t) ts ys h.1 (omega (arith, ltb-false t p g.0));
      top_is = refl;
      again = λ us zs k. (laid_on low t us zs ts ys k h.1, flat_join zs ys);
    })
at_block {V = V} p o low (t ∷ ts) (y ∷ ys) (suc b) x le h f g e =
    let lt = ltb-true t p f.0 in
    let ih = at_block p (Some t) (suc t) ts ys b x (omega (arith, lt)) h.1 f.1 g e in
    record {
      front = y ++ ih.front;
      rest = ih.rest;
      front_is = ap (λ (es : List (ℕ × V)). y ++ es) ih.front_is;
      rest_is = ih.rest_is;
      whole = ap (λ (es : List (ℕ × V)). y ++ es) ih.whole ∙ sym (append_assoc y ih.front (x ++ ih.rest));
      below = every_append (λ e. nat_lt e.0 p ≡ true) y ih.front (ends_below p low y t h.0 lt) ih.below;
      from = ih.from;
      last = ih.last ∙ sym (last_join o y ih.front ∙ ap (λ (u : Option ℕ). last_key u ih.front) (ends_last o low y t h.0));
      low = ih.low;
      top = ih.top;
      ends = ih.ends;
      start = ih.start;
      far = ih.far;
      past = ih.past;
      top_is = ih.top_is;
      again = λ us zs k. let x = ih.again us zs k in ((h.0, x.0), ap (λ (es : List (ℕ × V)). y ++ es) x.1 ∙ sym (append_assoc y ih.front (flat zs ++ ih.rest)));
    }

-- p lies above all blocks
pub record IsPast {V : Type 0} (p : ℕ) (o : Option ℕ) (ts : List ℕ) (xs : List (List (ℕ × V))) (b : ℕ) : Type 0 where
  pub below : AreBelow p (flat xs)
  pub last : last_of o (take b ts) ≡ last_key o (flat xs)

pub past_blocks : {V : Type 0} (p : ℕ) (o : Option ℕ) (low : ℕ) (ts : List ℕ) (xs : List (List (ℕ × V))) (b : ℕ) → IsLaid low ts xs → AllByRecursion (λ t. nat_lt t p ≡ true) (take b ts) → None ≡ slice_get xs b → IsPast p o ts xs b
past_blocks p o low [] [] zero h f e = record { below = tt; last = refl }
past_blocks p o low [] [] (suc b) h f e = record { below = tt; last = refl }
past_blocks p o low [] (y ∷ ys) b h f e = absurd h
past_blocks p o low (t ∷ ts) [] b h f e = absurd h
past_blocks p o low (t ∷ ts) (y ∷ ys) zero h f e = absurd (let bad : None ≡ Some y = e in cc)
past_blocks p o low (t ∷ ts) (y ∷ ys) (suc b) h f e =
    let ih = past_blocks p (Some t) (suc t) ts ys b h.1 f.1 e in
    record {
      below = every_append (λ e. nat_lt e.0 p ≡ true) y (flat ys) (ends_below p low y t h.0 (ltb-true t p f.0)) ih.below;
      last = ih.last ∙ sym (last_join o y (flat ys) ∙ ap (λ (u : Option ℕ). last_key u (flat ys)) (ends_last o low y t h.0));
    }

one_less : {X : Type 0} (n : X) (ns : List X) → length (n ∷ ns) - 1 ≡ length ns
one_less n ns = omega arith

last_read : (o : Option ℕ) (n : ℕ) (ns : List ℕ) → last_of o (n ∷ ns) ≡ slice_get (n ∷ ns) (length ns)
last_read o n [] = refl
last_read o n (m ∷ ns) = last_read (Some n) m ns

-- what `last` reads
pub last_is : (ns : List ℕ) → slice_get ns (length ns - 1) ≡ last_of None ns
last_is [] = refl
last_is (n ∷ ns) = ap (slice_get (n ∷ ns)) (one_less n ns) ∙ sym (last_read None n ns)

key_read : {V : Type 0} (o : Option ℕ) (n : ℕ × V) (ns : List (ℕ × V)) (e : ℕ × V) → Some e ≡ slice_get (n ∷ ns) (length ns) → last_key o (n ∷ ns) ≡ Some e.0
key_read {V = V} o n [] e h = let same : e ≡ n = cc in ap (λ (f : ℕ × V). Some f.0) (sym same)
key_read o n (m ∷ ns) e h = key_read (Some n.0) m ns e h

-- what `last` reads of entries
pub key_is : {V : Type 0} (o : Option ℕ) (es : List (ℕ × V)) (e : ℕ × V) → Some e ≡ slice_get es (length es - 1) → last_key o es ≡ Some e.0
key_is o [] e h = absurd (let bad : Some e ≡ None = h in cc)
key_is o (n ∷ ns) e h = key_read o n ns e (h ∙ ap (slice_get (n ∷ ns)) (one_less n ns))

pub none_read : {V : Type 0} (es : List (ℕ × V)) → None ≡ slice_get es (length es - 1) → es ≡ []
none_read [] h = refl
none_read {V = V} (n ∷ ns) h = absurd (slice_past n ns (h ∙ ap (slice_get (n ∷ ns)) (one_less n ns)))
  where
    slice_past : (n : ℕ × V) (ns : List (ℕ × V)) → None ≡ slice_get (n ∷ ns) (length ns) → ⊥
    slice_past n [] h = absurd (let bad : None ≡ Some n = h in cc)
    slice_past n (m ∷ ns) h = slice_past m ns h

after_not_below : {V : Type 0} (p k : ℕ) (es : List (ℕ × V)) (t : ℕ) → EndsAfter k es t → p ≤ t → k < p → AreBelow p es → ⊥
after_not_below p k [] t h le lt b = omega (arith, h, le, lt)
after_not_below p k (e ∷ es) t h le lt b = after_not_below p e.0 es t h.1 le (ltb-true e.0 p b.0) b.1

ends_not_below : {V : Type 0} (p low : ℕ) (es : List (ℕ × V)) (t : ℕ) → EndsAt low es t → p ≤ t → AreBelow p es → ⊥
ends_not_below p low [] t h le b = h
ends_not_below p low (e ∷ es) t h le b = after_not_below p e.0 es t h.1 le (ltb-true e.0 p b.0) b.1

module _ {V : Type 0} (p : ℕ) (ts : List ℕ) (xs : List (List (ℕ × V))) (b : ℕ) (x : List (ℕ × V)) (at : IsAt p None 0 ts xs b x) (i : ℕ) (f : AreBelow p (take i x)) (g : AreFrom p (drop i x)) where
  whole_cut : flat xs ≡ (at.front ++ take i x) ++ (drop i x ++ at.rest)
  whole_cut =
      at.whole
      ∙ ap (λ (es : List (ℕ × V)). at.front ++ (es ++ at.rest)) (sym (take-append-drop i x))
      ∙ ap (λ (es : List (ℕ × V)). at.front ++ es) (append_assoc (take i x) (drop i x) at.rest)
      ∙ sym (append_assoc at.front (take i x) (drop i x ++ at.rest))

  not_none : drop i x ≡ [] → ⊥
  not_none e =
      ends_not_below p at.low x at.top at.ends at.far
      (subst (λ (es : List (ℕ × V)). AreBelow p es) (sym (append-nil (take i x)) ∙ ap (λ (es : List (ℕ × V)). take i x ++ es) (sym e) ∙ take-append-drop i x) f)

  -- with a key below p in the block or none
  pub found : (before : Option ℕ) → before ≡ last_key (last_key None at.front) (take i x) → IsFound (flat xs) p before (drop i x)
  found before h = record {
    front = at.front ++ take i x;
    rest = at.rest;
    whole = whole_cut;
    below = every_append (λ e. nat_lt e.0 p ≡ true) at.front (take i x) at.below f;
    from = every_append (λ e. nat_lt e.0 p ≡ false) (drop i x) at.rest g at.from;
    last = h ∙ sym (last_join None at.front (take i x));
    some = λ e. absurd (not_none e);
  }

  pub found_first : (before : Option ℕ) → before ≡ last_of None (take b ts) → None ≡ slice_get (take i x) (length (take i x) - 1) → IsFound (flat xs) p before (drop i x)
  found_first before h none = found before (h ∙ at.last ∙ ap (λ (es : List (ℕ × V)). last_key (last_key None at.front) es) (sym (none_read (take i x) none)))

  pub found_inside : (e : ℕ × V) → Some e ≡ slice_get (take i x) (length (take i x) - 1) → IsFound (flat xs) p (Some e.0) (drop i x)
  found_inside e h = found (Some e.0) (sym (key_is (last_key None at.front) (take i x) e h))

pub found_past : {V : Type 0} (p : ℕ) (ts : List ℕ) (xs : List (List (ℕ × V))) (b : ℕ) → IsPast p None ts xs b → (before : Option ℕ) → before ≡ last_of None (take b ts) → IsFound (flat xs) p before []
found_past p ts xs b past before h = record {
  front = flat xs;
  rest = [];
  whole = sym (append-nil (flat xs));
  below = past.below;
  from = tt;
  last = h ∙ past.last;
  some = λ e. refl;
}

-- The same, by what the calls answer

all_same : {X : Type 0} (P : X → Type 0) (xs ys : List X) → xs ≡ ys → AllByRecursion P xs → AllByRecursion P ys
all_same P xs ys e h = subst (λ (zs : List _). AllByRecursion P zs) e h

module _ {V : Type 0} (p : ℕ) (ts tops : List ℕ) (xs : List (List (ℕ × V))) (b : ℕ) (laid : IsLaid 0 ts xs) (e : tops ≡ ts) (below : AllByRecursion (λ t. nat_lt t p ≡ true) (take b tops)) (from : AllByRecursion (λ t. nat_lt t p ≡ false) (drop b tops)) where
  pub block_at : (x : List (ℕ × V)) → Some x ≡ slice_get xs b → IsAt p None 0 ts xs b x
  block_at x there =
      at_block p None 0 ts xs b x (omega arith) laid
      (subst (λ (ns : List ℕ). AllByRecursion (λ t. nat_lt t p ≡ true) (take b ns)) e below)
      (subst (λ (ns : List ℕ). AllByRecursion (λ t. nat_lt t p ≡ false) (drop b ns)) e from)
      there

  last_before : (front : List ℕ) (o : Option ℕ) → front ≡ take b tops → o ≡ slice_get front (length front - 1) → o ≡ last_of None (take b ts)
  last_before front o g h = h ∙ last_is front ∙ ap (last_of None) (g ∙ ap (take b) e)

  pub found_none : (front : List ℕ) (o : Option ℕ) → front ≡ take b tops → o ≡ slice_get front (length front - 1) → length xs ≤ b → IsFound (flat xs) p o []
  found_none front o g h far =
      found_past p ts xs b
      (past_blocks p None 0 ts xs b laid (subst (λ (ns : List ℕ). AllByRecursion (λ t. nat_lt t p ≡ true) (take b ns)) e below)
      (sym (slice_get_past xs b far)))
      o (last_before front o g h)

  module _ (x : List (ℕ × V)) (there : Some x ≡ slice_get xs b) (i : ℕ) (front back : List (ℕ × V)) (fronts : front ≡ take i x) (backs : back ≡ drop i x) (low : AreBelow p (take i x)) (high : AreFrom p (drop i x)) where
    pub found_low : (tops_front : List ℕ) (o : Option ℕ) → tops_front ≡ take b tops → o ≡ slice_get tops_front (length tops_front - 1) → None ≡ slice_get front (length front - 1) → IsFound (flat xs) p o back
    found_low tops_front o g h none =
        subst (λ (run : List (ℕ × V)). IsFound (flat xs) p o run) (sym backs)
        (found_first p ts xs b x (block_at x there) i low high o (last_before tops_front o g h)
        (subst (λ (zs : List (ℕ × V)). None ≡ slice_get zs (length zs - 1)) fronts none))

    pub found_here : (e : ℕ × V) → Some e ≡ slice_get front (length front - 1) → IsFound (flat xs) p (Some e.0) back
    found_here e some =
        subst (λ (run : List (ℕ × V)). IsFound (flat xs) p (Some e.0) run) (sym backs)
        (found_inside p ts xs b x (block_at x there) i low high e
        (subst (λ (zs : List (ℕ × V)). Some e ≡ slice_get zs (length zs - 1)) fronts some))
