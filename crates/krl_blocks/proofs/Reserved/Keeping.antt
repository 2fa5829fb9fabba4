-- What is found under a key: in the list of places, in the list of values, and in the map.
use Rattle.std.proofs.Common.{◌≡◌, ◌≢◌, ℕ, suc, ◌+◌, ◌≤◌, ◌<◌, Bool, true, false, T, cond, ◌&&◌, List, [], ◌∷◌, ◌++◌, length, Option, None, Some, IsSome, refl, sym, ap, subst, ◌∙◌, arith}
use Rattle.std.proofs.Common.{nat_eq, eq-eqb, ne_eqb}
use Rattle.std.proofs.lemmas.Bool.Decides.{nat_tests}
use Rattle.std.proofs.Flags.{T_true}
use Rattle.std.specs.List.{slice_get}
use Rattle.std.specs.Ordering.{nat_cmp, is_lt}
use Rattle.std.specs.Cmp.{nat_cmp_total}
use Rattle.std.specs.FinMap as map
use Rattle.std.specs.FinMap.Entries.{find, is_sorted, below_all}
use Rattle.slab.specs.Slab.{Slab, get, slab_len, Updates}
use Rattle.krl_blocks.specs.Entries.{Entries, KeysAbove, KeysRise, AreBelow, AreFrom, NoKey, IsRun, IsInserted, IsRemoved}
use Rattle.krl_blocks.proofs.Around.{head_none}
use Rattle.krl_blocks.proofs.Edits.{above_none}
use Rattle.krl_blocks.proofs.Readings.{back_rises}
use Rattle.krl_blocks.specs.ReservedMaps.{IsNextKey, with_value, listed, kept, IsReservedMap}
use Rattle.krl_blocks.proofs.Reserved.Finding.{test_is, eq_cases, find_here, find_past, find_none, above_no, find_behind, rise_front, inserted_rises, inserted_here, inserted_other, inserted_length, removed_rises, removed_was, removed_here, removed_other, removed_length}

-- The values

abbrev pub via : {V : Type 0} → (ℕ → Option V) → Option ℕ → Option V
via f None = None
via f (Some p) = f p

with_past : {V : Type 0} (q k : ℕ) (o : Option V) (rest : List (ℕ × V)) → q ≢ k → find nat_cmp q (with_value k o rest) ≡ find nat_cmp q rest
with_past q k None rest ne = refl
with_past q k (Some v) rest ne = find_past q k v rest ne

listed_above : {V : Type 0} (s : Slab V) (q : ℕ) (es : List (ℕ × ℕ)) → KeysAbove q es → KeysAbove q (listed s es)
listed_above s q [] h = tt
listed_above {V = V} s q (e ∷ es) h = by_value (get s e.1) (listed_above s q es h.1)
  where
    by_value : (o : Option V) → KeysAbove q (listed s es) → KeysAbove q (with_value e.0 o (listed s es))
    by_value None k = k
    by_value (Some v) k = (h.0, k)

listed_rises : {V : Type 0} (s : Slab V) (es : List (ℕ × ℕ)) → KeysRise es → KeysRise (listed s es)
listed_rises s [] h = tt
listed_rises {V = V} s (e ∷ es) h = by_value (get s e.1) (listed_rises s es h.1)
  where
    by_value : (o : Option V) → KeysRise (listed s es) → KeysRise (with_value e.0 o (listed s es))
    by_value None k = k
    by_value (Some v) k = (listed_above s e.0 es h.0, k)

both : (a b : Bool) → a ≡ true → T b → T (a && b)
both true b e h = h
both false b e h = absurd (cc)

below_sorted : {V : Type 0} (k : ℕ) (es : List (ℕ × V)) → KeysAbove k es → T (below_all nat_cmp k es)
below_sorted k [] h = tt
below_sorted k (e ∷ es) h = both (is_lt (nat_cmp k e.0)) (below_all nat_cmp k es) (grind (arith, nat_tests, h.0)) (below_sorted k es h.1)

pub rise_sorted : {V : Type 0} (es : List (ℕ × V)) → KeysRise es → T (is_sorted nat_cmp es)
rise_sorted [] h = tt
rise_sorted (e ∷ es) h = both (below_all nat_cmp e.0 es) (is_sorted nat_cmp es) (T_true _ (below_sorted e.0 es h.0)) (rise_sorted es h.1)

listed_find : {V : Type 0} (s : Slab V) (es : List (ℕ × ℕ)) (q : ℕ) → KeysRise es → find nat_cmp q (listed s es) ≡ via (get s) (find nat_cmp q es)
listed_find s [] q h = refl
listed_find {V = V} s (e ∷ es) q h = eq_cases q e.0
    (λ f. subst (λ n. find nat_cmp n (with_value e.0 (get s e.1) (listed s es)) ≡ via (get s) (find nat_cmp n (e ∷ es))) (sym f)
    (here (get s e.1) refl ∙ ap (via (get s)) (sym (find_here e.0 e.1 es))))
    (λ ne. with_past q e.0 (get s e.1) (listed s es) ne ∙ listed_find s es q h.1 ∙ ap (via (get s)) (sym (find_past q e.0 e.1 es ne)))
  where
    here : (o : Option V) → get s e.1 ≡ o → find nat_cmp e.0 (with_value e.0 o (listed s es)) ≡ get s e.1
    here None f = find_none e.0 (listed s es) (above_no e.0 (listed s es) (listed_above s e.0 es h.0)) ∙ sym f
    here (Some v) f = find_here e.0 v (listed s es) ∙ sym f

pub kept_get : {V : Type 0} (s : Slab V) (es : List (ℕ × ℕ)) (q : ℕ) → KeysRise es → map.get (kept s es) q ≡ via (get s) (find nat_cmp q es)
kept_get s es q h = map.get-from_sorted nat_cmp (listed s es) q (rise_sorted (listed s es) (listed_rises s es h)) ∙ listed_find s es q h

-- as many values as keys
abbrev pub IsFull : {V : Type 0} → Slab V → List (ℕ × ℕ) → Type 0
IsFull s es = (k p : ℕ) → find nat_cmp k es ≡ Some p → IsSome (get s p)

full_rest : {V : Type 0} (s : Slab V) (e : ℕ × ℕ) (es : List (ℕ × ℕ)) → KeysAbove e.0 es → IsFull s (e ∷ es) → IsFull s es
full_rest s e es a h k p f = eq_cases k e.0
    (λ g. absurd (let none = find_none e.0 es (above_no e.0 es a) in let bad : Some p ≡ None = sym f ∙ ap (λ n. find nat_cmp n es) g ∙ none in cc))
    (λ ne. h k p (find_past k e.0 e.1 es ne ∙ f))

listed_length : {V : Type 0} (s : Slab V) (es : List (ℕ × ℕ)) → KeysRise es → IsFull s es → length (listed s es) ≡ length es
listed_length s [] r h = refl
listed_length {V = V} s (e ∷ es) r h = by_value (get s e.1) (h e.0 e.1 (find_here e.0 e.1 es)) (listed_length s es r.1 (full_rest s e es r.0 h))
  where
    by_value : (o : Option V) → IsSome o → length (listed s es) ≡ length es → length (with_value e.0 o (listed s es)) ≡ suc (length es)
    by_value None some e = absurd (cc)
    by_value (Some v) some e = ap suc e

pub kept_len : {V : Type 0} (s : Slab V) (es : List (ℕ × ℕ)) → KeysRise es → IsFull s es → length (map.entries (kept s es)) ≡ length es
kept_len s es r h = ap length (map.entries-from_sorted nat_cmp (listed s es) (rise_sorted (listed s es) (listed_rises s es r))) ∙ listed_length s es r h

-- Maps

pub get-put : {V : Type 0} (m : map.FinMap nat_cmp V) (k : ℕ) (v : V) (n : ℕ) → map.get (map.insert m k v) n ≡ cond (nat_eq n k) (Some v) (map.get m n)
get-put m k v n = map.get-insert nat_cmp_total m k v n ∙ ap (λ b. cond b (Some v) (map.get m n)) (test_is n k)

pub get-gone : {V : Type 0} (m : map.FinMap nat_cmp V) (k n : ℕ) → map.get (map.remove m k) n ≡ cond (nat_eq n k) None (map.get m n)
get-gone m k n = map.get-remove nat_cmp_total m k n ∙ ap (λ b. cond b None (map.get m n)) (test_is n k)

-- the maps have the same at each key
pub same : {V : Type 0} (a b : map.FinMap nat_cmp V) → ((n : ℕ) → map.get a n ≡ map.get b n) → a ≡ b
same a b h = map.same_map nat_cmp_total map.nat_cmp-IsAntisymmetric a b h

-- another map with this at the key, and the same elsewhere
pub put_same : {V : Type 0} (a m : map.FinMap nat_cmp V) (k : ℕ) (v : V) → map.get a k ≡ Some v → ((n : ℕ) → n ≢ k → map.get a n ≡ map.get m n) → a ≡ map.insert m k v
put_same a m k v here rest = same a (map.insert m k v) (λ n. eq_cases n k
    (λ f. ap (map.get a) f ∙ here ∙ sym (ap (λ b. cond b (Some v) (map.get m n)) (eq-eqb n k f)) ∙ sym (get-put m k v n))
    (λ ne. rest n ne ∙ sym (ap (λ b. cond b (Some v) (map.get m n)) (ne_eqb n k ne)) ∙ sym (get-put m k v n)))

pub gone_same : {V : Type 0} (a m : map.FinMap nat_cmp V) (k : ℕ) → map.get a k ≡ None → ((n : ℕ) → n ≢ k → map.get a n ≡ map.get m n) → a ≡ map.remove m k
gone_same a m k here rest = same a (map.remove m k) (λ n. eq_cases n k
    (λ f. ap (map.get a) f ∙ here ∙ sym (ap (λ b. cond b None (map.get m n)) (eq-eqb n k f)) ∙ sym (get-gone m k n))
    (λ ne. rest n ne ∙ sym (ap (λ b. cond b None (map.get m n)) (ne_eqb n k ne)) ∙ sym (get-gone m k n)))

-- The reserved map

module _ {V : Type 0} (s : Slab V) (es : Entries ℕ) (room : ℕ) (h : IsReservedMap s es room) where
  pub map_get : (k : ℕ) → map.get (kept s es.list) k ≡ via (get s) (find nat_cmp k es.list)
  map_get k = kept_get s es.list k h.rises

  pub map_len : length (map.entries (kept s es.list)) ≡ length es.list
  map_len = kept_len s es.list h.rises h.full

  pub map_none : (k : ℕ) → map.get (kept s es.list) k ≡ None → find nat_cmp k es.list ≡ None
  map_none k e = by_place (find nat_cmp k es.list) refl
    where
      by_place : (o : Option ℕ) → find nat_cmp k es.list ≡ o → find nat_cmp k es.list ≡ None
      by_place None f = f
      by_place (Some p) f = absurd (let some = h.full k p f in let none = ap (via (get s)) (sym f) ∙ sym (map_get k) ∙ e in let bad = subst IsSome none some in cc)

  -- another value at the place of a key
  module _ (k p : ℕ) (t : Slab V) (v : V) (at : find nat_cmp k es.list ≡ Some p) (up : Updates s t p (Some v)) (len : slab_len t ≡ slab_len s) (cap : t.capacity ≡ s.capacity) where
    pub exchanged_kept : IsReservedMap t es room
    exchanged_kept = record {
      rises = h.rises;
      full = λ j q f. eq_cases q p
          (λ g. subst (λ n. IsSome (get t n)) (sym g) (subst IsSome (sym up.changed) refl))
          (λ ne. subst IsSome (sym (up.others q ne)) (h.full j q f));
      apart = h.apart;
      count = len ∙ h.count;
      keys = h.keys;
      values = omega (arith, cap, h.values);
    }

    pub exchanged_is : kept t es.list ≡ map.insert (kept s es.list) k v
    exchanged_is = put_same (kept t es.list) (kept s es.list) k v
        (kept_get t es.list k h.rises ∙ ap (via (get t)) at ∙ up.changed)
        (λ n ne. kept_get t es.list n h.rises ∙ rest n ne (find nat_cmp n es.list) refl ∙ sym (map_get n))
      where
        rest : (n : ℕ) → n ≢ k → (o : Option ℕ) → find nat_cmp n es.list ≡ o → via (get t) o ≡ via (get s) o
        rest n ne None f = refl
        rest n ne (Some q) f = up.others q (λ g. ne (h.apart n k p (f ∙ ap (λ x. Some x) g) at))

  -- a key more
  module _ (k p : ℕ) (t : Slab V) (v : V) (fs : Entries ℕ) (none : find nat_cmp k es.list ≡ None) (free : get s p ≡ None) (up : Updates s t p (Some v)) (len : slab_len t ≡ slab_len s + 1) (cap : t.capacity ≡ s.capacity) (put : IsInserted es.list fs.list k p) (room_is : fs.room ≡ es.room) where
    no_place : (j : ℕ) → find nat_cmp j es.list ≡ Some p → ⊥
    no_place j f = let some = h.full j p f in let bad = subst IsSome free some in absurd (cc)

    pub more_kept : IsReservedMap t fs room
    more_kept = record {
      rises = inserted_rises es.list fs.list k p none put h.rises;
      full = λ j q f. eq_cases q p
          (λ g. subst (λ n. IsSome (get t n)) (sym g) (subst IsSome (sym up.changed) refl))
          (λ ne. subst IsSome (sym (up.others q ne)) (h.full j q (eq_cases j k
          (λ g. absurd (ne (let both : Some q ≡ Some p = sym f ∙ ap (λ n. find nat_cmp n fs.list) g ∙ inserted_here es.list fs.list k p none put in cc)))
          (λ nj. sym (inserted_other es.list fs.list k p none put j nj) ∙ f))));
      apart = λ i j q f g. eq_cases i k
          (λ a. eq_cases j k (λ b. a ∙ sym b) (λ nb. absurd (no_place j (sym (inserted_other es.list fs.list k p none put j nb) ∙ g ∙ place i q a f))))
          (λ na. eq_cases j k (λ b. absurd (no_place i (sym (inserted_other es.list fs.list k p none put i na) ∙ f ∙ place j q b g)))
          (λ nb. h.apart i j q (sym (inserted_other es.list fs.list k p none put i na) ∙ f) (sym (inserted_other es.list fs.list k p none put j nb) ∙ g)));
      count = let more = inserted_length es.list fs.list k p none put in omega (arith, len, h.count, more);
      keys = omega (arith, room_is, h.keys);
      values = omega (arith, cap, h.values);
    }
      where
        place : (i q : ℕ) → i ≡ k → find nat_cmp i fs.list ≡ Some q → Some q ≡ Some p
        place i q a f = sym f ∙ ap (λ n. find nat_cmp n fs.list) a ∙ inserted_here es.list fs.list k p none put

    pub more_is : kept t fs.list ≡ map.insert (kept s es.list) k v
    more_is = put_same (kept t fs.list) (kept s es.list) k v
        (kept_get t fs.list k more_kept.rises ∙ ap (via (get t)) (inserted_here es.list fs.list k p none put) ∙ up.changed)
        (λ n ne. kept_get t fs.list n more_kept.rises ∙ ap (via (get t)) (inserted_other es.list fs.list k p none put n ne) ∙ rest n (find nat_cmp n es.list) refl ∙ sym (map_get n))
      where
        rest : (n : ℕ) (o : Option ℕ) → find nat_cmp n es.list ≡ o → via (get t) o ≡ via (get s) o
        rest n None f = refl
        rest n (Some q) f = up.others q (λ g. no_place n (f ∙ ap (λ x. Some x) g))

  -- a key less
  module _ (k p : ℕ) (t : Slab V) (fs : Entries ℕ) (up : Updates s t p None) (len : slab_len t + 1 ≡ slab_len s) (cap : t.capacity ≡ s.capacity) (gone : IsRemoved es.list fs.list k p) (room_is : fs.room ≡ es.room) where
    was : find nat_cmp k es.list ≡ Some p
    was = removed_was es.list fs.list k p h.rises gone

    still : (j q : ℕ) → find nat_cmp j fs.list ≡ Some q → (j ≢ k) × (find nat_cmp j es.list ≡ Some q)
    still j q f = eq_cases j k
        (λ g. absurd (let bad : Some q ≡ None = sym f ∙ ap (λ n. find nat_cmp n fs.list) g ∙ removed_here es.list fs.list k p h.rises gone in cc))
        (λ ne. (ne, sym (removed_other es.list fs.list k p h.rises gone j ne) ∙ f))

    elsewhere : (j q : ℕ) → find nat_cmp j fs.list ≡ Some q → q ≢ p
    elsewhere j q f g = let x = still j q f in x.0 (h.apart j k p (x.1 ∙ ap (λ y. Some y) g) was)

    pub less_kept : IsReservedMap t fs room
    less_kept = record {
      rises = removed_rises es.list fs.list k p h.rises gone;
      full = λ j q f. subst IsSome (sym (up.others q (elsewhere j q f))) (h.full j q (still j q f).1);
      apart = λ i j q f g. h.apart i j q (still i q f).1 (still j q g).1;
      count = let fewer = removed_length es.list fs.list k p h.rises gone in omega (arith, len, h.count, fewer);
      keys = omega (arith, room_is, h.keys);
      values = omega (arith, cap, h.values);
    }

    pub less_was : (v : V) → get s p ≡ Some v → map.get (kept s es.list) k ≡ Some v
    less_was v e = map_get k ∙ ap (via (get s)) was ∙ e

    pub less_is : kept t fs.list ≡ map.remove (kept s es.list) k
    less_is = gone_same (kept t fs.list) (kept s es.list) k
        (kept_get t fs.list k less_kept.rises ∙ ap (via (get t)) (removed_here es.list fs.list k p h.rises gone))
        (λ n ne. kept_get t fs.list n less_kept.rises ∙ rest n (find nat_cmp n fs.list) refl ∙ ap (via (get s)) (removed_other es.list fs.list k p h.rises gone n ne) ∙ sym (map_get n))
      where
        rest : (n : ℕ) (o : Option ℕ) → find nat_cmp n fs.list ≡ o → via (get t) o ≡ via (get s) o
        rest n None f = refl
        rest n (Some q) f = up.others q (elsewhere n q f)

-- The least key from a point on

from_no : {V : Type 0} (q p : ℕ) (es : List (ℕ × V)) → AreBelow p es → p ≤ q → NoKey q es
from_no q p [] h le = tt
from_no q p (e ∷ es) h le = ((λ f. let lt : e.0 < p = grind (arith, nat_tests, h.0) in omega (arith, f, lt, le)), from_no q p es h.1 le)

module _ {V : Type 0} (s : Slab V) (es : Entries ℕ) (room : ℕ) (h : IsReservedMap s es room) (from : ℕ) (run : List (ℕ × ℕ)) (r : IsRun es.list from run) where
  pub run_none : None ≡ slice_get run 0 → (n : ℕ) → from ≤ n → map.get (kept s es.list) n ≡ None
  run_none e n le = let empty = head_none run e in
      map_get s es room h n ∙ ap (via (get s)) (ap (find nat_cmp n) (r.whole ∙ (λ i. r.front ++ (empty i ++ r.some empty i)))
      ∙ find_behind n r.front [] (from_no n from r.front r.below le))

  pub run_next : (e : ℕ × ℕ) → Some e ≡ slice_get run 0 → IsNextKey (kept s es.list) from e.0
  run_next e is = by_run run refl is
    where
      by_run : (xs : List (ℕ × ℕ)) → run ≡ xs → Some e ≡ slice_get xs 0 → IsNextKey (kept s es.list) from e.0
      by_run [] f g = absurd (let bad : Some e ≡ None = g in cc)
      by_run (x ∷ xs) f g =
          let same : x ≡ e = cc in
          let whole : es.list ≡ r.front ++ (e ∷ (xs ++ r.rest)) = r.whole ∙ (λ i. r.front ++ (f i ++ r.rest)) ∙ (λ i. r.front ++ (same i ∷ (xs ++ r.rest))) in
          let rises : KeysRise (r.front ++ (e ∷ (xs ++ r.rest))) = subst KeysRise whole h.rises in
          let at_least : AreFrom from (e ∷ (xs ++ r.rest)) = subst (AreFrom from) ((λ i. f i ++ r.rest) ∙ (λ i. same i ∷ (xs ++ r.rest))) r.from in
          let place : find nat_cmp e.0 es.list ≡ Some e.1 = ap (find nat_cmp e.0) whole ∙ find_behind e.0 r.front (e ∷ (xs ++ r.rest)) (rise_front r.front e.0 e.1 (xs ++ r.rest) rises) ∙ find_here e.0 e.1 (xs ++ r.rest) in
          record {
            there = subst IsSome (sym (map_get s es room h e.0 ∙ ap (via (get s)) place)) (h.full e.0 e.1 place);
            above = let le : from ≤ e.0 = grind (arith, nat_tests, at_least.0) in le;
            least = λ n le lt. map_get s es room h n ∙ ap (via (get s)) (ap (find nat_cmp n) whole ∙ find_behind n r.front (e ∷ (xs ++ r.rest)) (from_no n from r.front r.below le)
                ∙ find_past n e.0 e.1 (xs ++ r.rest) (λ g. omega (arith, g, lt)) ∙ find_none n (xs ++ r.rest) (above_none n e.0 (xs ++ r.rest) (omega (arith, lt)) (back_rises r.front (e ∷ (xs ++ r.rest)) rises).0));
          }
