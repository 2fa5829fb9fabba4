-- All indexes together.
use Rattle.std.proofs.Common.{◌≡◌, ℕ, zero, suc, ◌<◌, ◌≤◌, ◌∙◌, Bool, true, false, cond, List, [], ◌∷◌, ◌++◌, None, Some, refl, sym, ap, subst, arith}
use Rattle.std.specs.Prelude.{nat_lt, nat_le, ◌&&◌, Option}
use Rattle.std.specs.Ordering.{nat_cmp, eq_by_cmp}
use Rattle.std.specs.Cmp.{nat_cmp_total}
use Rattle.std.specs.FinMap as map
use Rattle.std.specs.FinMap.Entries.{find}
use Rattle.std.proofs.Math.Logic.{⊎_elim}
use Rattle.std.proofs.lemmas.Bool.{cases_lt, and_from, and_parts, leb-true, ltb-true, le-leb, lt-ltb}
use Rattle.krl_messages.specs.Values.{Value}
use Rattle.krl_modes.specs.Spans.{IsPointOf}
use Rattle.krl_durable.specs.Index.{Index, range}
use Rattle.krl_world.specs.States.{index_of}
use Rattle.krl_shards.specs.Partition.{first_of, end_of, span_of, last_shard, IsPartition, IsShardOf}
use Rattle.krl_shards.proofs.Bounds.{one_shard}
use Rattle.krl_world_laws.specs.Readers.{Rows}
use Rattle.krl_world_laws.specs.Shards.Scans.{Moment, KeepToShards, IsUnion, TogetherIsUnion, SomeTogether}
use Rattle.krl_world_laws.proofs.Shards.Ranges.{find_range}

-- The union

apart : (o : Option Value) (v : Value) → o ≡ None → o ≡ Some v → ⊥
apart o v a b = absurd (cc)

same : (bounds : List ℕ) (w : Moment) (m : Index) (i k : ℕ) (a b : Option Value) → IsPartition bounds → KeepToShards bounds w → IsUnion bounds w m → i ≤ last_shard bounds → IsPointOf (span_of bounds i) k → map.get m k ≡ a → map.get (index_of (w i)) k ≡ b → a ≡ b
same bounds w m i k a (Some v) h keep union le at e f = sym e ∙ (union k v).1 (i, le, f)
same bounds w m i k None None h keep union le at e f = refl
same bounds w m i k (Some v) None h keep union le at e f =
    let there = (union k v).0 e in
    let j = there.0 in
    let is : j ≡ i = one_shard bounds k i h (record { there = le; lies = at }) j (record { there = there.1; lies = keep j k v there.1 there.2 }) in
    absurd (apart (map.get (index_of (w i)) k) v f (subst (λ n. map.get (index_of (w n)) k ≡ Some v) is there.2))

pub together_is_union : TogetherIsUnion
together_is_union bounds w m h keep union i k le at = same bounds w m i k (map.get m k) (map.get (index_of (w i)) k) h keep union le at refl refl

-- There is one

-- what the first n shards have of their own
all_rows : List ℕ → Moment → ℕ → Rows
all_rows bounds w zero = []
all_rows bounds w (suc i) = all_rows bounds w i ++ range (index_of (w i)) (first_of bounds i) (end_of bounds i)

find_left : (k : ℕ) (xs ys : Rows) → find nat_cmp k ys ≡ None → find nat_cmp k (xs ++ ys) ≡ find nat_cmp k xs
find_left k [] ys h = h
find_left k (x ∷ xs) ys h = ap (cond (eq_by_cmp nat_cmp k x.0) (Some x.1)) (find_left k xs ys h)

passed : (t : Bool) (v : Value) (a b c : Option Value) → cond t (Some v) a ≡ None → (a ≡ None → b ≡ c) → cond t (Some v) b ≡ c
passed true v a b c e h = absurd (apart (Some v) v e refl)
passed false v a b c e h = h e

find_right : (k : ℕ) (xs ys : Rows) → find nat_cmp k xs ≡ None → find nat_cmp k (xs ++ ys) ≡ find nat_cmp k ys
find_right k [] ys h = refl
find_right k (x ∷ xs) ys h = passed (eq_by_cmp nat_cmp k x.0) x.1 (find nat_cmp k xs) (find nat_cmp k (xs ++ ys)) (find nat_cmp k ys) h (find_right k xs ys)

-- what a shard has at a point that is not its own
none_there : (bounds : List ℕ) (w : Moment) (i k : ℕ) (t : Bool) → (nat_le (first_of bounds i) k && nat_lt k (end_of bounds i)) ≡ t → (IsPointOf (span_of bounds i) k → ⊥) → find nat_cmp k (range (index_of (w i)) (first_of bounds i) (end_of bounds i)) ≡ None
none_there bounds w i k true e h = let both = and_parts (nat_le (first_of bounds i) k) (nat_lt k (end_of bounds i)) e in absurd (h (leb-true _ _ both.0, ltb-true _ _ both.1))
none_there bounds w i k false e h = find_range (index_of (w i)) (first_of bounds i) (end_of bounds i) k ∙ ap (λ t. cond t (map.get (index_of (w i)) k) None) e

-- and at one that is
some_there : (bounds : List ℕ) (w : Moment) (i k : ℕ) → IsPointOf (span_of bounds i) k → find nat_cmp k (range (index_of (w i)) (first_of bounds i) (end_of bounds i)) ≡ map.get (index_of (w i)) k
some_there bounds w i k at = find_range (index_of (w i)) (first_of bounds i) (end_of bounds i) k ∙ ap (λ t. cond t (map.get (index_of (w i)) k) None) (and_from _ _ (le-leb _ _ at.0) (lt-ltb _ _ at.1))

none_of : (bounds : List ℕ) (w : Moment) (n k : ℕ) → ((i : ℕ) → i < n → IsPointOf (span_of bounds i) k → ⊥) → find nat_cmp k (all_rows bounds w n) ≡ None
unfolding all_rows
none_of bounds w zero k h = refl
none_of bounds w (suc n) k h = find_left k (all_rows bounds w n) _ (none_there bounds w n k _ refl (h n (omega arith))) ∙ none_of bounds w n k (λ i lt. h i (omega arith))

one_of : (bounds : List ℕ) (w : Moment) (n i k : ℕ) → IsPartition bounds → i < n → n ≤ suc (last_shard bounds) → IsPointOf (span_of bounds i) k → find nat_cmp k (all_rows bounds w n) ≡ map.get (index_of (w i)) k
unfolding all_rows
one_of bounds w zero i k h lt le at = absurd (omega arith)
one_of bounds w (suc n) i k h lt le at =
    let own : IsShardOf bounds k i = record { there = omega arith; lies = at } in
    let only : (j : ℕ) → j ≤ last_shard bounds → IsPointOf (span_of bounds j) k → j ≡ i = λ j there lies. one_shard bounds k i h own j (record { there = there; lies = lies }) in
    ⊎_elim
    (λ (before : i < n). find_left k (all_rows bounds w n) _ (none_there bounds w n k _ refl (λ lies. let is = only n (omega arith) lies in omega arith)) ∙ one_of bounds w n i k h before (omega arith) at)
    (λ (last : n ≤ i). let is : n ≡ i = omega arith in
    find_right k (all_rows bounds w n) _ (none_of bounds w n k (λ j less lies. let other = only j (omega arith) lies in omega arith))
    ∙ subst (λ x. find nat_cmp k (range (index_of (w x)) (first_of bounds x) (end_of bounds x)) ≡ map.get (index_of (w i)) k) (sym is) (some_there bounds w i k at))
    (cases_lt i n)

pub some_together : SomeTogether
some_together bounds w h =
    let n = suc (last_shard bounds) in
    (map.from_entries (all_rows bounds w n), λ i k le at. map.get-from_entries nat_cmp_total (all_rows bounds w n) k ∙ one_of bounds w n i k h (omega arith) (omega arith) at)
