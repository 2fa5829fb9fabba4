-- How many slots a grant takes at most.
use Rattle.krl_server.proofs.Names.{◌≡◌, ℕ, zero, suc, ◌-◌, ◌≤◌, ◌<◌, Bool, true, false, ◌&&◌, List, [], ◌∷◌, ◌⊎◌, inl, inr, length, refl, sym, ap, subst, ◌∙◌, arith, ltb-true, and_parts, nat_tests, nat_le, nat_lt}
use Rattle.krl_server.proofs.Names.{if◌then◌else◌, filter, END, Value, Waiter, Index, first_or_end, slot_of, Rows, raised, Server}
use Rattle.std.proofs.lemmas.Bool.{leb-true}
use Rattle.std.specs.Prelude.{min}
use Rattle.std.specs.FinMap as fin
use Rattle.krl_durable.specs.Writes.{IsReach}
use Rattle.krl_table.specs.Grants.{is_open_to, goes_on, reached_after, reached_slots}
use Rattle.krl_server.specs.GrantRooms.{slots_asked, most_slots}
use Rattle.krl_server.proofs.Grants.{on_to, taken_few, first_rows, reached_is}
use Rattle.krl_server.proofs.Tests.{if_case}

-- Keys from a point on

-- how many keys lie at or above this point
abbrev from : ℕ → List (ℕ × Value) → ℕ
from p es = length (filter (λ e. nat_le p e.0) es)

fewer : (es : List (ℕ × Value)) (p q : ℕ) → p ≤ q → from q es ≤ from p es
fewer [] p q le = omega arith
fewer (e ∷ es) p q le = by_tests (nat_le p e.0) refl (nat_le q e.0) refl (fewer es p q le)
  where
    by_tests : (a : Bool) → nat_le p e.0 ≡ a → (b : Bool) → nat_le q e.0 ≡ b → from q es ≤ from p es → length (if b then e ∷ filter (λ e. nat_le q e.0) es else filter (λ e. nat_le q e.0) es) ≤ length (if a then e ∷ filter (λ e. nat_le p e.0) es else filter (λ e. nat_le p e.0) es)
    by_tests true f true g ih = omega (arith, ih)
    by_tests true f false g ih = omega (arith, ih)
    by_tests false f true g ih = grind (arith, nat_tests)
    by_tests false f false g ih = ih

few : (es : List (ℕ × Value)) (p : ℕ) → from p es ≤ length es
few [] p = omega arith
few (e ∷ es) p = by_test (nat_le p e.0) (few es p)
  where
    by_test : (a : Bool) → from p es ≤ length es → length (if a then e ∷ filter (λ e. nat_le p e.0) es else filter (λ e. nat_le p e.0) es) ≤ suc (length es)
    by_test true ih = omega (arith, ih)
    by_test false ih = omega (arith, ih)

-- a key below the point counts for nothing
passed : (e : ℕ × Value) (es : List (ℕ × Value)) (p : ℕ) → e.0 < p → from p (e ∷ es) ≤ from p es
passed e es p lt = by_test (nat_le p e.0) refl
  where
    by_test : (a : Bool) → nat_le p e.0 ≡ a → length (if a then e ∷ filter (λ e. nat_le p e.0) es else filter (λ e. nat_le p e.0) es) ≤ from p es
    by_test true f = grind (arith, nat_tests)
    by_test false f = omega arith

-- the slot of a point is END, or a key at or above it, above which there are fewer keys
next : (es : List (ℕ × Value)) (p : ℕ) → (first_or_end (filter (λ e. nat_le p e.0) es) ≡ END) ⊎ ((p ≤ first_or_end (filter (λ e. nat_le p e.0) es)) × (suc (from (suc (first_or_end (filter (λ e. nat_le p e.0) es))) es) ≤ from p es))
next [] p = inl refl
next (e ∷ es) p = by_test (nat_le p e.0) refl (next es p)
  where
    by_test : (a : Bool) → nat_le p e.0 ≡ a → (first_or_end (filter (λ e. nat_le p e.0) es) ≡ END) ⊎ ((p ≤ first_or_end (filter (λ e. nat_le p e.0) es)) × (suc (from (suc (first_or_end (filter (λ e. nat_le p e.0) es))) es) ≤ from p es)) → (first_or_end (if a then e ∷ filter (λ e. nat_le p e.0) es else filter (λ e. nat_le p e.0) es) ≡ END) ⊎ ((p ≤ first_or_end (if a then e ∷ filter (λ e. nat_le p e.0) es else filter (λ e. nat_le p e.0) es)) × (suc (from (suc (first_or_end (if a then e ∷ filter (λ e. nat_le p e.0) es else filter (λ e. nat_le p e.0) es))) (e ∷ es)) ≤ length (if a then e ∷ filter (λ e. nat_le p e.0) es else filter (λ e. nat_le p e.0) es)))
    by_test true f ih =
        let le = leb-true p e.0 f in
        let here = passed e es (suc e.0) (omega arith) in
        let rest = fewer es p (suc e.0) (omega (arith, le)) in
        inr (le, omega (arith, here, rest))
    by_test false f (inl end) = inl end
    by_test false f (inr h) =
        let le = h.0 in
        let less = h.1 in
        let lt : e.0 < p = grind (arith, nat_tests) in
        let here = passed e es (suc (first_or_end (filter (λ e. nat_le p e.0) es))) (omega (arith, le, lt)) in
        inr (le, omega (arith, here, less))

-- The slots that are taken after the first

module _ (m : Index) (u : Waiter) where
  below : (rows : Rows) (n : ℕ) → goes_on m rows n u ≡ true → (n < END) × (suc n < u.hi)
  below rows n e =
      let x = and_parts (nat_lt n END) (nat_lt (suc n) u.hi && is_open_to rows (slot_of m (suc n)) u) e in
      let y = and_parts (nat_lt (suc n) u.hi) (is_open_to rows (slot_of m (suc n)) u) x.1 in
      (ltb-true n END x.0, ltb-true (suc n) u.hi y.0)

  none_at_end : (k n : ℕ) (rows : Rows) → n ≡ END → length (reached_after m rows n u k) ≤ 0
  none_at_end zero n rows end = omega arith
  none_at_end (suc k) n rows end = if_case (λ ns. length ns ≤ 0) (goes_on m rows n u) (slot_of m (suc n) ∷ reached_after m rows (slot_of m (suc n)) u k) []
      (λ e. let lt = (below rows n e).0 in absurd (omega (arith, lt, end)))
      (λ e. omega arith)

  -- one at each point that is asked for
  asked : (k n : ℕ) (rows : Rows) → length (reached_after m rows n u k) ≤ u.hi - suc n
  asked zero n rows = omega arith
  asked (suc k) n rows = if_case (λ ns. length ns ≤ u.hi - suc n) (goes_on m rows n u) (slot_of m (suc n) ∷ reached_after m rows (slot_of m (suc n)) u k) []
      (λ e.
      let lt = (on_to m u rows n e).0 in
      let hi = (below rows n e).1 in
      let ih = asked k (slot_of m (suc n)) rows in
      omega (arith, lt, hi, ih))
      (λ e. omega arith)

  -- one at each key, and END
  there : (k n : ℕ) (rows : Rows) → length (reached_after m rows n u k) ≤ suc (from (suc n) (fin.entries m))
  there zero n rows = omega arith
  there (suc k) n rows = if_case (λ ns. length ns ≤ suc (from (suc n) (fin.entries m))) (goes_on m rows n u) (slot_of m (suc n) ∷ reached_after m rows (slot_of m (suc n)) u k) []
      (λ e. by_next (next (fin.entries m) (suc n)) (there k (slot_of m (suc n)) rows))
      (λ e. omega arith)
    where
      by_next : (slot_of m (suc n) ≡ END) ⊎ ((suc n ≤ slot_of m (suc n)) × (suc (from (suc (slot_of m (suc n))) (fin.entries m)) ≤ from (suc n) (fin.entries m))) → length (reached_after m rows (slot_of m (suc n)) u k) ≤ suc (from (suc (slot_of m (suc n))) (fin.entries m)) → suc (length (reached_after m rows (slot_of m (suc n)) u k)) ≤ suc (from (suc n) (fin.entries m))
      by_next (inl end) ih = let none = none_at_end k (slot_of m (suc n)) rows end in omega (arith, none)
      by_next (inr h) ih = let less = h.1 in omega (arith, less, ih)

  within : (r p : ℕ) (rows : Rows) → 1 ≤ r → suc (length (reached_after m rows (slot_of m p) u (r - 1))) ≤ min (min r (suc (u.hi - suc p))) (suc (length (fin.entries m)))
  within r p rows some = by_next (next (fin.entries m) p)
    where
      n : ℕ
      n = slot_of m p

      least : (k a b c : ℕ) → k ≤ a → k ≤ b → k ≤ c → k ≤ min (min a b) c
      least k a b c x y z = omega (arith, x, y, z)

      by_next : (slot_of m p ≡ END) ⊎ ((p ≤ slot_of m p) × (suc (from (suc (slot_of m p)) (fin.entries m)) ≤ from p (fin.entries m))) → suc (length (reached_after m rows (slot_of m p) u (r - 1))) ≤ min (min r (suc (u.hi - suc p))) (suc (length (fin.entries m)))
      by_next (inl end) =
          let none = none_at_end (r - 1) n rows end in
          least (suc (length (reached_after m rows n u (r - 1)))) r (suc (u.hi - suc p)) (suc (length (fin.entries m))) (omega (arith, none, some)) (omega (arith, none)) (omega (arith, none))
      by_next (inr h) =
          let le = h.0 in
          let less = h.1 in
          let reach = taken_few m u (r - 1) n rows in
          let keys = there (r - 1) n rows in
          let all = few (fin.entries m) p in
          let points = asked (r - 1) n rows in
          least (suc (length (reached_after m rows n u (r - 1)))) r (suc (u.hi - suc p)) (suc (length (fin.entries m))) (omega (arith, reach, some)) (omega (arith, points, le)) (omega (arith, keys, less, all))

-- a grant to the first waiter of the slot of its point
pub reached_most : (s : Server) (u : Waiter) (slots : List ℕ) (rest : List Waiter) → (s.rows (slot_of s.durable.index u.point)).queue ≡ u ∷ rest → IsReach s.durable.reach → slots ≡ reached_slots s.durable.reach s.durable.index s.rows (slot_of s.durable.index u.point) → length slots ≤ most_slots s.durable u.point u.hi
reached_most s u slots rest queue far is =
    let m = s.durable.index in
    let n = slot_of m u.point in
    subst (λ ns. length ns ≤ most_slots s.durable u.point u.hi) (sym (is ∙ reached_is s.durable.reach m s.rows n u rest queue))
    (within m u s.durable.reach u.point (first_rows s.durable.reach m s.rows n u rest queue) far.0)

-- a grant to the first waiter of the slot n, which is that of its point
pub reached_asked : (s : Server) (n : ℕ) (u : Waiter) (slots : List ℕ) (rest : List Waiter) → slot_of s.durable.index u.point ≡ n → (s.rows n).queue ≡ u ∷ rest → IsReach s.durable.reach → slots ≡ reached_slots s.durable.reach s.durable.index s.rows n → length slots ≤ slots_asked s.durable.reach u.point u.hi
reached_asked s n u slots rest placed queue far is =
    let most = reached_most s u slots rest (ap (λ k. (s.rows k).queue) placed ∙ queue) far (is ∙ ap (reached_slots s.durable.reach s.durable.index s.rows) (sym placed)) in
    omega (arith, most)
