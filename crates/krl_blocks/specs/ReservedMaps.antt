-- Values by key, and how they are kept: the keys have places, and the places have values.
use Rattle.std.specs.Prelude.{◌≡◌, ◌≤◌, ◌<◌, ℕ, List, [], ◌∷◌, length, Option, Some, None, IsSome, refl}
use Rattle.std.specs.Ordering.{nat_cmp}
use Rattle.std.specs.Coded.{Coded, code_by, coded×, coded_ℕ}
use Rattle.std.specs.FinMap as map
use Rattle.std.specs.FinMap.Entries.{find}
use Rattle.slab.specs.Slab.{Slab, get, slab_len}
use Rattle.krl_blocks.specs.Entries.{Entries, KeysRise}

-- the values by key, and how many there may be
pub record MapWithRoom (V : Type 0) : Type 0 where
  pub map : map.FinMap nat_cmp V
  pub room : ℕ

abbrev pub map_with_room_code : {V : Type 0} → Coded V → Coded (MapWithRoom V)
map_with_room_code {V} code =
    code_by (map.FinMap nat_cmp V × ℕ) (coded× (map.code coded_ℕ code) coded_ℕ)
    (λ s. (s.map, s.room)) (λ p. record { map = p.0; room = p.1 }) (λ _. refl)

-- key is the least one at or above the point
pub record IsNextKey {V : Type 0} (m : map.FinMap nat_cmp V) (from key : ℕ) : Type 0 where
  pub there : IsSome (map.get m key)
  pub above : from ≤ key
  pub least : (n : ℕ) → from ≤ n → n < key → map.get m n ≡ None

-- the value at a key's place, before the others
abbrev pub with_value : {V : Type 0} → ℕ → Option V → List (ℕ × V) → List (ℕ × V)
with_value k None rest = rest
with_value k (Some v) rest = (k, v) ∷ rest

-- the values at these places, by their keys
abbrev pub listed : {V : Type 0} → Slab V → List (ℕ × ℕ) → List (ℕ × V)
listed s [] = []
listed s (e ∷ es) = with_value e.0 (get s e.1) (listed s es)

abbrev pub kept : {V : Type 0} → Slab V → List (ℕ × ℕ) → map.FinMap nat_cmp V
kept s es = map.from_sorted (listed s es)

-- each key has a place of its own, where a value lies; no other place has one; and there is room for
-- so many of both
pub record IsReservedMap {V : Type 0} (s : Slab V) (es : Entries ℕ) (room : ℕ) : Type 0 where
  pub rises : KeysRise es.list
  pub full : (k p : ℕ) → find nat_cmp k es.list ≡ Some p → IsSome (get s p)
  pub apart : (j k p : ℕ) → find nat_cmp j es.list ≡ Some p → find nat_cmp k es.list ≡ Some p → j ≡ k
  pub count : slab_len s ≡ length es.list
  pub keys : room ≤ es.room
  pub values : room ≤ s.capacity
