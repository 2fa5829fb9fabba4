-- The index, and the slots of its keys.
use Rattle.std.specs.Prelude.{ℕ, suc, ◌&&◌, ◌||◌, Bool, nat_eq, nat_lt, nat_le, List, [], ◌∷◌, ◌++◌, is_some}
use Rattle.std.specs.List.{list_any, filter}
use Rattle.std.specs.Ordering.{nat_cmp}
use Rattle.std.specs.FinMap as map
use Rattle.krl_modes.specs.declared.point.TheConstants.{END}
use Rattle.krl_messages.specs.Values.{Value}
use Rattle.krl_modes.specs.Spans.{Bounds}

-- a finite map from keys to values
abbrev pub Index : Type 0
Index = map.FinMap nat_cmp Value

-- the pairs of the index whose keys lie from lo on below hi, in key order
abbrev pub range : Index → ℕ → ℕ → List (ℕ × Value)
range m lo hi = filter (λ e. nat_le lo e.0 && nat_lt e.0 hi) (map.entries m)

-- the first key, or END
abbrev pub first_or_end : List (ℕ × Value) → ℕ
first_or_end [] = END
first_or_end (e ∷ es) = e.0

-- the point after the last key, or this one if there is no key
abbrev pub after_keys : ℕ → List (ℕ × Value) → ℕ
after_keys low [] = low
after_keys low (e ∷ es) = after_keys (suc e.0) es

-- the slot of a point: the least key at or above it, or END
abbrev pub slot_of : Index → ℕ → ℕ
slot_of m p = first_or_end (filter (λ e. nat_le p e.0) (map.entries m))

-- the first point of a slot's span: the one after the key before it, or 0
abbrev pub low_of : Index → ℕ → ℕ
low_of m n = after_keys 0 (filter (λ e. nat_lt e.0 n) (map.entries m))

-- the span of a slot: the points after the key before it, up to the slot itself
abbrev pub span_of : Index → ℕ → Bounds
span_of m n = record { lo = low_of m n; hi = suc n }

-- the slots, in order: the keys, and END
abbrev pub slots : Index → List ℕ
slots m = map.keys m ++ END ∷ []

-- the point is a key, or END
abbrev pub is_slot : Index → ℕ → Bool
is_slot m n = nat_eq n END || is_some (map.get m n)

-- some entry has this key
abbrev pub has_key : {V : Type 0} → List (ℕ × V) → ℕ → Bool
has_key entries k = list_any (λ e. nat_eq e.0 k) entries
