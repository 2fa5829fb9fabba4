-- A cache kept in two ordered maps: range parts by the points where they begin, entries by their
-- points.
use Rattle.std.specs.Prelude.{ℕ, zero, suc, List, Option}
use Rattle.std.specs.Option.{unwrap_or}
use Rattle.std.specs.Ordering.{nat_cmp}
use Rattle.std.specs.Map.{lookup}
use Rattle.std.specs.BTreeMap.{is_at}
use Rattle.krl_modes.specs.declared.part.RangePart.{RangePart}
use Rattle.krl_modes.specs.declared.part.RangePart.TheVariants as range
use Rattle.krl_cache.specs.declared.entry.Entry.{Entry}
use Rattle.krl_cache.specs.Beliefs.{Belief}
use Rattle.krl_cache.specs.Lists.{belief_by}

-- the value at the key
abbrev pub at : {V : Type 0} → List (ℕ × V) → ℕ → Option V
at es q = lookup (is_at (nat_cmp q)) es

-- the part at a point: the one that begins there, otherwise that of the point before
unfoldable pub part_at : (ℕ → Option RangePart) → ℕ → RangePart
part_at f zero = unwrap_or (f 0) range.N
part_at f (suc p) = unwrap_or (f (suc p)) (part_at f p)

-- the two maps, by their entries
pub record Maps : Type 0 where
  pub starts : List (ℕ × RangePart)
  pub entries : List (ℕ × Entry)

-- the belief that they stand for
abbrev pub maps_believe : Maps → Belief
maps_believe x = belief_by (part_at (at x.starts)) (at x.entries)
