-- What the parts' numbers state, and that they state what the tables of the modes state.
use Rattle.std.proofs.Common.{◌≡◌, ◌*◌, ◌≤◌, min, Some, ◌↔◌, arith}
use Rattle.krl_machine.proofs.Names.{IsTrue, and_parts, and_from, RangePart, KeyPart, Mode, range_of, key_of, at_or_above, mode_of, at_most, compatible, reads, inserts, rank, RangeAtMost, KeyAtMost}
use Rattle.krl_machine.proofs.Names.{RangesAgree, KeysAgree, IsMode, off_slot}
use Rattle.krl_modes.specs.declared.part.RangePart.TheVariants as range
use Rattle.krl_modes.specs.declared.part.KeyPart.TheVariants as key
use Rattle.krl_modes.specs.Parts.{range_at_most, key_at_most, ranges_compatible, keys_compatible, range_join}

pub rank-off_slot : (a : RangePart) → rank (off_slot a) ≡ 3 * min (reads a) (inserts a)
rank-off_slot a = grind arith

pub is_X : (a : RangePart) → 1 ≤ reads a → 1 ≤ inserts a → a ≡ range.X
is_X a r i = grind arith

pub is_N : (a : RangePart) → reads a ≤ 0 → inserts a ≤ 0 → a ≡ range.N
is_N a r i = grind arith

pub is_KN : (k : KeyPart) → rank k ≤ 0 → k ≡ key.N
is_KN k h = grind arith

pub join_left : (a b : RangePart) → RangeAtMost a (range_join a b)
join_left a b = grind arith

pub join_right : (a b : RangePart) → RangeAtMost b (range_join a b)
join_right a b = grind arith

pub join_least : (a b c : RangePart) → RangeAtMost a c → RangeAtMost b c → RangeAtMost (range_join a b) c
join_least a b c x y = grind arith

-- The numbers and the tables

pub ranges_by_table : (a b : RangePart) → IsTrue (range_at_most a b) ↔ RangeAtMost a b
ranges_by_table a b = grind arith

pub keys_by_table : (a b : KeyPart) → IsTrue (key_at_most a b) ↔ KeyAtMost a b
keys_by_table a b = grind arith

pub ranges_agree_by_table : (a b : RangePart) → IsTrue (ranges_compatible a b) ↔ RangesAgree a b
ranges_agree_by_table a b = grind arith

pub keys_agree_by_table : (a b : KeyPart) → IsTrue (keys_compatible a b) ↔ KeysAgree a b
keys_agree_by_table a b = grind arith

-- the parts of each of the 13 modes are such a pair
pub mode_parts : (m : Mode) → IsMode (range_of m) (key_of m)
mode_parts m = grind arith

-- and each such pair is the parts of a mode
pub has_mode : (a : RangePart) (k : KeyPart) → IsMode a k → mode_of a k ≡ Some (at_or_above a k)
has_mode a k h = grind arith

pub range_of-has_mode : (a : RangePart) (k : KeyPart) → IsMode a k → range_of (at_or_above a k) ≡ a
range_of-has_mode a k h = grind arith

pub key_of-has_mode : (a : RangePart) (k : KeyPart) → IsMode a k → key_of (at_or_above a k) ≡ k
key_of-has_mode a k h = grind arith

-- a pair that is the parts of a mode is such a pair
pub of_mode : (a : RangePart) (k : KeyPart) (m : Mode) → mode_of a k ≡ Some m → IsMode a k
of_mode a k m h = grind arith

pub modes_by_table : (m n : Mode) → IsTrue (at_most m n) ↔ (RangeAtMost (range_of m) (range_of n) × KeyAtMost (key_of m) (key_of n))
modes_by_table m n = (
  λ t. let both = and_parts (range_at_most (range_of m) (range_of n)) (key_at_most (key_of m) (key_of n)) t in
      ((ranges_by_table (range_of m) (range_of n)).0 both.0, (keys_by_table (key_of m) (key_of n)).0 both.1),
  λ h. and_from (range_at_most (range_of m) (range_of n)) (key_at_most (key_of m) (key_of n)) ((ranges_by_table (range_of m) (range_of n)).1 h.0) ((keys_by_table (key_of m) (key_of n)).1 h.1),
)

pub modes_agree_by_table : (m n : Mode) → IsTrue (compatible m n) ↔ (RangesAgree (range_of m) (range_of n) × KeysAgree (key_of m) (key_of n))
modes_agree_by_table m n = (
  λ t. let both = and_parts (ranges_compatible (range_of m) (range_of n)) (keys_compatible (key_of m) (key_of n)) t in
      ((ranges_agree_by_table (range_of m) (range_of n)).0 both.0, (keys_agree_by_table (key_of m) (key_of n)).0 both.1),
  λ h. and_from (ranges_compatible (range_of m) (range_of n)) (keys_compatible (key_of m) (key_of n)) ((ranges_agree_by_table (range_of m) (range_of n)).1 h.0) ((keys_agree_by_table (key_of m) (key_of n)).1 h.1),
)
