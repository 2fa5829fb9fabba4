-- The parts as small numbers: what the tables state is then linear arithmetic, which `omega` proves.
use Rattle.std.proofs.Common.{◌≡◌, ◌+◌, ◌≤◌, min, max, ◌↔◌, arith}
use Rattle.std.specs.Prelude.{IsTrue}
use Rattle.krl_modes.specs.declared.part.RangePart.{RangePart}
use Rattle.krl_modes.specs.declared.part.KeyPart.{KeyPart}
use Rattle.krl_modes.specs.declared.mode.Mode.{Mode}
use Rattle.krl_modes.specs.Parts.{range_at_most, key_at_most, ranges_compatible, keys_compatible, range_join, range_meet, key_join, key_meet}
use Rattle.krl_modes.specs.Modes.{range_of, key_of}
use Rattle.krl_modes.specs.Weights.{reads, inserts, rank}

pub reads_bound : (a : RangePart) → reads a ≤ 1
reads_bound a = grind arith

pub inserts_bound : (a : RangePart) → inserts a ≤ 1
inserts_bound a = grind arith

pub rank_bound : (k : KeyPart) → rank k ≤ 3
rank_bound k = grind arith

-- each table by the numbers

pub range_at_most_by_weights : (a b : RangePart) → IsTrue (range_at_most a b) ↔ ((reads a ≤ reads b) × (inserts a ≤ inserts b))
range_at_most_by_weights a b = grind arith

pub key_at_most_by_weights : (a b : KeyPart) → IsTrue (key_at_most a b) ↔ (rank a ≤ rank b)
key_at_most_by_weights a b = grind arith

pub ranges_compatible_by_weights : (a b : RangePart) → IsTrue (ranges_compatible a b) ↔ ((reads a + inserts b ≤ 1) × (inserts a + reads b ≤ 1))
ranges_compatible_by_weights a b = grind arith

pub keys_compatible_by_weights : (a b : KeyPart) → IsTrue (keys_compatible a b) ↔ (rank a + rank b ≤ 3)
keys_compatible_by_weights a b = grind arith

pub reads-range_join : (a b : RangePart) → reads (range_join a b) ≡ max (reads a) (reads b)
reads-range_join a b = grind arith

pub inserts-range_join : (a b : RangePart) → inserts (range_join a b) ≡ max (inserts a) (inserts b)
inserts-range_join a b = grind arith

pub rank-key_join : (a b : KeyPart) → rank (key_join a b) ≡ max (rank a) (rank b)
rank-key_join a b = grind arith

pub reads-range_meet : (a b : RangePart) → reads (range_meet a b) ≡ min (reads a) (reads b)
reads-range_meet a b = grind arith

pub inserts-range_meet : (a b : RangePart) → inserts (range_meet a b) ≡ min (inserts a) (inserts b)
inserts-range_meet a b = grind arith

pub rank-key_meet : (a b : KeyPart) → rank (key_meet a b) ≡ min (rank a) (rank b)
rank-key_meet a b = grind arith

-- a part is known by its numbers

pub same_range : (a b : RangePart) → reads a ≡ reads b → inserts a ≡ inserts b → a ≡ b
same_range a b r i = grind arith

pub same_key : (a b : KeyPart) → rank a ≡ rank b → a ≡ b
same_key a b e = grind arith

-- which pairs are modes: not S and N, X and N, S and X
pub mode_by_weights : (m : Mode) → (reads (range_of m) ≤ rank (key_of m)) × (reads (range_of m) + rank (key_of m) ≤ inserts (range_of m) + 3)
mode_by_weights m = grind arith
