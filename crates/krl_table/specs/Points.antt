-- What the table gives a client at each point: a range part and a key part.
use Rattle.std.specs.Prelude.{ℕ, nat_lt, if◌then◌else◌}
use Rattle.krl_modes.specs.declared.point.TheConstants.{END}
use Rattle.krl_modes.specs.declared.part.RangePart.{RangePart}
use Rattle.krl_modes.specs.declared.part.RangePart.TheVariants as range
use Rattle.krl_modes.specs.declared.part.KeyPart.{KeyPart}
use Rattle.krl_modes.specs.declared.part.KeyPart.TheVariants as key
use Rattle.krl_modes.specs.Modes.{range_of, key_of}
use Rattle.krl_durable.specs.Index.{Index, slot_of, is_slot}
use Rattle.krl_table.specs.Rows.{Rows, mode_at}

-- the key part at a point that is no slot, next to this range part: X with X, otherwise N
abbrev pub key_off_slot : RangePart → KeyPart
key_off_slot range.N = key.N
key_off_slot range.S = key.N
key_off_slot range.I = key.N
key_off_slot range.X = key.X

-- the range part of the client's mode on the point's slot; there is none past END
abbrev pub range_at : Index → Rows → ℕ → ℕ → RangePart
range_at m rows c p = if nat_lt END p then range.N else range_of (mode_at rows (slot_of m p) c)

-- the key part of its mode there, if the point is a slot
abbrev pub key_at : Index → Rows → ℕ → ℕ → KeyPart
key_at m rows c p = if is_slot m p then key_of (mode_at rows p c) else key_off_slot (range_at m rows c p)
