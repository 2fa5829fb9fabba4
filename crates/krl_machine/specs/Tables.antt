-- One client's column of a table that has a mode for each slot, and the row that it gives: two functions on points.
use Rattle.std.specs.Prelude.{ℕ, zero, suc, ◌-◌, Option, Some, None, if◌then◌else◌, ◌==◌, nat_lt}
use Rattle.krl_modes.specs.declared.part.RangePart.{RangePart}
use Rattle.krl_modes.specs.declared.part.RangePart.TheVariants as range
use Rattle.krl_modes.specs.declared.part.KeyPart.{KeyPart}
use Rattle.krl_modes.specs.declared.part.KeyPart.TheVariants as key
use Rattle.krl_modes.specs.declared.mode.Mode.{Mode}
use Rattle.krl_modes.specs.Modes.{range_of, key_of}
use Rattle.krl_messages.specs.Values.{Value}
use Rattle.krl_machine.specs.Modes.{off_slot}
use Rattle.krl_machine.specs.Links.{Shared}

abbrev pub first_of_two : Option Value → ℕ → ℕ → ℕ
first_of_two None here later = later
first_of_two (Some v) here later = here

-- the least slot at or above q, if END is d above q
abbrev pub slot_from : (ℕ → Option Value) → ℕ → ℕ → ℕ
slot_from index zero q = q
slot_from index (suc d) q = first_of_two (index q) q (slot_from index d (suc q))

-- the slot of a point: the least key at or above it, or END
abbrev pub slot_of : Shared → ℕ → ℕ
slot_of s q = slot_from s.index (s.end - q) q

-- the range part of the mode on the point's slot; there is none past END
unfoldable pub range_at : Shared → (ℕ → Mode) → ℕ → RangePart
range_at s modes q = if nat_lt s.end q then range.N else range_of (modes (slot_of s q))

abbrev pub key_or_off : Option Value → KeyPart → RangePart → KeyPart
key_or_off None here gap = off_slot gap
key_or_off (Some v) here gap = here

-- the key part of the mode there, if the point is a slot
unfoldable pub key_at : Shared → (ℕ → Mode) → ℕ → KeyPart
key_at s modes q =
    if q == s.end then key_of (modes q)
    else (if nat_lt s.end q then key.N else key_or_off (s.index q) (key_of (modes q)) (range_at s modes q))
