-- The thirteen modes.
use Rattle.std.specs.Prelude.{Bool, ◌&&◌}
use Rattle.krl_modes.specs.declared.part.RangePart.{RangePart}
use Rattle.krl_modes.specs.declared.part.RangePart.TheVariants as range
use Rattle.krl_modes.specs.declared.part.KeyPart.{KeyPart}
use Rattle.krl_modes.specs.declared.part.KeyPart.TheVariants as key
use Rattle.krl_modes.specs.declared.mode.Mode.{Mode}
use Rattle.krl_modes.specs.declared.mode.Mode.TheVariants as mode
use Rattle.krl_modes.specs.Parts.{range_at_most, key_at_most, ranges_compatible, keys_compatible, range_join, range_meet, key_join, key_meet, reads_key}

-- what a mode holds of the gap
abbrev pub range_of : Mode → RangePart
range_of mode.N = range.N
range_of mode.S = range.N
range_of mode.U = range.N
range_of mode.X = range.N
range_of mode.RangeSS = range.S
range_of mode.RangeSU = range.S
range_of mode.RangeIN = range.I
range_of mode.RangeIS = range.I
range_of mode.RangeIU = range.I
range_of mode.RangeIX = range.I
range_of mode.RangeXS = range.X
range_of mode.RangeXU = range.X
range_of mode.RangeXX = range.X

-- what a mode holds of the key
abbrev pub key_of : Mode → KeyPart
key_of mode.N = key.N
key_of mode.S = key.S
key_of mode.U = key.U
key_of mode.X = key.X
key_of mode.RangeSS = key.S
key_of mode.RangeSU = key.U
key_of mode.RangeIN = key.N
key_of mode.RangeIS = key.S
key_of mode.RangeIU = key.U
key_of mode.RangeIX = key.X
key_of mode.RangeXS = key.S
key_of mode.RangeXU = key.U
key_of mode.RangeXX = key.X

-- each part of the one is at most the other's
abbrev pub at_most : Mode → Mode → Bool
at_most a b = range_at_most (range_of a) (range_of b) && key_at_most (key_of a) (key_of b)

-- two clients may hold these modes on one slot: both parts may be held together
abbrev pub compatible : Mode → Mode → Bool
compatible a b = ranges_compatible (range_of a) (range_of b) && keys_compatible (key_of a) (key_of b)

-- the least mode whose parts are at least these: the pair itself, except for the three that are no mode
abbrev pub at_or_above : RangePart → KeyPart → Mode
at_or_above range.S key.N = mode.RangeSS
at_or_above range.S key.X = mode.RangeXX
at_or_above range.X key.N = mode.RangeXS
at_or_above range.N key.N = mode.N
at_or_above range.N key.S = mode.S
at_or_above range.N key.U = mode.U
at_or_above range.N key.X = mode.X
at_or_above range.S key.S = mode.RangeSS
at_or_above range.S key.U = mode.RangeSU
at_or_above range.I key.N = mode.RangeIN
at_or_above range.I key.S = mode.RangeIS
at_or_above range.I key.U = mode.RangeIU
at_or_above range.I key.X = mode.RangeIX
at_or_above range.X key.S = mode.RangeXS
at_or_above range.X key.U = mode.RangeXU
at_or_above range.X key.X = mode.RangeXX

-- the least mode above both
abbrev pub join : Mode → Mode → Mode
join a b = at_or_above (range_join (range_of a) (range_of b)) (key_join (key_of a) (key_of b))

-- the greatest mode below both
abbrev pub meet : Mode → Mode → Mode
meet a b = at_or_above (range_meet (range_of a) (range_of b)) (key_meet (key_of a) (key_of b))

-- the greatest part of a gap that another client may hold next to this one
abbrev pub range_cap : RangePart → RangePart
range_cap range.N = range.X
range_cap range.S = range.S
range_cap range.I = range.I
range_cap range.X = range.N

-- the greatest part of a key that another client may hold next to this one
abbrev pub key_cap : KeyPart → KeyPart
key_cap key.N = key.X
key_cap key.S = key.U
key_cap key.U = key.S
key_cap key.X = key.N

-- the greatest mode that another client may hold next to this one. Next to X that would be X of the gap and N of the
-- key, which is no mode: RangeIN is the greatest one below
abbrev pub cap : Mode → Mode
cap mode.X = mode.RangeIN
cap m = at_or_above (range_cap (range_of m)) (key_cap (key_of m))

-- it asks only for an entry, so there has to be one: S, U or X
abbrev pub needs_entry : Mode → Bool
needs_entry m = range_at_most (range_of m) range.N && reads_key (key_of m)
