-- Modes and their parts by name, and the modes by their parts.
use Rattle.std.specs.Prelude.{ℕ, List, codes, [], ◌∷◌, find, Option, Some, None}
use Rattle.std.specs.Str.{bytes_eq}
use Rattle.krl_modes.specs.declared.part.RangePart.{RangePart}
use Rattle.krl_modes.specs.declared.part.RangePart.TheVariants as range
use Rattle.krl_modes.specs.declared.part.KeyPart.{KeyPart}
use Rattle.krl_modes.specs.declared.part.KeyPart.TheVariants as key
use Rattle.krl_modes.specs.declared.mode.Mode.{Mode}
use Rattle.krl_modes.specs.declared.mode.Mode.TheVariants as mode
use Rattle.krl_modes.specs.Modes.{at_or_above}

abbrev pub range_part_name : RangePart → List ℕ
range_part_name range.N = codes "N"
range_part_name range.S = codes "S"
range_part_name range.I = codes "I"
range_part_name range.X = codes "X"

abbrev pub key_part_name : KeyPart → List ℕ
key_part_name key.N = codes "N"
key_part_name key.S = codes "S"
key_part_name key.U = codes "U"
key_part_name key.X = codes "X"

-- the mode of these parts, if there is one
abbrev pub mode_of : RangePart → KeyPart → Option Mode
mode_of range.S key.N = None
mode_of range.S key.X = None
mode_of range.X key.N = None
mode_of r k = Some (at_or_above r k)

abbrev pub mode_name : Mode → List ℕ
mode_name mode.N = codes "N"
mode_name mode.S = codes "S"
mode_name mode.U = codes "U"
mode_name mode.X = codes "X"
mode_name mode.RangeSS = codes "RangeS-S"
mode_name mode.RangeSU = codes "RangeS-U"
mode_name mode.RangeIN = codes "RangeI-N"
mode_name mode.RangeIS = codes "RangeI-S"
mode_name mode.RangeIU = codes "RangeI-U"
mode_name mode.RangeIX = codes "RangeI-X"
mode_name mode.RangeXS = codes "RangeX-S"
mode_name mode.RangeXU = codes "RangeX-U"
mode_name mode.RangeXX = codes "RangeX-X"

-- every mode, in the order of the tables
abbrev pub all_modes : List Mode
all_modes =
    mode.N ∷ mode.S ∷ mode.U ∷ mode.X ∷ mode.RangeSS ∷ mode.RangeSU ∷ mode.RangeIN ∷ mode.RangeIS ∷ mode.RangeIU ∷
    mode.RangeIX ∷ mode.RangeXS ∷ mode.RangeXU
    ∷ mode.RangeXX ∷ []

-- the mode of this name
abbrev pub mode_named : List ℕ → Option Mode
mode_named text = find (λ m. bytes_eq text (mode_name m)) all_modes
