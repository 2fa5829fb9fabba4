-- The two parts of a mode: their order, and which are compatible.
use Rattle.std.specs.Prelude.{Bool, true, false, if◌then◌else◌}
use Rattle.krl_modes.specs.declared.part.RangePart.{RangePart}
use Rattle.krl_modes.specs.declared.part.RangePart.TheVariants as range
use Rattle.krl_modes.specs.declared.part.KeyPart.{KeyPart}
use Rattle.krl_modes.specs.declared.part.KeyPart.TheVariants as key

-- N lies below S and I, and both lie below X
abbrev pub range_at_most : RangePart → RangePart → Bool
range_at_most range.N b = true
range_at_most range.S range.S = true
range_at_most range.I range.I = true
range_at_most a range.X = true
range_at_most a b = false

-- N below S below U below X
abbrev pub key_at_most : KeyPart → KeyPart → Bool
key_at_most key.N b = true
key_at_most key.S key.N = false
key_at_most key.S b = true
key_at_most key.U key.U = true
key_at_most a key.X = true
key_at_most a b = false

-- two clients may hold these parts of one gap: N with all, S with S, I with I
abbrev pub ranges_compatible : RangePart → RangePart → Bool
ranges_compatible range.N b = true
ranges_compatible a range.N = true
ranges_compatible range.S range.S = true
ranges_compatible range.I range.I = true
ranges_compatible a b = false

-- two clients may hold these parts of one key: N with all, S with S and U
abbrev pub keys_compatible : KeyPart → KeyPart → Bool
keys_compatible key.N b = true
keys_compatible a key.N = true
keys_compatible key.S key.S = true
keys_compatible key.S key.U = true
keys_compatible key.U key.S = true
keys_compatible a b = false

-- the least part above both: X if the two are not ordered
abbrev pub range_join : RangePart → RangePart → RangePart
range_join range.X b = range.X
range_join a b = if range_at_most a b then b else (if range_at_most b a then a else range.X)

-- the greatest part below both: N if the two are not ordered
abbrev pub range_meet : RangePart → RangePart → RangePart
range_meet range.X b = b
range_meet a b = if range_at_most a b then a else (if range_at_most b a then b else range.N)

-- the greater of the two
abbrev pub key_join : KeyPart → KeyPart → KeyPart
key_join key.X b = key.X
key_join a b = if key_at_most a b then b else a

-- the lesser of the two
abbrev pub key_meet : KeyPart → KeyPart → KeyPart
key_meet key.X b = b
key_meet a b = if key_at_most a b then a else b

-- the part reads the gap: S or X
abbrev pub reads_gap : RangePart → Bool
reads_gap r = range_at_most range.S r

-- the part lets its holder insert into the gap: I or X
abbrev pub lets_insert : RangePart → Bool
lets_insert r = range_at_most range.I r

-- only its holder has the gap
abbrev pub is_range_X : RangePart → Bool
is_range_X r = range_at_most range.X r

-- the part reads the entry: S, U or X
abbrev pub reads_key : KeyPart → Bool
reads_key k = key_at_most key.S k

-- only its holder has the entry
abbrev pub is_key_X : KeyPart → Bool
is_key_X k = key_at_most key.X k
