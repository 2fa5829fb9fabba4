-- The parts as small numbers: what the tables state is then linear arithmetic.
use Rattle.std.specs.Prelude.{ℕ}
use Rattle.krl_modes.specs.declared.part.RangePart.{RangePart}
use Rattle.krl_modes.specs.declared.part.RangePart.TheVariants as range
use Rattle.krl_modes.specs.declared.part.KeyPart.{KeyPart}
use Rattle.krl_modes.specs.declared.part.KeyPart.TheVariants as key

-- 1 if the holder may rely on what lies in the gap
abbrev pub reads : RangePart → ℕ
reads range.N = 0
reads range.S = 1
reads range.I = 0
reads range.X = 1

-- 1 if the holder may insert into the gap
abbrev pub inserts : RangePart → ℕ
inserts range.N = 0
inserts range.S = 0
inserts range.I = 1
inserts range.X = 1

-- a key part's place in the order
abbrev pub rank : KeyPart → ℕ
rank key.N = 0
rank key.S = 1
rank key.U = 2
rank key.X = 3
