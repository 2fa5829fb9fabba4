-- Tests of a client, by its write or by a pin, if there is one: as code and proofs take them apart.
use Rattle.std.specs.Prelude.{ℕ, Bool, false, Option, Some}
use Rattle.krl_modes.specs.Spans.{Bounds, contains, meets}
use Rattle.krl_messages.specs.declared.write_op.WriteOp.{WriteOp}
use Rattle.krl_messages.specs.Writes.{op_key}
use Rattle.krl_messages.specs.Members.{map_or}

-- the write's key lies in the span
abbrev pub is_in : Bounds → Option WriteOp → Bool
is_in s o = map_or o false (λ change. contains s (op_key change))

-- the pin meets the span
abbrev pub pin_meets : Bounds → Option Bounds → Bool
pin_meets s o = map_or o false (meets s)

-- the id, or a later one if the id is taken
abbrev pub if_taken : Option Bounds → ℕ → Option ℕ → Option ℕ
if_taken o i later = map_or o (Some i) (λ s. later)
