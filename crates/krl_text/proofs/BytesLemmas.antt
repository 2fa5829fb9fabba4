-- Values that a script spells.
use Rattle.std.proofs.Common.{◌≡◌, ℕ, ◌/◌, Bool, List, length, refl, ap, if◌then◌else◌, eq-eqb}
use Rattle.std.specs.Prelude.{◌==◌, ◌%◌, Err}
use Rattle.hex.specs.declared.error.FromHexError.TheVariants.{OddLength, InvalidStringLength}
use Rattle.hex.specs.Hex.{decode_of, decode_pairs, decode_sized}

-- half as many bytes as digits are what is decoded
pub half_sized : (s : List ℕ) → decode_sized s (length s / 2) ≡ decode_of s
half_sized s =
    ap (λ (b : Bool). if length s % 2 == 1 then Err OddLength else (if b then decode_pairs 0 s else Err InvalidStringLength)) (eq-eqb (length s / 2) (length s / 2) refl)
