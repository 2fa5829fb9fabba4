-- How a value is kept: its bytes, and zeros after them.
use Rattle.std.specs.Prelude.{◌≡◌, ℕ, ◌≤◌, ◌-◌, List, ◌++◌, length, take, drop, replicate}
use Rattle.krl_modes.specs.declared.limits.TheConstants.{MAX_VALUE_BYTES}
use Rattle.std.proofs.Common.{sym, ap, ◌∙◌, arith, take-append-drop, length-take-le}

-- the bytes, and zeros up to the most that a value can have
abbrev pub padded : List ℕ → List ℕ
padded bytes = bytes ++ replicate (MAX_VALUE_BYTES - length bytes) 0

-- so many bytes come first, and zeros after them
pub record IsPadded (len : ℕ) (bytes : List ℕ) : Type 0 where
  pub few : len ≤ MAX_VALUE_BYTES
  pub whole : length bytes ≡ MAX_VALUE_BYTES
  pub zeros : drop len bytes ≡ replicate (MAX_VALUE_BYTES - len) 0

-- what is kept is the bytes, padded
pub padded_back : (len : ℕ) (bytes : List ℕ) → IsPadded len bytes →
    (padded (take len bytes) ≡ bytes) × (length (take len bytes) ≡ len)
padded_back len bytes h =
    let n : length (take len bytes) ≡ len = length-take-le len bytes (omega (arith, h.few, h.whole)) in (
      ap (λ m. take len bytes ++ replicate (MAX_VALUE_BYTES - m) 0) n
          ∙ ap (λ zs. take len bytes ++ zs) (sym h.zeros)
          ∙ take-append-drop len bytes,
      n,
    )
