-- What the table gives a client at each point is the same if its modes are, and nothing if they are N.
use Rattle.krl_server.proofs.Names.{◌≡◌, ℕ, Bool, true, false, refl, ap, ◌∙◌, nat_lt, if◌then◌else◌, END, range_of, key_of, Index, slot_of, is_slot, Rows, mode_at, key_off_slot, range_at, key_at}
use Rattle.krl_modes.specs.declared.part.RangePart.TheVariants as range
use Rattle.krl_modes.specs.declared.part.KeyPart.TheVariants as key
use Rattle.krl_modes.specs.declared.mode.Mode.TheVariants as mode

-- if c's modes are the same, so is what the table gives it
module _ (m : Index) (old new : Rows) (c : ℕ) (same : (n : ℕ) → mode_at old n c ≡ mode_at new n c) where
  pub same_range : (q : ℕ) → range_at m old c q ≡ range_at m new c q
  same_range q = ap (λ x. if nat_lt END q then range.N else range_of x) (same (slot_of m q))

  pub same_key : (q : ℕ) → key_at m old c q ≡ key_at m new c q
  same_key q =
      ap (λ x. if is_slot m q then key_of x else key_off_slot (range_at m old c q)) (same q)
      ∙ ap (λ r. if is_slot m q then key_of (mode_at new q c) else key_off_slot r) (same_range q)

-- and if they are N, it gives nothing
module _ (m : Index) (rows : Rows) (c : ℕ) (none : (n : ℕ) → mode_at rows n c ≡ mode.N) where
  pub blank_range : (q : ℕ) → range_at m rows c q ≡ range.N
  blank_range q = ap (λ x. if nat_lt END q then range.N else range_of x) (none (slot_of m q)) ∙ by_far (nat_lt END q)
    where
      by_far : (b : Bool) → (if b then range.N else range.N) ≡ range.N
      by_far true = refl
      by_far false = refl

  pub blank_key : (q : ℕ) → key_at m rows c q ≡ key.N
  blank_key q =
      ap (λ x. if is_slot m q then key_of x else key_off_slot (range_at m rows c q)) (none q)
      ∙ ap (λ r. if is_slot m q then key.N else key_off_slot r) (blank_range q) ∙ by_slot (is_slot m q)
    where
      by_slot : (b : Bool) → (if b then key.N else key.N) ≡ key.N
      by_slot true = refl
      by_slot false = refl
