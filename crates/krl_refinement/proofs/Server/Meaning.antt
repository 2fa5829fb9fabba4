-- What the table gives at each point is what the machine reads from a column of it.
use Rattle.krl_refinement.proofs.Names.{◌≡◌, ℕ, ◌≤◌, None, refl, ap, ◌∙◌, if◌then◌else◌, END, RangePart, key_of, Index, slot_of, is_slot, Rows, mode_at, column, key_off_slot, range_at, key_at}
use Rattle.krl_refinement.proofs.Names.{off_slot, Phase, Shared, range_by_slots, key_by_slots, slot_here, is_slot_true, is_slot_false}
use Rattle.std.specs.FinMap as map
use Rattle.krl_modes.specs.declared.part.RangePart.TheVariants as range
use Rattle.krl_machine.specs.Tables as machine

-- what the machine sees of an index
abbrev pub seen_in : Index → ℕ → Phase → Shared
seen_in m epoch phase = record { epoch = epoch; phase = phase; index = map.get m; end = END }

off_same : (r : RangePart) → key_off_slot r ≡ off_slot r
off_same range.N = refl
off_same range.S = refl
off_same range.I = refl
off_same range.X = refl

module _ (m : Index) (epoch : ℕ) (phase : Phase) (near : (q : ℕ) → END ≤ q → map.get m q ≡ None) (rows : Rows) (c : ℕ) where
  pub range_is : (q : ℕ) → range_at m rows c q ≡ machine.range_at (seen_in m epoch phase) (column rows c) q
  range_is q = range_by_slots (seen_in m epoch phase) near (column rows c) (slot_of m) (slot_here m near) q

  pub key_is : (q : ℕ) → key_at m rows c q ≡ machine.key_at (seen_in m epoch phase) (column rows c) q
  key_is q =
      ap (λ r. if is_slot m q then key_of (mode_at rows q c) else key_off_slot r) (range_is q)
      ∙ key_by_slots (seen_in m epoch phase) near (column rows c) (is_slot m) key_off_slot (is_slot_true m near) (is_slot_false m near) off_same q
