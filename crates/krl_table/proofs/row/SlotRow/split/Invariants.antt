use Rattle.krl_table.proofs.Names.{◌≡◌, ◌<◌, ℕ, [], length, split_modes, mode_of}
use Rattle.krl_table.proofs.row.SlotRow.split.Given as goal

abbrev pub invariant-loop-other : goal.invariant-loop-other
invariant-loop-other l = record {
  full : length l.row.modes ≡ 64;
  queue : l.row.queue ≡ [];
  modes : (d : ℕ) → d < l.other → mode_of l.row.modes d ≡ split_modes (mode_of l.self.modes) l.client d;
}
