use Rattle.krl_table.proofs.Names.{◌≡◌, true, ◌||◌, nat_eq, compatible, mode_of, all_below}
use Rattle.krl_table.proofs.row.SlotRow.is_compatible_there.Given as goal

abbrev pub invariant-loop-other : goal.invariant-loop-other
invariant-loop-other l = all_below l.other (λ d. nat_eq d l.client || compatible l.mode (mode_of l.self.modes d)) ≡ true
