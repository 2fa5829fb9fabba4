use Rattle.krl_table.proofs.Names.{◌≡◌, ◌↔◌, ◌<◌, ℕ, true, mode_of}
use Rattle.krl_modes.specs.declared.mode.Mode.TheVariants as mode
use Rattle.krl_table.proofs.row.all_are_n.Given as goal

-- so far all are
abbrev pub invariant-loop-client : goal.invariant-loop-client
invariant-loop-client l = (l.all ≡ true) ↔ ((c : ℕ) → c < l.client → mode_of l.modes c ≡ mode.N)
