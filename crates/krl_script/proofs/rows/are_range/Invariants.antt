use Rattle.std.proofs.Common.{◌≡◌, ◌&&◌, ◌++◌, ℕ, nat_le, nat_lt, take}
use Rattle.std.specs.List.{filter}
use Rattle.krl_blocks.specs.Laid.{flat}
use Rattle.krl_blocks.specs.Runs.{runs_of}
use Rattle.krl_messages.specs.Values.{Value}
use Rattle.krl_script.proofs.rows.are_range.Given as goal

abbrev pub invariant-loop-i : goal.invariant-loop-i
invariant-loop-i l =
    let lies = λ (e : ℕ × Value). nat_le l.lo e.0 && nat_lt e.0 l.hi in
    l.rows ≡ filter lies (flat (take l.i (runs_of l.entries))) ++ l.left
