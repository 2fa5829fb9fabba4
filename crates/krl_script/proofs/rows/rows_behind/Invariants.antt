use Rattle.std.proofs.Common.{◌≡◌, ◌&&◌, ◌++◌, ℕ, nat_le, nat_lt, take}
use Rattle.std.specs.List.{filter}
use Rattle.krl_messages.specs.Values.{Value}
use Rattle.krl_script.proofs.rows.rows_behind.Given as goal

abbrev pub invariant-loop-entry : goal.invariant-loop-entry
invariant-loop-entry l =
    let lies = λ (e : ℕ × Value). nat_le l.lo e.0 && nat_lt e.0 l.hi in
    l.rows ≡ filter lies (take l.entry-index l.entries) ++ l.left
