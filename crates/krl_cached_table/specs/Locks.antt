-- krl keeps the premise on its locks: its machine does, of whose worlds the code's worlds are proved to be some.
use Rattle.std.specs.Prelude.{ℕ, Option}
use Rattle.krl_messages.specs.Values.{Value}
use Rattle.krl_machine.specs.Worlds.{World, Reachable}
use Rattle.krl_cached_table.specs.Steps.{IsCompatible}

-- what the clients of each reachable world of krl believe to hold of keys
abbrev pub LocksAreCompatible : Type 0
LocksAreCompatible =
    (index : ℕ → Option Value) (end : ℕ) (w : World) → Reachable index end w → IsCompatible (λ c p. (w.links c).key p)
