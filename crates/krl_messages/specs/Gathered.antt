-- Holdings that are gathered.
use Rattle.std.specs.Prelude.{ℕ, List}
use Rattle.krl_messages.specs.declared.holding.Holding.{Holding}

-- the holdings so far, and for how many there is room
pub record Gathered : Type 0 where
  pub holdings : List Holding
  pub room : ℕ
