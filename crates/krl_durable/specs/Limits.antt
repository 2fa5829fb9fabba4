-- The limits of what survives: for how many entries there is room, and how many slots one grant reaches at most.
use Rattle.std.specs.Prelude.{◌≤◌, length}
use Rattle.std.specs.FinMap as map
use Rattle.krl_durable.specs.declared.limits.Limits.{Limits}
use Rattle.krl_durable.specs.Registers.{Durable}
use Rattle.krl_durable.specs.Writes.{IsRoom, IsReach}

-- the same, with these limits
abbrev pub sized : Limits → Durable → Durable
sized l d = record d { room = l.room; reach = l.reach }

-- d can have these limits: there is room for its entries
pub record Fits (l : Limits) (d : Durable) : Type 0 where
  pub room : IsRoom l.room
  pub reach : IsReach l.reach
  pub entries : length (map.entries d.index) ≤ l.room
