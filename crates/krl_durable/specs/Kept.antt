-- What holds of all that survives.
use Rattle.std.specs.Prelude.{◌≡◌, ℕ, ◌≤◌, true, nat_eq, nat_lt, List, length}
use Rattle.std.specs.List.{AllByRecursion, IsDistinct}
use Rattle.std.specs.Map.{keys_of}
use Rattle.std.specs.FinMap as map
use Rattle.krl_modes.specs.declared.point.TheConstants.{END}
use Rattle.krl_modes.specs.declared.limits.TheConstants.{MAX_CLIENTS}
use Rattle.krl_durable.specs.Registers.{Durable, HasIncarnations, HasOutcomes, HasLasts}
use Rattle.krl_durable.specs.Writes.{IsRoom, IsReach}

-- each key is below END
abbrev pub AreBelowEnd : {V : Type 0} → List (ℕ × V) → Type 0
AreBelowEnd es = AllByRecursion (λ e. nat_lt e.0 END ≡ true) es

-- What holds of all that survives: the keys are below END, and no more than there is room for; the reach of a grant is
-- from 1 to MAX_HOLDINGS; the epoch is at most END; the clients are below MAX_CLIENTS, each once, with outcomes if a
-- write was judged, with last numbers of at most END, and with incarnations from 1 to END.
pub record IsKept (d : Durable) : Type 0 where
  pub keys : AreBelowEnd (map.entries d.index)
  pub few : length (map.entries d.index) ≤ d.room
  pub room : IsRoom d.room
  pub reach : IsReach d.reach
  pub epoch : d.epoch ≤ END
  pub clients : AllByRecursion (λ e. nat_lt e.0 MAX_CLIENTS ≡ true) d.register
  pub once : IsDistinct nat_eq (keys_of d.register)
  pub outcomes : HasOutcomes d.register
  pub lasts : HasLasts d.register
  pub incarnations : HasIncarnations d.register
