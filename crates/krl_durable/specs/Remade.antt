-- What survives, made of its parts again.
use Rattle.std.specs.Prelude.{◌≡◌, ℕ, List, []}
use Rattle.std.specs.FinMap as map
use Rattle.krl_messages.specs.Values.{Value}
use Rattle.krl_durable.specs.declared.refused.EntriesRefused.{EntriesRefused}
use Rattle.krl_durable.specs.declared.refused.EntriesRefused.TheVariants as entries_refused
use Rattle.krl_durable.specs.declared.limits.Limits.{Limits}
use Rattle.krl_durable.specs.Registers.{Register, Durable}
use Rattle.krl_durable.specs.Limits.{Fits, sized}
use Rattle.krl_durable.specs.StandardLimits.{standard_limits}
use Rattle.krl_durable.specs.InitialEntries.{Refuses}
use Rattle.krl_durable.specs.Migrations.{DurableV1}

-- just these parts
abbrev pub of_parts : Limits → List (ℕ × Value) → ℕ → Register → Durable
of_parts l es epoch register =
    record { room = l.room; reach = l.reach; index = map.from_entries es; epoch = epoch; register = register }

-- nothing has happened to these entries, and the limits are those if none are named
abbrev pub fresh : List (ℕ × Value) → Durable
fresh es = of_parts standard_limits es 0 []

-- d can be written out and brought back, with any limits that it can have: the entries of its index are refused only
-- for want of memory, and with its epoch and these records they make d again, with these limits
pub record MakesAgain (d : Durable) (records : Register) : Type 0 where
  pub taken : (l : Limits) → Fits l d → (e : EntriesRefused) → Refuses l.room (map.entries d.index) e →
      e ≡ entries_refused.OutOfMemory
  pub same : (l : Limits) → of_parts l (map.entries d.index) d.epoch records ≡ sized l d

-- the same, for values that are numbers
abbrev pub of_numbers : List (ℕ × ℕ) → ℕ → Register → DurableV1
of_numbers es epoch register = record { index = map.from_entries es; epoch = epoch; register = register }
