-- What an entry states, and the belief of range parts and entries.
use Rattle.std.specs.Prelude.{ℕ, Option, Some, None}
use Rattle.krl_modes.specs.declared.part.RangePart.{RangePart}
use Rattle.krl_modes.specs.declared.part.KeyPart.{KeyPart}
use Rattle.krl_modes.specs.declared.part.KeyPart.TheVariants as key
use Rattle.krl_messages.specs.Values.{Value}
use Rattle.krl_cache.specs.declared.entry.Entry.{Entry}
use Rattle.krl_cache.specs.Beliefs.{Belief}

-- what an entry states, if there is one
abbrev pub part_of : Option Entry → KeyPart
part_of None = key.N
part_of (Some e) = e.part

-- and its value
abbrev pub value_of : Option Entry → Option Value
value_of None = None
value_of (Some e) = e.value

-- the belief of these range parts and these entries
abbrev pub belief_by : (ℕ → RangePart) → (ℕ → Option Entry) → Belief
belief_by ranges entries = record {
  range_at = ranges;
  key_at = λ p. part_of (entries p);
  value_at = λ p. value_of (entries p);
}
