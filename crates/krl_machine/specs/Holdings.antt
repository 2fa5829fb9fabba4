-- What the holdings of a message state of each point.
use Rattle.std.specs.Prelude.{ℕ, suc, nat_eq, Option, Some, None, List, [], ◌∷◌, if◌then◌else◌}
use Rattle.krl_modes.specs.declared.part.KeyPart.TheVariants as key
use Rattle.krl_modes.specs.Modes.{range_of, key_of}
use Rattle.krl_modes.specs.Spans.{contains}
use Rattle.krl_messages.specs.declared.holding.Holding.{Holding}
use Rattle.krl_machine.specs.Links.{Said}

-- of a point of its span: its range part, and at the last point its key part and value
abbrev pub said_at : Holding → ℕ → Said
said_at h q = record {
  range = range_of h.mode;
  key = if nat_eq (suc q) h.span.hi then key_of h.mode else key.N;
  value = if nat_eq (suc q) h.span.hi then h.value else None;
}

-- what is stated already of the point, otherwise what the holding states of it
abbrev pub or_by : Option Said → Holding → ℕ → Option Said
or_by None h q = if contains h.span q then Some (said_at h q) else None
or_by (Some t) h q = Some t

-- of a point in no span nothing, of any other what the last holding there states
abbrev pub said_by : List Holding → ℕ → Option Said
said_by [] q = None
said_by (h ∷ hs) q = or_by (said_by hs q) h q
