-- The rule on a holding's value.
use Rattle.std.specs.Prelude.{Bool, true, ◌&&◌, not, is_some, nat_eq, List, [], ◌∷◌}
use Rattle.std.specs.Bool.{beq}
use Rattle.krl_modes.specs.declared.point.TheConstants.{TOP}
use Rattle.krl_modes.specs.Parts.{reads_key}
use Rattle.krl_modes.specs.Modes.{key_of}
use Rattle.krl_modes.specs.Spans.{Bounds}
use Rattle.krl_messages.specs.declared.holding.Holding.{Holding}

-- the span's last point is END
abbrev pub ends_at_end : Bounds → Bool
ends_at_end s = nat_eq s.hi TOP

-- the value is there exactly if the key part reads the entry and the slot is not END
abbrev pub has_its_value : Holding → Bool
has_its_value h = beq (is_some h.value) (reads_key (key_of h.mode) && not (ends_at_end h.span))

-- each has its value by the rule
abbrev pub have_values : List Holding → Bool
have_values [] = true
have_values (h ∷ hs) = has_its_value h && have_values hs
