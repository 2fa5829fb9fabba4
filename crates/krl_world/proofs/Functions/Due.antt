-- A client's refusal of a command is the refusal that is due, or want of memory.
use Rattle.std.proofs.Common.{Some, None, Option, inl, inr, refl, sym, ap}
use Rattle.krl_client.specs.declared.refused.CommandRefused.{CommandRefused}
use Rattle.krl_client.specs.FieldSteps.{IsDue}
use Rattle.krl_steps.specs.Refusals.{refused_by_client}
use Rattle.krl_world.specs.PlaceSteps.{IsRefused}
use Rattle.krl_world.specs.Steps.{named}

pub as_due : (due : Option CommandRefused) (r : CommandRefused) → IsDue due r → IsRefused (named refused_by_client due) (Unit {0}) (refused_by_client r)
as_due None r e = inr (refl, ap refused_by_client e, tt)
as_due (Some d) r e = inl (ap (λ x. Some (refused_by_client x)) (sym e))
