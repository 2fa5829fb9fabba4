use Rattle.std.proofs.Common.{◌≡◌, ℕ, true, Option, refl, sym, subst}
use Rattle.krl_modes.specs.Spans.{Bounds}
use Rattle.krl_cache.specs.Beliefs.{is_span}
use Rattle.krl_cache.proofs.Calls.{is_span_by}
use Rattle.krl_client.specs.Fields.{meaning}
use Rattle.krl_client.specs.Keeps.{IsClient}
use Rattle.krl_client.specs.contracts.client.Client.{the_view}
use Rattle.krl_client.proofs.Keeping.{pin_keeps}
use Rattle.krl_client.proofs.client.Client.pin.Goals as goal

pub invariant_of-self : goal.invariant_of-self
invariant_of-self c =
    let k = meaning (the_view c.self.inside) in
    let ends = c.in-Ok.ensures.bounds.0 refl in
    let span = subst (λ (s : Bounds). is_span s ≡ true) (sym c.in-Ok.ensures.span) (is_span_by (record { lo = c.args.lo; hi = c.args.hi }) ends.0 ends.1) in
    subst (λ (f : ℕ → Option Bounds). IsClient (record k { pins = f })) (sym c.pin.ensures) (pin_keeps k c.in-Ok.span c.in-Some.id span (sym c.in-Some.ensures) c.self.invariant)
