use Rattle.std.proofs.Common.{ℕ, Option, sym, subst}
use Rattle.krl_modes.specs.Spans.{Bounds}
use Rattle.krl_client.specs.Fields.{meaning}
use Rattle.krl_client.specs.Keeps.{IsClient}
use Rattle.krl_client.specs.contracts.client.Client.{the_view}
use Rattle.krl_client.proofs.Keeping.{unpin_keeps}
use Rattle.krl_client.proofs.client.Client.unpin.Goals as goal

pub invariant_of-self : goal.invariant_of-self
invariant_of-self c =
    let k = meaning (the_view c.self.inside) in
    subst (λ (f : ℕ → Option Bounds). IsClient (record k { pins = f })) (sym c.unpin.ensures) (unpin_keeps k c.args.id c.self.invariant)
