use Rattle.std.proofs.Common.{◌∙◌, ℕ, Some, ap, sym, refl}
use Rattle.krl_modes.specs.Spans.{Bounds}
use Rattle.krl_client.specs.Commands.{pinned}
use Rattle.krl_client.specs.Fields.{meaning}
use Rattle.krl_embed.proofs.client_calls.pin.Goals as goal

pub returns-in-Ok-clause-does : goal.returns-in-Ok-clause-does
returns-in-Ok-clause-does c =
    let s : Bounds = record { lo = c.args.lo; hi = c.args.hi } in
    let done = c.with.ensures in
    rw c.in-Client.is (rw c.in-Ok.ensures.none_due (
      done.code,
      refl,
      c.in-Ok.ensures.id ∙ ap (λ (id : ℕ). Some id) (sym done.detail),
      c.in-Ok.ensures.pinned ∙ ap (λ (id : ℕ). pinned (meaning c.in-Client.client) s id) (sym done.detail),
    ))
