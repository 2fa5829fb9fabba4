use Rattle.std.proofs.Common.{Some, ap}
use Rattle.std.proofs.lemmas.Result.{err_from_is_err_and}
use Rattle.krl_client.specs.Commands.{seize_refusal}
use Rattle.krl_client.specs.Fields.{meaning}
use Rattle.krl_world.proofs.Functions.Due.{as_due}
use Rattle.krl_world.proofs.client_steps.seize.Goals as goal

pub returns-in_err-messages : goal.returns-in_err-messages
returns-in_err-messages c =
    let k = meaning c.args.client.now in
    let p = err_from_is_err_and c.from_residual.result c.from_residual.ensures.1 in
    rw (p.1, p.2) (ap (λ n. Some (meaning n)) c.in_err-messages.ensures.unchanged, c.reserve.ensures.items, as_due (seize_refusal k c.args.op) _ c.in_err-messages.ensures.due)
