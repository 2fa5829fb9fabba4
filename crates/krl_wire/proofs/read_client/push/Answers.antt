use Rattle.std.proofs.Common.{◌≡◌, Err, ap}
use Rattle.std.proofs.lemmas.Result.{err_from_is_err_and}
use Rattle.krl_wire.specs.declared.fault.ReadError.TheVariants as errors
use Rattle.krl_wire.proofs.read_client.push.Goals as goal

pub returns-in_err-body-clause-memory : goal.returns-in_err-body-clause-memory
returns-in_err-body-clause-memory c = λ e.
    let p = err_from_is_err_and c.from_residual-in_err-body.result c.from_residual-in_err-body.ensures.1 in
    let error : c.in_err-body.field-0.0 ≡ errors.OutOfMemory = cc (p.1, p.2, e) in
    c.in_err-body.ensures.memory (ap Err error)
