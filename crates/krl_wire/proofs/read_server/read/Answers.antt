use Rattle.std.proofs.Common.{◌≡◌, Err, ap, sym, ◌∙◌, ◌∷◌, arith}
use Rattle.std.proofs.lemmas.Result.{err_from_is_err_and}
use Rattle.krl_wire.specs.declared.fault.ReadError.TheVariants as errors
use Rattle.krl_wire.specs.Reading.{head_at}
use Rattle.krl_wire.proofs.Heads.{head_is}
use Rattle.krl_wire.proofs.read_server.read.Goals as goal

pub returns-in_err-body-clause-memory : goal.returns-in_err-body-clause-memory
returns-in_err-body-clause-memory c = λ e.
    let p = err_from_is_err_and c.from_residual-in_err-body.result c.from_residual-in_err-body.ensures.1 in
    let error : c.in_err-body.field-0.0 ≡ errors.OutOfMemory = cc (p.1, p.2, e) in
    let rest = c.head.new.self in
    let begins = head_is 0 11 c.in_ok-kind.kind c.args.bytes.now rest
    (λ i. omega (arith, c.type_inv.bytes i))
    (ap (λ xs. head_at 0 11 xs) (sym c.new-reader.ensures) ∙ c.in_ok-kind.ensures) in
    (rest, begins ∙ ap (λ k. 1 ∷ k ∷ rest) (c.in_err-body.ensures.memory (ap Err error)))
