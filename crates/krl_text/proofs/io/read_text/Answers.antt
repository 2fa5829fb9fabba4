use Rattle.std.proofs.Common.{◌++◌, take}
use Rattle.std.proofs.lemmas.Result.{err_from_is_err_and}
use Rattle.std.proofs.KnownBytes.{Consumes-trans}
use Rattle.krl_text.proofs.io.read_text.Goals as goal

pub returns-in_err-extend_from_slice-in-Ok-clause-err : goal.returns-in_err-extend_from_slice-in-Ok-clause-err
returns-in_err-extend_from_slice-in-Ok-clause-err g c =
    let p = err_from_is_err_and c.from_residual.result c.from_residual.ensures.1 in
    rw (p.1, p.2) (tt, c.loop.text.items ++ take c.in-Ok.n c.read_some.new.buf, Consumes-trans _ _ _ _ _ c.loop.invariant.taken c.in-Ok.ensures.bytes.0)
