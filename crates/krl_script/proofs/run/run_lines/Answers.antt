use Rattle.std.proofs.lemmas.Result.{err_from_is_err_and}
use Rattle.std.specs.Str.Lines.{lines}
use Rattle.krl_script.specs.Transcripts.{first_stage}
use Rattle.krl_script.proofs.Runs.{nothing_printed}
use Rattle.krl_script.proofs.run.run_lines.Goals as goal

pub returns-in_err-interpreter-clause-wrote : goal.returns-in_err-interpreter-clause-wrote
returns-in_err-interpreter-clause-wrote g c =
    let p = err_from_is_err_and c.from_residual.result c.from_residual.ensures.1 in
    rw (p.1, p.2) (nothing_printed (g.W.Write.contents c.args.writer.now) first_stage 1 (lines c.args.text.now))
