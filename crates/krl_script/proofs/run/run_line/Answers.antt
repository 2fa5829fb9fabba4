use Rattle.std.proofs.Common.{◌∷◌}
use Rattle.krl_script.specs.Fields.{meaning}
use Rattle.krl_script.proofs.Runs.{nothing_printed, runs_printed}
use Rattle.krl_script.proofs.run.run_line.Goals as goal

pub returns-in-Ok-clause-runs : goal.returns-in-Ok-clause-runs
returns-in-Ok-clause-runs g c =
    runs_printed (g.W.Write.contents c.args.writer.now) (g.W.Write.contents c.write_line.new.writer) (meaning c.args.interpreter.now) (meaning c.obey_line.new.self) c.args.number c.args.line.now
    c.in-Ok.printed.bytes.items c.as_bytes.result.now c.write_line.result c.in-Ok.ensures.done c.as_bytes.ensures.value c.write_line.ensures.ok c.write_line.ensures.err

pub returns-in-Err-OutOfMemory-clause-runs : goal.returns-in-Err-OutOfMemory-clause-runs
returns-in-Err-OutOfMemory-clause-runs g c = λ more. nothing_printed (g.W.Write.contents c.args.writer.now) (meaning c.args.interpreter.now) c.args.number (c.args.line.now ∷ more)
