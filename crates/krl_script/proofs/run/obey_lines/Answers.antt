use Rattle.std.proofs.Common.{ℕ, List, arith, subst}
use Rattle.std.proofs.lemmas.Bool.Decides.{nat_tests}
use Rattle.std.proofs.lemmas.Result.{err_from_is_err_and}
use Rattle.std.specs.Str.Lines.{lines}
use Rattle.krl_script.specs.Fields.{meaning}
use Rattle.krl_script.specs.Transcripts.{Prints}
use Rattle.krl_script.proofs.Runs.{Continues, continue_more, continue_fault, continue_end, no_lines}
use Rattle.krl_script.proofs.run.obey_lines.Goals as goal

pub lines-preserved : goal.lines-preserved
lines-preserved g c =
    let before = g.W.Write.contents c.args.writer.now in
    let mid = g.W.Write.contents c.lines.writer in
    let T = Prints (meaning c.args.interpreter.now) 1 (lines c.args.text.now) in
    let here = subst (λ (ls : List (List ℕ)). Continues before mid T (meaning c.lines.interpreter) c.lines.number ls) c.first_line.ensures.lines c.lines.invariant.continues in
    record {
      counted = omega (arith, c.first_line.ensures.shorter);
      continues =
          continue_more before mid (g.W.Write.contents c.run_line.new.writer) T (meaning c.lines.interpreter) (meaning c.run_line.new.interpreter) c.lines.number c.first_line.result.0.now
          (lines c.first_line.result.1.now) (tt {0}) here c.in_ok-run_line.ensures.runs;
      steady = λ h. (c.in_ok-run_line.ensures.steady (c.lines.invariant.steady h)).1;
    }

pub returns-in_err-run_line-clause-wrote : goal.returns-in_err-run_line-clause-wrote
returns-in_err-run_line-clause-wrote g c =
    let before = g.W.Write.contents c.args.writer.now in
    let mid = g.W.Write.contents c.lines.writer in
    let T = Prints (meaning c.args.interpreter.now) 1 (lines c.args.text.now) in
    let here = subst (λ (ls : List (List ℕ)). Continues before mid T (meaning c.lines.interpreter) c.lines.number ls) c.first_line.ensures.lines c.lines.invariant.continues in
    let p = err_from_is_err_and c.from_residual.result c.from_residual.ensures.1 in
    rw (p.1, p.2)
    (continue_fault before mid (g.W.Write.contents c.run_line.new.writer) T (meaning c.lines.interpreter) (meaning c.run_line.new.interpreter) c.lines.number c.first_line.result.0.now
    (lines c.first_line.result.1.now) c.in_err-run_line.field-0.0 here c.in_err-run_line.ensures.runs)

pub returns-clause-wrote : goal.returns-clause-wrote
returns-clause-wrote g c =
    continue_end (g.W.Write.contents c.args.writer.now) (g.W.Write.contents c.lines.writer) (Prints (meaning c.args.interpreter.now) 1 (lines c.args.text.now)) (meaning c.lines.interpreter) c.lines.number
    (lines c.lines.rest.now) (no_lines c.lines.rest.now (grind (arith, nat_tests))) c.lines.invariant.continues
