use Rattle.std.proofs.Common.{◌+◌, ◌≤◌, length}
use Rattle.std.specs.Str.Lines.{lines}
use Rattle.krl_script.specs.Fields.{meaning}
use Rattle.krl_text.specs.Transfers.{IsSteady}
use Rattle.krl_script.specs.Transcripts.{Prints}
use Rattle.krl_script.proofs.Runs.{Continues}
use Rattle.krl_script.proofs.run.obey_lines.Given as goal

abbrev pub invariant-lines : goal.invariant-lines
invariant-lines g l =
    record {
      counted : l.number + length l.rest ≤ length l.text + 1;
      continues : Continues (g.W.Write.contents l.fn.writer) (g.W.Write.contents l.writer) (Prints (meaning l.fn.interpreter) 1 (lines l.text)) (meaning l.interpreter) l.number (lines l.rest);
      steady : IsSteady (g.W.Sink.interruptions l.fn.writer) → IsSteady (g.W.Sink.interruptions l.writer);
    }

abbrev pub decreases-lines : goal.decreases-lines
decreases-lines g l = length l.rest
