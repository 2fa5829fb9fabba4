use Rattle.std.proofs.Common.{◌≤◌, ◌+◌, ◌-◌, take, length}
use Rattle.std.specs.Io.KnownBytes.{Appends}
use Rattle.krl_text.specs.Limits.{max_interruptions}
use Rattle.krl_text.proofs.WritingLemmas.{Left}
use Rattle.krl_text.proofs.io.write_line.Given as goal

abbrev pub invariant-loop-at : goal.invariant-loop-at
invariant-loop-at g l =
    record {
      inside : l.at ≤ length l.bytes;
      bounded : l.interrupted ≤ max_interruptions;
      written : Appends (g.W.Write.contents l.fn.writer) (g.W.Write.contents l.writer) (take l.at l.bytes);
      left : Left (g.W.Sink.interruptions l.fn.writer) (g.W.Sink.interruptions l.writer) l.interrupted;
    }

abbrev pub decreases-loop-at : goal.decreases-loop-at
decreases-loop-at g l = (length l.bytes - l.at) + (max_interruptions - l.interrupted)
