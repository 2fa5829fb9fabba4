use Rattle.std.proofs.Common.{true}
use Rattle.krl_script.specs.Fields.{meaning}
use Rattle.krl_script.specs.Transcripts.{DeliversMany}
use Rattle.krl_script.proofs.interpreter.Interpreter.settle.Given as goal

abbrev pub invariant-deliveries : goal.invariant-deliveries
invariant-deliveries l =
    record {
      many : DeliversMany l.counter (record (meaning l.fn.self) { begun = true }) (meaning l.self);
    }
