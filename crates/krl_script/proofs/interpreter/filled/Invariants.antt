use Rattle.std.proofs.Common.{◌≡◌}
use Rattle.krl_script.specs.Transcripts.{filled}
use Rattle.krl_script.proofs.interpreter.filled.Given as goal

abbrev pub invariant-loop-key : goal.invariant-loop-key
invariant-loop-key l = l.entries.items ≡ filled l.key
