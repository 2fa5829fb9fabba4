use Rattle.std.proofs.Common.{◌≡◌, ◌++◌, take}
use Rattle.std.specs.List.{flat_map}
use Rattle.krl_text.specs.Printing.{applied_text}
use Rattle.krl_text.proofs.shown.push_writes.Given as goal

abbrev pub invariant-loop-write : goal.invariant-loop-write
invariant-loop-write l = l.line.bytes.items ≡ l.fn.line.bytes.items ++ flat_map applied_text (take l.write-index l.writes)
