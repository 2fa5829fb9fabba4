use Rattle.std.proofs.Common.{◌≡◌, ◌++◌, take}
use Rattle.std.specs.List.{flat_map}
use Rattle.krl_blocks.specs.Laid.{flat}
use Rattle.krl_blocks.specs.Runs.{runs_of}
use Rattle.krl_text.specs.Printing.{row_text}
use Rattle.krl_text.proofs.shown.push_entries.Given as goal

abbrev pub invariant-loop-i : goal.invariant-loop-i
invariant-loop-i l = l.line.bytes.items ≡ l.fn.line.bytes.items ++ flat_map row_text (flat (take l.i (runs_of l.entries)))
