use Rattle.std.proofs.Common.{◌≡◌, ◌++◌, take}
use Rattle.std.specs.List.{flat_map}
use Rattle.krl_text.specs.Printing.{compatible_line}
use Rattle.krl_text.proofs.print.push_all_compatible.Given as goal

abbrev pub invariant-loop-mode : goal.invariant-loop-mode
invariant-loop-mode l = l.lines.bytes.items ≡ l.fn.lines.bytes.items ++ flat_map compatible_line (take l.mode-index l.modes)
