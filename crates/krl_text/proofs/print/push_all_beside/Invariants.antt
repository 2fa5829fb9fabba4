use Rattle.std.proofs.Common.{◌≡◌, ◌++◌, take}
use Rattle.std.specs.List.{flat_map}
use Rattle.krl_text.specs.Printing.{beside_text}
use Rattle.krl_text.proofs.print.push_all_beside.Given as goal

abbrev pub invariant-loop-other : goal.invariant-loop-other
invariant-loop-other l = l.line.bytes.items ≡ l.fn.line.bytes.items ++ flat_map (beside_text l.mode) (take l.other-index l.others)
