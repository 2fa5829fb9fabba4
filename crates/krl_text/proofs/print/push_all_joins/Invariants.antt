use Rattle.std.proofs.Common.{◌≡◌, ◌++◌, take}
use Rattle.std.specs.List.{flat_map}
use Rattle.krl_text.specs.Printing.{join_line}
use Rattle.krl_text.proofs.print.push_all_joins.Given as goal

abbrev pub invariant-loop-first : goal.invariant-loop-first
invariant-loop-first l = l.lines.bytes.items ≡ l.fn.lines.bytes.items ++ flat_map join_line (take l.first-index l.pairs)
