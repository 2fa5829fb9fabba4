use Rattle.std.proofs.Common.{◌≡◌, ◌++◌, take}
use Rattle.std.specs.List.{flat_map}
use Rattle.krl_text.specs.Printing.{row_text}
use Rattle.krl_text.proofs.print.push_rows.Given as goal

abbrev pub invariant-loop-key : goal.invariant-loop-key
invariant-loop-key l = l.line.bytes.items ≡ l.fn.line.bytes.items ++ flat_map row_text (take l.key-index l.rows)
