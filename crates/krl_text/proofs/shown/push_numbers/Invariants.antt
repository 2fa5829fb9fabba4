use Rattle.std.proofs.Common.{◌≡◌, ◌++◌, take}
use Rattle.std.specs.List.{flat_map}
use Rattle.krl_text.specs.Printing.{number_text}
use Rattle.krl_text.proofs.shown.push_numbers.Given as goal

abbrev pub invariant-loop-number : goal.invariant-loop-number
invariant-loop-number l = l.line.bytes.items ≡ l.fn.line.bytes.items ++ flat_map number_text (take l.number-index l.numbers)
