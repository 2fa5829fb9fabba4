use Rattle.std.proofs.Common.{◌≡◌, take, map}
use Rattle.std.specs.List.{AllByRecursion}
use Rattle.krl_embed.specs.Rows.{entry_of, HasValue}
use Rattle.krl_embed.proofs.rows.entries_of.Given as goal

abbrev pub invariant-loop-i : goal.invariant-loop-i
invariant-loop-i l = record {
  entries : l.entries.items ≡ map entry_of (take l.i l.rows);
  fit : AllByRecursion HasValue (take l.i l.rows);
}
