use Rattle.std.proofs.Common.{◌≡◌, map, ◌++◌, take, drop}
use Rattle.krl_lease_table.specs.Flat.{row_of}
use Rattle.krl_lease_table.specs.Rows as rows
use Rattle.krl_lease_table.proofs.each.open_rows.Given as goal

abbrev pub invariant-loop-i : goal.invariant-loop-i
invariant-loop-i l =
    map row_of l.each ≡ map (rows.opened l.longest l.terms l.now) (take l.i (map row_of l.initial.each))
    ++ drop l.i (map row_of l.initial.each)
