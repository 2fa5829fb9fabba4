use Rattle.std.proofs.Common.{◌≡◌, ◌++◌, take}
use Rattle.std.specs.List.{flat_map}
use Rattle.krl_wire.specs.Spelling.{holding}
use Rattle.krl_wire.proofs.put_fields.put_each.Given as goal

abbrev pub invariant-loop-holding : goal.invariant-loop-holding
invariant-loop-holding l = l.out.items ≡ l.fn.out.items ++ flat_map holding (take l.holding-index l.holdings)
