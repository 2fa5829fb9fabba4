use Rattle.krl_table.proofs.Names.{◌+◌, arith}
use Rattle.krl_table.proofs.Rows.Holds.{free_as_far, free_on, next_held, none_held}
use Rattle.krl_table.proofs.table.shown.next_held.Goals as goal

pub returns-then-holds : goal.returns-then-holds
returns-then-holds c = next_held c.args.rows.now.map c.args.client c.args.from c.loop-slot.at c.in-Some.slot c.loop-slot.invariant.0 c.loop-slot.invariant.1 c.in-Some.ensures (c.holds.ensures.held c.if-holds.true)

pub loop-slot-preserved : goal.loop-slot-preserved
loop-slot-preserved c =
    let t = c.args.rows.now.map in let client = c.args.client in let at = c.loop-slot.at in let s = c.in-Some.slot in
    let below = c.loop-slot.invariant.0 in let x = c.in-Some.ensures in let above = x.above in (
      omega (arith, below, above),
      free_on t client c.args.from at (s + 1) c.loop-slot.invariant.1 (free_as_far t client at s c.in-Some.ensures (c.holds.ensures.free c.if-holds.false)),
    )

pub returns : goal.returns
returns c = none_held c.args.rows.now.map c.args.client c.args.from c.loop-slot.at c.loop-slot.invariant.1 c.in_default.ensures
