use Rattle.std.proofs.Common.{◌+◌, sym, subst}
use Rattle.krl_table.proofs.Rows.Holds.{AreCounted, all_counted, one_counted, none_more}
use Rattle.krl_table.proofs.table.shown.count_held.Goals as goal
use Rattle.krl_table.proofs.table.shown.count_held.Goals.{then-holds, else-holds}

pub loop-slot-preserved : goal.loop-slot-preserved
loop-slot-preserved c =
    let t = c.args.rows.now.map in let client = c.args.client in let s = c.in-Some.slot in
    let at = c.loop-slot.at in let count = c.loop-slot.count in let h = c.loop-slot.invariant in
    elim c.if-holds.branch [
      | then-holds w ↦ subst (AreCounted t client (s + 1)) (sym w.count-is) (one_counted t client at count h s c.in-Some.ensures (c.holds.ensures.held w.if-holds.true))
      | else-holds w ↦ subst (AreCounted t client (s + 1)) (sym w.count-is) (none_more t client at count h s c.in-Some.ensures (c.holds.ensures.free w.if-holds.false))
    ]

pub returns : goal.returns
returns c = all_counted c.args.rows.now.map c.args.client c.loop-slot.at c.loop-slot.count c.loop-slot.invariant c.in_default.ensures
