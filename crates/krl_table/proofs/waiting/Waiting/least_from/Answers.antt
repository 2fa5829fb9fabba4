use Rattle.krl_table.proofs.Names.{None, arith, get_or_default}
use Rattle.krl_table.proofs.Rows.NextWaiting.{none_least, next_least, all_least}
use Rattle.krl_table.proofs.waiting.Waiting.least_from.Goals as goal

pub loop-waiter-init : goal.loop-waiter-init
loop-waiter-init c = none_least c.args.self.now.by_client c.args.low

pub loop-waiter-preserved : goal.loop-waiter-preserved
loop-waiter-preserved c = let w = c.args.self.now.by_client in let k = c.loop-waiter.waiter-index in let full = c.type_inv.waiter-items in let lt = c.loop-waiter-test.true in
    next_least w c.args.low k c.loop-waiter.least c.loop-waiter.invariant _ (get_or_default w k _ None (omega (arith, full, lt))) c.lesser-least.result c.lesser-least.ensures

pub returns : goal.returns
returns c = all_least c.args.self.now.by_client c.args.low c.loop-waiter.waiter-index c.loop-waiter.least c.loop-waiter-test.false c.loop-waiter.invariant
