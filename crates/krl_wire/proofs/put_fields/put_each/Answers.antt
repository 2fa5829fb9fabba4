use Rattle.krl_wire.specs.Spelling.{holding}
use Rattle.krl_wire.proofs.Putting.{one_more}
use Rattle.krl_wire.proofs.put_fields.put_each.Goals as goal

pub loop-holding-preserved : goal.loop-holding-preserved
loop-holding-preserved c =
    one_more holding c.args.holdings.now c.loop-holding.holding-index c.holding-item.result c.args.out.now.items
    c.loop-holding.out.items c.put_holding.new.out.items c.loop-holding-test.true c.holding-item.is
    c.loop-holding.invariant c.in_ok-put_holding.ensures
