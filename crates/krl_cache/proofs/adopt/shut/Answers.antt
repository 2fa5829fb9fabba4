use Rattle.krl_cache.proofs.Plans.{both_shut}
use Rattle.krl_cache.proofs.adopt.shut.Goals as goal

pub returns : goal.returns
returns c first now can same = both_shut first now c.args.starts.now c.undo.new.map c.undo-2.new.map c.args.lo c.args.hi c.args.low c.args.high can same c.undo.ensures c.undo-2.ensures
