use Rattle.krl_cache.proofs.Rooms.{both_undone}
use Rattle.krl_cache.proofs.several.unmark.Goals as goal

pub returns : goal.returns
returns c first now can same = both_undone first now c.args.starts.now c.undo.new.map c.undo-2.new.map c.args.lo c.args.hi c.args.low c.args.high can same c.undo.ensures c.undo-2.ensures
