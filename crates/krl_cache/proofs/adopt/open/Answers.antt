use Rattle.krl_cache.proofs.Marks.{undone}
use Rattle.krl_cache.proofs.adopt.open.Goals as goal

pub returns-in-Err-clause-err : goal.returns-in-Err-clause-err
returns-in-Err-clause-err c = undone c.args.starts.now c.add.new.starts c.add-2.new.starts c.undo.new.map c.args.lo c.in_ok-low.low c.in_ok-low.ensures.undo c.in-Err.ensures.err c.undo.ensures
