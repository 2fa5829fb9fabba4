use Rattle.krl_cache.proofs.Names.{refl, at, part_at}
use Rattle.krl_cache.proofs.Marks.{restored, has_ends}
use Rattle.krl_cache.proofs.several.mark.Goals as goal

pub returns-in-Err-clause-err : goal.returns-in-Err-clause-err
returns-in-Err-clause-err c = restored c.args.starts.now c.mark_at.new.starts c.mark_at-2.new.starts c.undo.new.map c.args.hi (part_at (at c.args.starts.now.entries) c.args.hi) c.in_ok-high.high c.in_ok-high.ensures.placed c.in-Err.ensures.err c.undo.ensures

pub returns-in-Ok-clause-ok : goal.returns-in-Ok-clause-ok
returns-in-Ok-clause-ok c = has_ends c.args.starts.now c.mark_at.new.starts c.mark_at-2.new.starts c.args.lo c.args.hi (part_at (at c.args.starts.now.entries) c.args.hi) (part_at (at c.mark_at.new.starts.entries) c.args.lo) c.in_ok-high.high c.in-Ok.low refl refl c.in_ok-high.ensures.placed c.in-Ok.ensures.placed
