use Rattle.std.proofs.Common.{◌-◌}
use Rattle.krl_cache.proofs.Marks.{undone}
use Rattle.krl_cache.proofs.joined.+hold_all.Goals as goal

pub returns-in-Err-clause-err : goal.returns-in-Err-clause-err
returns-in-Err-clause-err t c = undone c.args.entries.now c.hold.new.entries c.hold_all.new.entries c.undo.new.map (c.hi-last.result - 1) c.in_ok-fresh.fresh c.in_ok-fresh.ensures.undo c.in-Err.ensures.err c.undo.ensures
