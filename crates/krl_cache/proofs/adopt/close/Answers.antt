use Rattle.krl_cache.specs.Maps.{at}
use Rattle.krl_cache.proofs.Plans.{closed}
use Rattle.krl_cache.proofs.adopt.close.Goals as goal

pub returns : goal.returns
returns c = closed (at c.args.starts.now.entries) (at c.clear_any.new.map.entries) (at c.settle.new.starts.entries) (at c.settle-2.new.starts.entries) c.args.lo c.args.hi c.args.plan c.requires.span c.clear_any.ensures c.settle.ensures c.settle-2.ensures
