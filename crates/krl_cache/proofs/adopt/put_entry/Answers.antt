use Rattle.krl_cache.proofs.Names.{entry_of, at}
use Rattle.krl_cache.proofs.Plans.{entries_put}
use Rattle.krl_cache.proofs.adopt.put_entry.Goals as goal

pub returns-clause-ok : goal.returns-clause-ok
returns-clause-ok c = entries_put (at c.args.entries.now.entries) (at c.put_last.new.entries.entries) (at c.clear_any.new.map.entries) c.args.lo c.args.hi (entry_of c.args.own.part c.args.own.value) c.requires c.in_ok-put_last.ensures.ok c.clear_any.ensures
