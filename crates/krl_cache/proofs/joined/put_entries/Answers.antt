use Rattle.krl_cache.proofs.Names.{◌∙◌, at}
use Rattle.krl_cache.proofs.Rooms.{entries_same}
use Rattle.krl_cache.proofs.Beside.{joined_spans}
use Rattle.krl_cache.proofs.joined.put_entries.Goals as goal

pub set_all-requires-clause-spans : goal.set_all-requires-clause-spans
set_all-requires-clause-spans c = joined_spans c.args.holdings.now c.args.lo c.args.hi c.args.part c.requires.joined

pub returns-clause-ok : goal.returns-clause-ok
returns-clause-ok c p =
    let hs = c.args.holdings.now in
    let d = at c.args.entries.now.entries in
    let e = at c.hold_all.new.entries.entries in
    c.set_all.ensures p
    ∙ entries_same hs (joined_spans hs c.args.lo c.args.hi c.args.part c.requires.joined) p (e p) (d p) (c.in_ok-hold_all.ensures.held.entries p)
