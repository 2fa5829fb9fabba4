use Rattle.krl_cache.proofs.Names.{◌-◌, ap, at, entry_of}
use Rattle.krl_cache.proofs.Marks.{undone}
use Rattle.krl_cache.proofs.Beside.{last_free, put_step}
use Rattle.krl_cache.proofs.joined.+put_all.Goals as goal

pub put_own-requires : goal.put_own-requires
put_own-requires t c = last_free c.args.holdings.now c.in-Some.holding.now c.in-Some.rest.now c.args.lo c.args.hi c.hi-next.result c.args.part (at c.args.entries.now.entries) c.in-Some.ensures.cases.0 c.hi-next.ensures.end c.requires.joined c.requires.free

pub returns-in-Err-clause-err : goal.returns-in-Err-clause-err
returns-in-Err-clause-err t c = undone c.args.entries.now c.put_own.new.entries c.put_all.new.entries c.undo.new.map (c.hi-next.result - 1) c.in_ok-fresh.fresh c.in_ok-fresh.ensures.undo c.in-Err.ensures.err c.undo.ensures

pub returns-clause-ok : goal.returns-clause-ok
returns-clause-ok t c =
    let h = c.in-Some.holding.now in
    put_step c.args.holdings.now h c.in-Some.rest.now c.args.lo c.args.hi c.hi-next.result c.args.part (at c.args.entries.now.entries) c.in-Some.ensures.cases.0 c.hi-next.ensures.end c.requires.joined c.requires.free
    (at c.put_own.new.entries.entries) (entry_of c.parts-read.result.1 h.value) c.in_ok-fresh.ensures.put
    (ap (λ k. entry_of k h.value) (ap (λ x. x.1) c.parts-read.ensures.parts))
    (at c.put_all.new.entries.entries) c.in_default-put_all.ensures.ok
