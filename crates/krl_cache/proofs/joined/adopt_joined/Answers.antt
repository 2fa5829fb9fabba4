use Rattle.krl_cache.proofs.Names.{refl, sym, ◌∙◌, at, part_at}
use Rattle.krl_cache.proofs.Plans.{adopts_made, adopted_parts, adopted_merged, adopted_ends}
use Rattle.krl_cache.proofs.Beside.{joined_below, joined_spans, joined_parts}
use Rattle.krl_cache.proofs.joined.adopt_joined.Goals as goal

pub returns-in-Err-clause-starts_stay : goal.returns-in-Err-clause-starts_stay
returns-in-Err-clause-starts_stay c = c.shut.ensures c.args.starts.now c.open.new.starts c.in_ok-low.ensures.undo refl

pub returns-clause-parts : goal.returns-clause-parts
returns-clause-parts c p =
    let f = at c.args.starts.now.entries in
    let k = at c.close.new.starts.entries in
    let a = adopts_made f (at c.open.new.starts.entries) k c.args.lo c.args.hi c.args.part c.plan_of-plan.result c.requires.some c.plan_of-plan.ensures c.in_ok-low.ensures.opened c.close.ensures in
    adopted_parts f k c.args.lo c.args.hi c.args.part a p
    ∙ sym (joined_parts c.args.holdings.now c.args.lo c.args.hi c.args.part p (part_at f p) c.requires.joined)

pub returns-clause-starts : goal.returns-clause-starts
returns-clause-starts c =
    let f = at c.args.starts.now.entries in
    let k = at c.close.new.starts.entries in
    let a = adopts_made f (at c.open.new.starts.entries) k c.args.lo c.args.hi c.args.part c.plan_of-plan.result c.requires.some c.plan_of-plan.ensures c.in_ok-low.ensures.opened c.close.ensures in
    adopted_ends f k c.args.lo c.args.hi c.args.part a (joined_below c.args.holdings.now c.args.lo c.args.hi c.args.part c.requires.some c.requires.joined)

pub returns-clause-merged : goal.returns-clause-merged
returns-clause-merged c merged =
    let f = at c.args.starts.now.entries in
    let k = at c.close.new.starts.entries in
    let a = adopts_made f (at c.open.new.starts.entries) k c.args.lo c.args.hi c.args.part c.plan_of-plan.result c.requires.some c.plan_of-plan.ensures c.in_ok-low.ensures.opened c.close.ensures in
    adopted_merged f k c.args.lo c.args.hi c.args.part a merged

pub returns-clause-spans : goal.returns-clause-spans
returns-clause-spans c = joined_spans c.args.holdings.now c.args.lo c.args.hi c.args.part c.requires.joined
