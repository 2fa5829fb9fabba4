use Rattle.krl_cache.proofs.Names.{ℕ, ◌<◌, cond, refl, ap, ◌∙◌, arith, RangePart, lies_in, at, part_at}
use Rattle.krl_cache.proofs.Plans.{adopts_made, adopted_parts, adopted_merged}
use Rattle.krl_cache.proofs.adopt.adopt.Goals as goal

pub returns-in-Err-clause-starts_stay : goal.returns-in-Err-clause-starts_stay
returns-in-Err-clause-starts_stay c = c.shut.ensures c.args.starts.now c.open.new.starts c.in_ok-low.ensures.undo refl

pub returns-clause-parts : goal.returns-clause-parts
returns-clause-parts c =
    let s = c.args.holding.span in
    let f = at c.args.starts.now.entries in
    let k = at c.close.new.starts.entries in
    let lo = c.lo-lo.result in
    let hi = c.hi-hi.result in
    let part = c.parts-range.result.0 in
    let l : lo < hi = omega (arith, c.lo-lo.ensures.bounds.0, c.lo-lo.ensures.end, c.hi-hi.ensures.end) in
    let a = adopts_made f (at c.open.new.starts.entries) k lo hi part c.plan_of-plan.result l c.plan_of-plan.ensures c.in_ok-low.ensures.opened c.close.ensures in
    λ p. adopted_parts f k lo hi part a p
    ∙ ap (λ (n : ℕ). cond (lies_in n hi p) part (part_at f p)) c.lo-lo.ensures.end
    ∙ ap (λ (n : ℕ). cond (lies_in s.lo n p) part (part_at f p)) c.hi-hi.ensures.end
    ∙ ap (λ (r : RangePart). cond (lies_in s.lo s.hi p) r (part_at f p)) (ap (λ x. x.0) c.parts-range.ensures.parts)

pub returns-clause-merged : goal.returns-clause-merged
returns-clause-merged c merged =
    let f = at c.args.starts.now.entries in
    let k = at c.close.new.starts.entries in
    let lo = c.lo-lo.result in
    let hi = c.hi-hi.result in
    let part = c.parts-range.result.0 in
    let l : lo < hi = omega (arith, c.lo-lo.ensures.bounds.0, c.lo-lo.ensures.end, c.hi-hi.ensures.end) in
    let a = adopts_made f (at c.open.new.starts.entries) k lo hi part c.plan_of-plan.result l c.plan_of-plan.ensures c.in_ok-low.ensures.opened c.close.ensures in
    adopted_merged f k lo hi part a merged
