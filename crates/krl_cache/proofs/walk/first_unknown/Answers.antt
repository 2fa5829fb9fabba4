use Rattle.krl_cache.proofs.Names.{◌+◌, ◌∙◌, arith, at, left_of}
use Rattle.krl_cache.proofs.Rests.{range_is_next}
use Rattle.krl_cache.proofs.Scans.{gap_found, walk_on, walk_ends, next_head, next_none}
use Rattle.krl_cache.proofs.walk.first_unknown.Goals as goal

pub loop-start-init : goal.loop-start-init
loop-start-init c = record {
  walked = record { from = omega arith; below = c.requires; holds = c.part_at-part.ensures; known = λ q i. absurd (omega (arith, i.0, i.1)) };
  next = range_is_next (c.args.lo + 1) c.args.hi c.args.starts.now.entries c.into_iter-start-iterator.result c.range-start-items.ensures.ordered (c.into_iter-start-iterator.ensures.into_iter_gives ∙ c.range-start-items.ensures.between tt);
  left = c.left_between-left.ensures;
}

pub returns-in-Some-first_gap : goal.returns-in-Some-first_gap
returns-in-Some-first_gap c =
    let f = at c.args.starts.now.entries in
    let g = at c.args.entries.now.entries in
    let first = next_head f (c.loop-start.p + 1) c.args.hi c.loop-start.start-iterator c.next.new.self (c.in-Some.start.now, c.in-Some.next.now) c.loop-start.invariant.next c.in-Some.ensures.steps in
    gap_found f g c.args.lo c.args.hi c.loop-start.p c.in-Some.start.now c.in-Some-first_gap.gap c.loop-start.part c.loop-start.invariant.walked first.0.free (omega (arith, first.0.below)) (c.in-Some-first_gap.ensures g c.args.hi (omega (arith, first.0.below)) c.loop-start.invariant.left)

pub loop-start-preserved : goal.loop-start-preserved
loop-start-preserved c =
    let f = at c.args.starts.now.entries in
    let g = at c.args.entries.now.entries in
    let first = next_head f (c.loop-start.p + 1) c.args.hi c.loop-start.start-iterator c.next.new.self (c.in-Some.start.now, c.in-Some.next.now) c.loop-start.invariant.next c.in-Some.ensures.steps in
    let walk = c.in_default.ensures g c.args.hi (omega (arith, first.0.below)) c.loop-start.invariant.left in
    record {
      walked = walk_on f g c.args.lo c.args.hi c.loop-start.p c.loop-start.part (c.in-Some.start.now, c.in-Some.next.now) c.loop-start.invariant.walked first.0 walk.0;
      next = first.1;
      left = walk.1;
    }

pub returns : goal.returns
returns c =
    let f = at c.args.starts.now.entries in
    let g = at c.args.entries.now.entries in
    walk_ends f g c.args.lo c.args.hi c.loop-start.p c.loop-start.part (left_of c.first_gap-2.new.left) c.first_gap-2.result c.loop-start.invariant.walked
    (next_none f (c.loop-start.p + 1) c.args.hi c.loop-start.start-iterator c.loop-start.invariant.next c.in-None.ensures.steps.0) (c.first_gap-2.ensures g c.args.hi (omega arith) c.loop-start.invariant.left)
