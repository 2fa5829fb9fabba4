use Rattle.krl_cache.proofs.Names.{ℕ, ◌+◌, ◌∙◌, sym, arith, RangePart, at}
use Rattle.krl_cache.proofs.Rests.{range_is_next}
use Rattle.krl_cache.proofs.Scans.{walked_to, walk_on, next_head, next_none}
use Rattle.krl_cache.proofs.Walked.{gap_read}
use Rattle.krl_cache.proofs.walk.reads_gaps.Goals as goal

pub loop-next-init : goal.loop-next-init
loop-next-init c =
    let all = c.into_iter-next-iterator.ensures.into_iter_gives ∙ c.range-next-items.ensures.between tt in (
      c.args.lo,
      λ g. record {
        from = omega arith;
        below = c.requires;
        holds = c.part_at-part.ensures;
        known = λ q i. absurd (omega (arith, i.0, i.1));
      },
      range_is_next (c.args.lo + 1) c.args.hi c.args.starts.now.entries c.into_iter-next-iterator.result
          c.range-next-items.ensures.ordered all,
    )

pub loop-next-preserved : goal.loop-next-preserved
loop-next-preserved c =
    let f = at c.args.starts.now.entries in
    let p = c.loop-next.invariant.0 in
    let part = c.loop-next.part in
    let e : ℕ × RangePart = (c.in-Some.field-0-0.now, c.in-Some.next.now) in
    let first = next_head f (p + 1) c.args.hi c.loop-next.next-iterator c.next.new.self e c.loop-next.invariant.2
    c.in-Some.ensures.steps in
    let reads = sym c.if-not-reads_gap.ensures in (
      c.in-Some.field-0-0.now,
      λ g. walk_on f g c.args.lo c.args.hi p part e (c.loop-next.invariant.1 g) first.0
          (gap_read part g p c.in-Some.field-0-0.now reads),
      first.1,
    )

pub returns : goal.returns
returns c = λ reads g.
    let f = at c.args.starts.now.entries in
    let p = c.loop-next.invariant.0 in
    let part = c.loop-next.part in
    walked_to f g c.args.lo c.args.hi p c.args.hi part (c.loop-next.invariant.1 g)
    (next_none f (p + 1) c.args.hi c.loop-next.next-iterator c.loop-next.invariant.2 c.in-None.ensures.steps.0)
    (gap_read part g p c.args.hi (sym c.reads_gap-2.ensures ∙ reads))
