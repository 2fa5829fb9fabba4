use Rattle.std.proofs.Common.{◌∙◌}
use Rattle.std.specs.List.{filter_map}
use Rattle.krl_modes.specs.declared.point.TheConstants.{TOP}
use Rattle.krl_modes.specs.Spans.{contains}
use Rattle.krl_modes.specs.Parts.{range_meet}
use Rattle.krl_modes.specs.declared.part.RangePart.TheVariants as range
use Rattle.krl_cache.specs.Kept.{first_range_at}
use Rattle.krl_cache_laws.specs.Lists.{clip}
use Rattle.krl_cache_laws.proofs.Clipped.{placed, mid_stands, mid_says, twice}
use Rattle.krl_cache_laws.proofs.pieces.cut_lowered.Goals as goal

pub returns : goal.returns
returns c =
    let s = c.args.span in
    let xs = c.args.pieces.now in
    let lo = c.lo-lo.result in
    let hi = c.hi-hi.result in
    let bounds = c.lo-lo.ensures.bounds in
    let mid = filter_map (clip lo hi c.args.keep) xs in
    let h = placed s TOP xs mid c.new-list.result.items c.add_pieces.new.list.items c.add_pieces-2.new.list.items c.add_pieces-3.new.list.items lo hi c.requires (mid_stands s c.args.keep TOP xs lo hi c.requires bounds.0 c.lo-lo.ensures.end c.hi-hi.ensures.end) bounds.0 bounds.1 c.lo-lo.ensures.end c.hi-hi.ensures.end c.new-list.ensures.items c.in_ok-add_pieces.ensures c.in_ok-add_pieces-2.ensures c.in_ok-add_pieces-3.ensures in
    record { stand = h.stand; said = λ p. h.said p ∙ twice (contains s p) (first_range_at mid p) (range_meet (first_range_at xs p) c.args.keep) range.N (first_range_at xs p) (mid_says s c.args.keep xs lo hi p c.lo-lo.ensures.end c.hi-hi.ensures.end) }
