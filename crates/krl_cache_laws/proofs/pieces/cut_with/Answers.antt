use Rattle.std.proofs.Common.{◌∷◌, [], refl, ◌∙◌}
use Rattle.krl_modes.specs.declared.point.TheConstants.{TOP}
use Rattle.krl_modes.specs.Spans.{contains}
use Rattle.krl_modes.specs.declared.part.RangePart.TheVariants as range
use Rattle.krl_cache.specs.Kept.{first_range_at}
use Rattle.krl_cache.proofs.Calls.{is_span_by}
use Rattle.krl_cache_laws.proofs.Clipped.{placed, own_stands, twice}
use Rattle.krl_cache_laws.proofs.pieces.cut_with.Goals as goal

pub returns : goal.returns
returns c =
    let bounds = c.lo-lo.ensures.bounds in
    let own = record { span = c.args.span; part = c.args.part } ∷ [] in
    let h = placed c.args.span TOP c.args.pieces.now own c.new-list.result.items c.add_pieces.new.list.items c.push.new.self.items c.add_pieces-2.new.list.items c.lo-lo.result c.hi-hi.result c.requires (own_stands c.args.span c.args.part bounds.0) bounds.0 bounds.1 c.lo-lo.ensures.end c.hi-hi.ensures.end c.new-list.ensures.items c.in_ok-add_pieces.ensures c.in_ok-push.ensures.items c.in_ok-add_pieces-2.ensures in
    record { span = is_span_by c.args.span bounds.0 bounds.1; stand = h.stand; said = λ p. h.said p ∙ twice (contains c.args.span p) (first_range_at own p) c.args.part range.N (first_range_at c.args.pieces.now p) refl }
