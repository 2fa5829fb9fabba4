use Rattle.krl_durable.proofs.Names.{◌≡◌, ◌+◌, ℕ, ap, add-one, ◌∙◌, arith, IfOk-at_ok, low_of}
use Rattle.krl_modes.specs.Spans.{Bounds}
use Rattle.krl_durable.proofs.Slots.{entries_kept}
use Rattle.krl_durable.proofs.SlotLaws.{span_answered}
use Rattle.krl_durable.proofs.Runs.{before_end, low_cut, low_within}
use Rattle.krl_durable.proofs.Kept.{index_seen}
use Rattle.krl_durable.proofs.index.Index.span_of.Goals as goal

pub point_behind-low-requires : goal.point_behind-low-requires
point_behind-low-requires c = before_end c.args.slot c.self.inside.entries.list c.args.self.now.index c.find.result.before c.find.result.run.now c.self.invariant.sorted c.self.invariant.below (index_seen c.self.view_is) c.find.ensures.found

pub unwrap-requires : goal.unwrap-requires
unwrap-requires c = c.new.ensures.bounds.1 (omega (arith, c.point_behind-low.ensures, low_within c.args.slot c.self.inside.entries.list c.args.self.now.index c.find.result.before c.find.result.run.now c.self.invariant.sorted c.self.invariant.below (index_seen c.self.view_is) c.find.ensures.found), omega (arith, c.requires))

pub returns-clause-span : goal.returns-clause-span
returns-clause-span c =
    let low : c.point_behind-low.result ≡ low_of c.args.self.now.index c.args.slot = c.point_behind-low.ensures ∙ low_cut c.args.slot c.self.inside.entries.list c.args.self.now.index c.find.result.before c.find.result.run.now c.self.invariant.sorted c.self.invariant.below (index_seen c.self.view_is) c.find.ensures.found in
    IfOk-at_ok _ c.unwrap.ensures c.new.ensures.span
    ∙ ap (λ (n : ℕ). let s : Bounds = record { lo = n; hi = c.args.slot + 1 } in s) low
    ∙ ap (λ (n : ℕ). let s : Bounds = record { lo = low_of c.args.self.now.index c.args.slot; hi = n } in s) (add-one c.args.slot)

pub returns-clause-points : goal.returns-clause-points
returns-clause-points c =
    let low : c.point_behind-low.result ≡ low_of c.args.self.now.index c.args.slot = c.point_behind-low.ensures ∙ low_cut c.args.slot c.self.inside.entries.list c.args.self.now.index c.find.result.before c.find.result.run.now c.self.invariant.sorted c.self.invariant.below (index_seen c.self.view_is) c.find.ensures.found in
    let lo = ap (λ (s : Bounds). s.lo) (IfOk-at_ok _ c.unwrap.ensures c.new.ensures.span) in
    span_answered c.args.self.now.index c.self.inside.entries.list c.args.slot c.unwrap.result.lo (entries_kept c.self.inside.entries.list c.args.self.now.index c.self.invariant.sorted (index_seen c.self.view_is)) c.self.invariant.sorted (lo ∙ low) c.requires
