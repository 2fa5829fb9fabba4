use Rattle.krl_durable.proofs.Names.{◌≡◌, ◌+◌, ℕ, ap, add-one, ◌∙◌, arith, IfOk-at_ok, low_of}
use Rattle.krl_modes.specs.Spans.{Bounds}
use Rattle.krl_durable.proofs.Runs.{before_end, low_cut, low_within, get_is, sorted_rise}
use Rattle.krl_durable.proofs.Kept.{index_seen}
use Rattle.krl_durable.proofs.index.Index.entry_by.Goals as goal

pub point_behind-low-requires : goal.point_behind-low-requires
point_behind-low-requires c = before_end c.args.slot c.self.inside.entries.list c.args.self.now.index c.find_by-found.result.before c.find_by-found.result.run.now c.self.invariant.sorted c.self.invariant.below (index_seen c.self.view_is) c.find_by-found.ensures.found

pub unwrap-span-requires : goal.unwrap-span-requires
unwrap-span-requires c = c.new.ensures.bounds.1 (omega (arith, c.point_behind-low.ensures, low_within c.args.slot c.self.inside.entries.list c.args.self.now.index c.find_by-found.result.before c.find_by-found.result.run.now c.self.invariant.sorted c.self.invariant.below (index_seen c.self.view_is) c.find_by-found.ensures.found), omega (arith, c.requires))

pub returns-clause-span : goal.returns-clause-span
returns-clause-span c =
    let low : c.point_behind-low.result ≡ low_of c.args.self.now.index c.args.slot = c.point_behind-low.ensures ∙ low_cut c.args.slot c.self.inside.entries.list c.args.self.now.index c.find_by-found.result.before c.find_by-found.result.run.now c.self.invariant.sorted c.self.invariant.below (index_seen c.self.view_is) c.find_by-found.ensures.found in
    IfOk-at_ok _ c.unwrap-span.ensures c.new.ensures.span
    ∙ ap (λ (n : ℕ). let s : Bounds = record { lo = n; hi = c.args.slot + 1 } in s) low
    ∙ ap (λ (n : ℕ). let s : Bounds = record { lo = low_of c.args.self.now.index c.args.slot; hi = n } in s) (add-one c.args.slot)

pub returns-clause-value : goal.returns-clause-value
returns-clause-value c =
    get_is c.args.slot c.self.inside.entries.list c.args.self.now.index c.value_of.result c.self.invariant.sorted (index_seen c.self.view_is)
    (c.value_of.ensures c.self.inside.entries.list c.find_by-found.ensures.rises c.find_by-found.ensures.found)
