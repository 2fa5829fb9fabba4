use Rattle.std.proofs.Common.{rules, sym, ◌∙◌}
use Rattle.krl_world.specs.Fields.{meaning}
use Rattle.krl_script.specs.Soundness.{are_compatible}
use Rattle.krl_script.proofs.SoundnessLemmas.{all_none, all_more, all_fails, nothing_goes, goes_by}
use Rattle.krl_script.proofs.soundness.is_compatible_below.Goals as goal

pub returns-then-eq-2 : goal.returns-then-eq-2
returns-then-eq-2 c = sym (nothing_goes (meaning c.args.world.now) c.args.client c.args.client c.args.point c.held-range.result c.held-range.ensures (search rules) (search rules))

pub others-init : goal.others-init
others-init c = all_none (are_compatible (meaning c.args.world.now) c.args.point c.args.client)

pub returns-then-not-is_compatible : goal.returns-then-not-is_compatible
returns-then-not-is_compatible c =
    let w = meaning c.args.world.now in
    sym (all_fails c.others.other c.args.client (are_compatible w c.args.point c.args.client) c.others-test.true
    (sym (goes_by w c.args.client c.others.other c.args.point c.held-range.result c.is_compatible.result c.held-range.ensures c.is_compatible.ensures) ∙ c.if-not-is_compatible.true))

pub others-preserved : goal.others-preserved
others-preserved c =
    let w = meaning c.args.world.now in
    all_more c.others.other (are_compatible w c.args.point c.args.client) c.others.invariant
    (sym (goes_by w c.args.client c.others.other c.args.point c.held-range.result c.is_compatible.result c.held-range.ensures c.is_compatible.ensures) ∙ c.if-not-is_compatible.false)
