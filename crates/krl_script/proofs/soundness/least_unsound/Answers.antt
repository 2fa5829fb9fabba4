use Rattle.std.proofs.Common.{ℕ, sym, not}
use Rattle.krl_world.specs.Fields.{meaning}
use Rattle.krl_script.specs.Soundness.{is_sound_at}
use Rattle.krl_script.proofs.SoundnessLemmas.{none_first, none_more, found_here, is_false, is_true}
use Rattle.krl_script.proofs.soundness.least_unsound.Goals as goal

pub points-init : goal.points-init
points-init c = none_first (λ (p : ℕ). not (is_sound_at (meaning c.args.world.now) c.args.clients p))

pub returns-then-not-is_sound_at : goal.returns-then-not-is_sound_at
returns-then-not-is_sound_at c =
    let w = meaning c.args.world.now in
    sym (found_here c.points.point c.args.below (λ (p : ℕ). not (is_sound_at w c.args.clients p)) c.points-test.true c.points.invariant
    (is_false c.is_sound_at.result (is_sound_at w c.args.clients c.points.point) c.is_sound_at.ensures c.if-not-is_sound_at.true))

pub points-preserved : goal.points-preserved
points-preserved c =
    let w = meaning c.args.world.now in
    none_more c.points.point (λ (p : ℕ). not (is_sound_at w c.args.clients p)) c.points.invariant
    (is_true c.is_sound_at.result (is_sound_at w c.args.clients c.points.point) c.is_sound_at.ensures c.if-not-is_sound_at.false)
