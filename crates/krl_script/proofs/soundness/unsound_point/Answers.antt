use Rattle.std.proofs.Common.{ℕ, ◌-◌, not, sym, ◌∙◌}
use Rattle.krl_modes.specs.declared.point.TheConstants.{END}
use Rattle.krl_world.specs.Fields.{meaning}
use Rattle.krl_script.specs.Soundness.{is_sound_at, numbers_below, unsound_point}
use Rattle.krl_script.proofs.SoundnessLemmas.{found_before, found_next, found_last, found_nowhere, is_false, is_true}
use Rattle.krl_script.proofs.soundness.unsound_point.Goals as goal

pub returns-then-is_some : goal.returns-then-is_some
unfolding unsound_point
returns-then-is_some c =
    found_before (λ (p : ℕ). not (is_sound_at (meaning c.args.world.now) 64 p)) (numbers_below 64) _ c.least_unsound-below.result c.least_unsound-below.ensures (sym c.is_some.ensures ∙ c.if-is_some.true)

pub returns-then-not-is_sound_at : goal.returns-then-not-is_sound_at
unfolding unsound_point
returns-then-not-is_sound_at c =
    let w = meaning c.args.world.now in
    found_next (λ (p : ℕ). not (is_sound_at w 64 p)) (numbers_below 64) (END - 1) END c.least_unsound-below.result c.least_unsound-below.ensures (sym c.is_some.ensures ∙ c.if-is_some.false)
    (is_false c.is_sound_at.result (is_sound_at w 64 (END - 1)) c.is_sound_at.ensures c.if-not-is_sound_at.true)

pub returns-then-not-is_sound_at-2 : goal.returns-then-not-is_sound_at-2
unfolding unsound_point
returns-then-not-is_sound_at-2 c =
    let w = meaning c.args.world.now in
    found_last (λ (p : ℕ). not (is_sound_at w 64 p)) (numbers_below 64) (END - 1) END c.least_unsound-below.result c.least_unsound-below.ensures (sym c.is_some.ensures ∙ c.if-is_some.false)
    (is_true c.is_sound_at.result (is_sound_at w 64 (END - 1)) c.is_sound_at.ensures c.if-not-is_sound_at.false)
    (is_false c.is_sound_at-2.result (is_sound_at w 64 END) c.is_sound_at-2.ensures c.if-not-is_sound_at-2.true)

pub returns : goal.returns
unfolding unsound_point
returns c =
    let w = meaning c.args.world.now in
    found_nowhere (λ (p : ℕ). not (is_sound_at w 64 p)) (numbers_below 64) (END - 1) END c.least_unsound-below.result c.least_unsound-below.ensures (sym c.is_some.ensures ∙ c.if-is_some.false)
    (is_true c.is_sound_at.result (is_sound_at w 64 (END - 1)) c.is_sound_at.ensures c.if-not-is_sound_at.false)
    (is_true c.is_sound_at-2.result (is_sound_at w 64 END) c.is_sound_at-2.ensures c.if-not-is_sound_at-2.false)
