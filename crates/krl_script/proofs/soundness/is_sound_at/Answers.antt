use Rattle.std.proofs.Common.{ℕ, sym, ◌∙◌}
use Rattle.krl_world.specs.Fields.{meaning}
use Rattle.krl_script.specs.Soundness.{are_compatible, all_below}
use Rattle.krl_script.proofs.SoundnessLemmas.{all_none, all_more, all_fails}
use Rattle.krl_script.proofs.soundness.is_sound_at.Goals as goal

pub clients-init : goal.clients-init
clients-init c = all_none (λ (d : ℕ). all_below d (are_compatible (meaning c.args.world.now) c.args.point d))

pub returns-then-not-is_compatible_below : goal.returns-then-not-is_compatible_below
returns-then-not-is_compatible_below c =
    sym (all_fails c.clients.client c.args.clients (λ (d : ℕ). all_below d (are_compatible (meaning c.args.world.now) c.args.point d)) c.clients-test.true
    (sym c.is_compatible_below.ensures ∙ c.if-not-is_compatible_below.true))

pub clients-preserved : goal.clients-preserved
clients-preserved c =
    all_more c.clients.client (λ (d : ℕ). all_below d (are_compatible (meaning c.args.world.now) c.args.point d)) c.clients.invariant
    (sym c.is_compatible_below.ensures ∙ c.if-not-is_compatible_below.false)
