use Rattle.std.proofs.Common.{ℕ, sym, ◌∙◌}
use Rattle.krl_world.specs.States.{client_of}
use Rattle.krl_world.specs.Fields.{meaning}
use Rattle.krl_script.specs.Rests.{is_nothing, awaited_of}
use Rattle.krl_script.proofs.SoundnessLemmas.{all_none, all_more, all_fails}
use Rattle.krl_script.proofs.rest.nobody_waits.Goals as goal

pub clients-init : goal.clients-init
clients-init c = all_none (λ (d : ℕ). is_nothing (awaited_of (client_of (meaning c.args.world.now) d)))

pub returns-then-not-is_idle : goal.returns-then-not-is_idle
returns-then-not-is_idle c =
    sym (all_fails c.clients.client 4 (λ (d : ℕ). is_nothing (awaited_of (client_of (meaning c.args.world.now) d))) c.clients-test.true
    (sym c.is_idle.ensures ∙ c.if-not-is_idle.true))

pub clients-preserved : goal.clients-preserved
clients-preserved c =
    all_more c.clients.client (λ (d : ℕ). is_nothing (awaited_of (client_of (meaning c.args.world.now) d))) c.clients.invariant
    (sym c.is_idle.ensures ∙ c.if-not-is_idle.false)
