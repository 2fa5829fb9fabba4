use Rattle.std.proofs.Common.{◌≡◌, ℕ, true}
use Rattle.krl_world.specs.States.{client_of}
use Rattle.krl_world.specs.Fields.{meaning}
use Rattle.krl_script.specs.Rests.{is_nothing, awaited_of}
use Rattle.krl_script.specs.Soundness.{all_below}
use Rattle.krl_script.proofs.rest.nobody_waits.Given as goal

abbrev pub invariant-clients : goal.invariant-clients
invariant-clients l = all_below l.client (λ (c : ℕ). is_nothing (awaited_of (client_of (meaning l.world) c))) ≡ true
