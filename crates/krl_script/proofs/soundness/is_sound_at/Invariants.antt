use Rattle.std.proofs.Common.{◌≡◌, true}
use Rattle.krl_world.specs.Fields.{meaning}
use Rattle.krl_script.specs.Soundness.{is_sound_at}
use Rattle.krl_script.proofs.soundness.is_sound_at.Given as goal

abbrev pub invariant-clients : goal.invariant-clients
invariant-clients l = is_sound_at (meaning l.world) l.client l.point ≡ true
