use Rattle.std.proofs.Common.{◌≡◌, true}
use Rattle.krl_world.specs.Fields.{meaning}
use Rattle.krl_script.specs.Soundness.{are_compatible, all_below}
use Rattle.krl_script.proofs.soundness.is_compatible_below.Given as goal

abbrev pub invariant-others : goal.invariant-others
invariant-others l = all_below l.other (are_compatible (meaning l.world) l.point l.client) ≡ true
