use Rattle.std.proofs.Common.{◌≡◌, None}
use Rattle.krl_world.specs.Fields.{meaning}
use Rattle.krl_script.specs.Soundness.{first_unsound, numbers_below}
use Rattle.krl_script.proofs.soundness.least_unsound.Given as goal

abbrev pub invariant-points : goal.invariant-points
invariant-points l = first_unsound (meaning l.world) l.clients (numbers_below l.point) ≡ None
