use Rattle.krl_modes.specs.declared.point.TheConstants.{END}
use Rattle.krl_machine.proofs.Runs.{always_compatible}
use Rattle.krl_machine.proofs.compatible_at_end.Goals as goal

pub returns : goal.returns
returns c index = always_compatible index END
