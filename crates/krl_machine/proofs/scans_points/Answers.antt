use Rattle.krl_machine.proofs.Runs.{scans_are_index}
use Rattle.krl_machine.proofs.scans_points.Goals as goal

pub returns : goal.returns
returns c = scans_are_index
