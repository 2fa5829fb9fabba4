use Rattle.krl_machine.proofs.Runs.{scans_are_range}
use Rattle.krl_machine.proofs.scans.Goals as goal

pub returns : goal.returns
returns c = scans_are_range
