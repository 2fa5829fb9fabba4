use Rattle.krl_machine.proofs.Runs.{restarts_hold}
use Rattle.krl_machine.proofs.restarts.Goals as goal

pub returns : goal.returns
returns c = restarts_hold
