use Rattle.krl_refinement.proofs.Client.Simulation.{commands_show}
use Rattle.krl_refinement.proofs.client_commands.Goals as goal

pub returns : goal.returns
returns c = commands_show
