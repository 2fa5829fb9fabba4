use Rattle.krl_refinement.proofs.Client.Simulation.{ticks_show_all}
use Rattle.krl_refinement.proofs.client_ticks.Goals as goal

pub returns : goal.returns
returns c = ticks_show_all
