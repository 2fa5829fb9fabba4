use Rattle.krl_refinement.proofs.Client.Simulation.{start_shows}
use Rattle.krl_refinement.proofs.client_starts.Goals as goal

pub returns : goal.returns
returns c = start_shows
