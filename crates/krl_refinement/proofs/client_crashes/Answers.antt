use Rattle.krl_refinement.proofs.Client.Simulation.{crash_shows}
use Rattle.krl_refinement.proofs.client_crashes.Goals as goal

pub returns : goal.returns
returns c = crash_shows
