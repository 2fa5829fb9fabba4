use Rattle.krl_refinement.proofs.Client.Simulation.{messages_show}
use Rattle.krl_refinement.proofs.client_messages.Goals as goal

pub returns : goal.returns
returns c = messages_show
