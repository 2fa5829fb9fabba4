use Rattle.krl_server.proofs.Outputs.Says.{all_said}
use Rattle.krl_server.proofs.laws.server_says.Goals as goal

pub returns : goal.returns
returns c = all_said
