use Rattle.krl_server.proofs.Outputs.Numbers.{all_end}
use Rattle.krl_server.proofs.laws.steps_end.Goals as goal

pub returns : goal.returns
returns c = all_end
