use Rattle.krl_server.proofs.Invariant.Within.{all_within}
use Rattle.krl_server.proofs.laws.server_within.Goals as goal

pub returns : goal.returns
returns c = all_within
