use Rattle.krl_server.proofs.Invariant.Kept.{server_keeps}
use Rattle.krl_server.proofs.laws.server_keeps.Goals as goal

pub returns : goal.returns
returns c = server_keeps
