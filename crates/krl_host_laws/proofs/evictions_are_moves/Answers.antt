use Rattle.krl_host_laws.proofs.Evicting.{evictions_are_moves}
use Rattle.krl_host_laws.proofs.evictions_are_moves.Goals as goal

pub returns : goal.returns
returns c = evictions_are_moves
