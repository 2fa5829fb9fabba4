use Rattle.krl_failover.proofs.Refinement.Follows.{clients_follow}
use Rattle.krl_failover.proofs.refinement_laws.clients_follow.Goals as goal

pub returns : goal.returns
returns c = clients_follow
