use Rattle.krl_failover.proofs.Refinement.OldServers.{old_follow}
use Rattle.krl_failover.proofs.refinement_laws.old_follow.Goals as goal

pub returns : goal.returns
returns c = old_follow
