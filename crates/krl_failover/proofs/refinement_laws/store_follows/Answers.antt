use Rattle.krl_failover.proofs.Refinement.Follows.{store_follows}
use Rattle.krl_failover.proofs.refinement_laws.store_follows.Goals as goal

pub returns : goal.returns
returns c = store_follows
