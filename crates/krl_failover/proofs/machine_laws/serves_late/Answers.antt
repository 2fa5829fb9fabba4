use Rattle.krl_failover.proofs.Machine.LateServer.{serves_late}
use Rattle.krl_failover.proofs.machine_laws.serves_late.Goals as goal

pub returns : goal.returns
returns c = serves_late
