use Rattle.krl_failover.proofs.Worlds.Promised.{never_alarms}
use Rattle.krl_failover.proofs.world_laws.no_alarm.Goals as goal

pub returns : goal.returns
returns c = never_alarms
