use Rattle.krl_world_laws.proofs.Leases.Evicting as lemmas
use Rattle.krl_world_laws.proofs.lease_laws.evictions_are_runs.Goals as goal

pub returns : goal.returns
returns c = lemmas.evictions_are_runs
