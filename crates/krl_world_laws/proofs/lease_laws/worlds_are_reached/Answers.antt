use Rattle.krl_world_laws.proofs.Leases.Leased as lemmas
use Rattle.krl_world_laws.proofs.lease_laws.worlds_are_reached.Goals as goal

pub returns-clause-of_worlds : goal.returns-clause-of_worlds
returns-clause-of_worlds c = lemmas.worlds_reached

pub returns-clause-of_hosts : goal.returns-clause-of_hosts
returns-clause-of_hosts c = lemmas.hosts_reached

pub returns-clause-of_fenced_hosts : goal.returns-clause-of_fenced_hosts
returns-clause-of_fenced_hosts c = lemmas.fenced_hosts_reached
