use Rattle.krl_world_laws.proofs.Shards.Held as lemmas
use Rattle.krl_world_laws.proofs.shard_laws.scan_while_held.Goals as goal

pub returns-clause-of_worlds : goal.returns-clause-of_worlds
returns-clause-of_worlds c = lemmas.held_of_worlds

pub returns-clause-of_hosts : goal.returns-clause-of_hosts
returns-clause-of_hosts c = lemmas.held_of_hosts

pub returns-clause-of_fenced_hosts : goal.returns-clause-of_fenced_hosts
returns-clause-of_fenced_hosts c = lemmas.held_of_fenced_hosts
