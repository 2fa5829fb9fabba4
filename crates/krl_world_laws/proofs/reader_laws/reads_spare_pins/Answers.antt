use Rattle.krl_world_laws.proofs.Lockless as lemmas
use Rattle.krl_world_laws.proofs.reader_laws.reads_spare_pins.Goals as goal

pub returns-clause-of_worlds : goal.returns-clause-of_worlds
returns-clause-of_worlds c = lemmas.of_worlds

pub returns-clause-of_hosts : goal.returns-clause-of_hosts
returns-clause-of_hosts c = lemmas.of_hosts
