use Rattle.krl_world_laws.proofs.Readers as lemmas
use Rattle.krl_world_laws.proofs.reader_laws.scans_last.Goals as goal

pub returns-clause-of_worlds : goal.returns-clause-of_worlds
returns-clause-of_worlds c = lemmas.scans_of_worlds

pub returns-clause-of_hosts : goal.returns-clause-of_hosts
returns-clause-of_hosts c = lemmas.scans_of_hosts

pub returns-clause-of_fenced_hosts : goal.returns-clause-of_fenced_hosts
returns-clause-of_fenced_hosts c = lemmas.scans_of_fenced_hosts
