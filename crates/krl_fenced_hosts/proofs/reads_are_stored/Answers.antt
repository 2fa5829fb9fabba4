use Rattle.krl_fenced_hosts.proofs.Reading.{reads_are_stored}
use Rattle.krl_fenced_hosts.proofs.reads_are_stored.Goals as goal

pub returns : goal.returns
returns c = reads_are_stored
