use Rattle.krl_fenced_hosts.proofs.OneHost.{hosts_are_processes}
use Rattle.krl_fenced_hosts.proofs.hosts_are_processes.Goals as goal

pub returns : goal.returns
returns c = hosts_are_processes
