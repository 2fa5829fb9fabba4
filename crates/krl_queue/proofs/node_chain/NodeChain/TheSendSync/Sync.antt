use denote.Param.Send.{IsSync}
use Rattle.krl_queue.proofs.Crosses.{NodeChain-sync}
use Rattle.krl_queue.specs.contracts.node_chain.NodeChain.{the_row}

pub sync : IsSync the_row
sync = NodeChain-sync
