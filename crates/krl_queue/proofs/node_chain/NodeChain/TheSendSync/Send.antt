use denote.Param.Send.{IsSend}
use Rattle.krl_queue.proofs.Crosses.{NodeChain-send}
use Rattle.krl_queue.specs.contracts.node_chain.NodeChain.{the_row}

pub send : IsSend the_row
send = NodeChain-send
