use Rattle.std.proofs.Common.{arith}
use Rattle.krl_server.specs.Termination.{max_messages}
use Rattle.krl_world.proofs.server_steps.nudge.Goals as goal

pub send_to_clients-requires : goal.send_to_clients-requires
unfolding max_messages
send_to_clients-requires c = let few = c.in_ok-messages.ensures.few in omega (arith, c.in_ok-reserve.ensures.ok)
