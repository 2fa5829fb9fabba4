use denote.Param.Send.{sendable}
use Rattle.std.proofs.Crossing.{Box-send}
use Rattle.krl_embed.proofs.Crosses.{endpoint_sent}
use Rattle.krl_embed.proofs.handle.put.Goals as goal

pub crosses-requires-send-T : goal.crosses-requires-send-T
crosses-requires-send-T c = let a = endpoint_sent in search (sendable, Box-send) depth 8 fits 2000
