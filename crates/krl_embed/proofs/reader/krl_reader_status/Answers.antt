use denote.Param.Send.{sendable}
use Rattle.krl_embed.proofs.Shared.{endpoint_seen}
use Rattle.krl_embed.proofs.reader.krl_reader_status.Goals as goal

pub is_shared-requires-sync-T : goal.is_shared-requires-sync-T
is_shared-requires-sync-T c = let a = endpoint_seen in search sendable depth 24 fits 4000
