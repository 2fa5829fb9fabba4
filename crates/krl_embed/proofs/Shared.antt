-- What a handle keeps may be read by several threads at once.
pub mod Modes
pub mod Messages
pub mod Blocks
pub mod Durable
pub mod Queue
pub mod ReservedMap
pub mod Table
pub mod Server
pub mod Cache
pub mod Client
use denote.Param.Send.{IsSync, sendable}
use Rattle.std.proofs.Crossing.{Vec-sync}
use Rattle.krl_messages.specs.contracts.items.Items as items
use Rattle.krl_messages.specs.contracts.to_server.ToServer as to_server
use Rattle.krl_embed.specs.contracts.frames.Frames as frames
use Rattle.krl_embed.specs.contracts.notes.Marks as marks
use Rattle.krl_embed.specs.contracts.notes.Notes as notes
use Rattle.krl_embed.specs.contracts.endpoint.Role as role
use Rattle.krl_embed.specs.contracts.endpoint.Endpoint as endpoint
use Rattle.krl_embed.proofs.Shared.Messages.{to_server_seen}
use Rattle.krl_embed.proofs.Shared.Client.{client_seen}
use Rattle.krl_embed.proofs.Shared.Server.{server_seen}

bye_seen : IsSync (items.the_row to_server.the_row)
bye_seen = let a = to_server_seen in search (sendable, Vec-sync) depth 16

frames_seen : IsSync frames.the_row
frames_seen = search (sendable, Vec-sync) depth 16

marks_seen : IsSync marks.the_row
marks_seen = search (sendable, Vec-sync) depth 16

notes_seen : IsSync (notes.the_field).row
notes_seen = let a = marks_seen in search sendable depth 16

role_seen : IsSync (role.the_field).row
role_seen = let a = bye_seen in let b = client_seen in let c = server_seen in search sendable depth 24 fits 4000

pub endpoint_seen : IsSync endpoint.the_row
endpoint_seen = let a = role_seen in let b = frames_seen in let c = notes_seen in search sendable depth 24 fits 4000
