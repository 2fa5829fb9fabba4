-- What a handle keeps may go to another thread.
use denote.Param.Send.{IsSend, sendable}
use Rattle.std.proofs.Crossing.{Vec-send}
use Rattle.krl_messages.proofs.Crosses.{to_server_sent}
use Rattle.krl_client.proofs.Crosses.{client_sent}
use Rattle.krl_server.proofs.Crosses.{server_sent}
use Rattle.krl_messages.specs.contracts.items.Items as items
use Rattle.krl_messages.specs.contracts.to_server.ToServer as to_server
use Rattle.krl_embed.specs.contracts.frames.Frames as frames
use Rattle.krl_embed.specs.contracts.notes.Marks as marks
use Rattle.krl_embed.specs.contracts.notes.Notes as notes
use Rattle.krl_embed.specs.contracts.endpoint.Role as role
use Rattle.krl_embed.specs.contracts.endpoint.Endpoint as endpoint

bye_sent : IsSend (items.the_row to_server.the_row)
bye_sent = let a = to_server_sent in search (sendable, Vec-send) depth 16

frames_sent : IsSend frames.the_row
frames_sent = search (sendable, Vec-send) depth 16

marks_sent : IsSend marks.the_row
marks_sent = search (sendable, Vec-send) depth 16

notes_sent : IsSend (notes.the_field).row
notes_sent = let a = marks_sent in search sendable depth 16

role_sent : IsSend (role.the_field).row
role_sent = let a = bye_sent in let b = client_sent in let c = server_sent in search sendable depth 24 fits 4000

pub endpoint_sent : IsSend endpoint.the_row
endpoint_sent = let a = role_sent in let b = frames_sent in let c = notes_sent in search sendable depth 24 fits 4000
