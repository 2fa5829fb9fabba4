-- A server may be read by several threads at once.
use denote.Struct.Declared.{shape}
use denote.Param.Send.{IsSync, struct_sync, recorded_sync, view_sync, sendable}
use Rattle.std.proofs.Crossing.{Vec-sync}
use Rattle.krl_embed.proofs.Shared.Messages.{push_body_seen, gathering_seen}
use Rattle.krl_embed.proofs.Shared.Durable.{durable_seen}
use Rattle.krl_embed.proofs.Shared.Table.{table_seen}
use Rattle.krl_server.specs.contracts.grant_room.GrantRoom as grant_room
use Rattle.krl_server.specs.contracts.grant_rooms.GrantRooms as grant_rooms
use Rattle.krl_server.specs.contracts.session.Session as session
use Rattle.krl_server.specs.contracts.sessions.Sessions as sessions
use Rattle.krl_server.specs.contracts.missing.Missing as missing
use Rattle.krl_server.specs.contracts.state.State as state
use Rattle.krl_server.specs.contracts.server.Server as server

session_seen : IsSync session.the_row
session_seen = let a = push_body_seen in search sendable depth 24 fits 4000

sessions_inside : IsSync sessions.TheInside.the_row
sessions_inside = let a = session_seen in search (sendable, Vec-sync) depth 24 fits 4000

sessions_seen : IsSync (sessions.the_field).row
sessions_seen = view_sync _ _ _ _ _ sessions_inside

missing_inside : IsSync missing.TheInside.the_row
missing_inside = search (sendable, Vec-sync) depth 24 fits 4000

missing_seen : IsSync (missing.the_field).row
missing_seen = view_sync _ _ _ _ _ missing_inside

state_seen : IsSync (state.the_field).row
state_seen = struct_sync (shape state.the_type) (durable_seen, (table_seen, (sessions_seen, (missing_seen, tt))))

grant_room_inside : IsSync grant_room.TheInside.the_row
grant_room_inside = let a = gathering_seen in search sendable depth 24 fits 4000

grant_room_seen : IsSync (grant_room.the_field).row
grant_room_seen = view_sync _ _ _ _ _ grant_room_inside

grant_rooms_inside : IsSync grant_rooms.TheInside.the_row
grant_rooms_inside = let a = grant_room_seen in search (sendable, Vec-sync) depth 24 fits 4000

grant_rooms_seen : IsSync (grant_rooms.the_field).row
grant_rooms_seen = view_sync _ _ _ _ _ grant_rooms_inside

server_inside : IsSync server.TheInside.the_row
server_inside = recorded_sync _ _ (server.TheInside.the_type).to (server.TheInside.the_type).to_one
    (struct_sync (shape server.TheInside.the_type) (state_seen, (grant_rooms_seen, tt)))

pub server_seen : IsSync (server.the_field).row
server_seen = view_sync _ _ _ _ _ server_inside
