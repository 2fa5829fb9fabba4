-- A server may go to another thread.
use denote.Struct.Declared.{shape}
use denote.Param.Send.{IsSend, struct_send, recorded_send, view_send, sendable}
use Rattle.std.proofs.Crossing.{Vec-send}
use Rattle.krl_messages.proofs.Crosses.{push_body_sent, gathering_sent}
use Rattle.krl_durable.proofs.Crosses.{durable_sent}
use Rattle.krl_table.proofs.Crosses.{table_sent}
use Rattle.krl_server.specs.contracts.grant_room.GrantRoom as grant_room
use Rattle.krl_server.specs.contracts.grant_rooms.GrantRooms as grant_rooms
use Rattle.krl_server.specs.contracts.session.Session as session
use Rattle.krl_server.specs.contracts.sessions.Sessions as sessions
use Rattle.krl_server.specs.contracts.missing.Missing as missing
use Rattle.krl_server.specs.contracts.state.State as state
use Rattle.krl_server.specs.contracts.server.Server as server

session_sent : IsSend session.the_row
session_sent = let a = push_body_sent in search sendable depth 24 fits 4000

sessions_inside : IsSend sessions.TheInside.the_row
sessions_inside = let a = session_sent in search (sendable, Vec-send) depth 24 fits 4000

sessions_sent : IsSend (sessions.the_field).row
sessions_sent = view_send _ _ _ _ _ sessions_inside

missing_inside : IsSend missing.TheInside.the_row
missing_inside = search (sendable, Vec-send) depth 24 fits 4000

missing_sent : IsSend (missing.the_field).row
missing_sent = view_send _ _ _ _ _ missing_inside

state_sent : IsSend (state.the_field).row
state_sent =
    struct_send (shape state.the_type) (durable_sent, (table_sent, (sessions_sent, (missing_sent, tt))))

grant_room_inside : IsSend grant_room.TheInside.the_row
grant_room_inside = let a = gathering_sent in search sendable depth 24 fits 4000

grant_room_sent : IsSend (grant_room.the_field).row
grant_room_sent = view_send _ _ _ _ _ grant_room_inside

grant_rooms_inside : IsSend grant_rooms.TheInside.the_row
grant_rooms_inside = let a = grant_room_sent in search (sendable, Vec-send) depth 24 fits 4000

grant_rooms_sent : IsSend (grant_rooms.the_field).row
grant_rooms_sent = view_send _ _ _ _ _ grant_rooms_inside

server_inside : IsSend server.TheInside.the_row
server_inside = recorded_send _ _ (server.TheInside.the_type).to (server.TheInside.the_type).to_one
    (struct_send (shape server.TheInside.the_type) (state_sent, (grant_rooms_sent, tt)))

pub server_sent : IsSend (server.the_field).row
server_sent = view_send _ _ _ _ _ server_inside
