-- A client may go to another thread, and so may a policy that is drawn.
use denote.Struct.Declared.{shape}
use denote.Builtin.{bool, u64}
use denote.Param.Send.{IsSend, struct_send, recorded_send, view_send, sendable}
use Rattle.krl_client.proofs.Crosses.{global_sent, client_sent}
use Rattle.krl_world.specs.contracts.node.ClientPlace as seat
use Rattle.krl_nodes.specs.contracts.client.ClientNode as node
use Rattle.krl_nodes.specs.contracts.drawn.Drawn as drawn
use Rattle.krl_draws.specs.contracts.generator.Generator as draws
use Rattle.krl_nodes.proofs.Sent.{seat_sent}

pub place_sent : IsSend (seat.the_field).row
place_sent = let a = client_sent in search sendable depth 24 fits 4000

node_inside : IsSend node.TheInside.the_row
node_inside = let n : IsSend u64 = search sendable in
    recorded_send _ _ (node.TheInside.the_type).to (node.TheInside.the_type).to_one
    (struct_send (shape node.TheInside.the_type) (global_sent, (n, (place_sent, (seat_sent, tt)))))

pub node_sent : IsSend (node.the_field).row
node_sent = view_send _ _ _ _ _ node_inside

pub bool_sent : IsSend bool
bool_sent = search sendable

draws_inside : IsSend draws.TheInside.the_row
draws_inside = search sendable depth 24 fits 4000

draws_sent : IsSend (draws.the_field).row
draws_sent = view_send _ _ _ _ _ draws_inside

drawn_inside : IsSend drawn.TheInside.the_row
drawn_inside = let a = draws_sent in search sendable depth 24 fits 4000

pub drawn_sent : IsSend (drawn.the_field).row
drawn_sent = view_send _ _ _ _ _ drawn_inside
