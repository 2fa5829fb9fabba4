-- A server may go to another thread.
use denote.Struct.Declared.{shape}
use denote.Param.Send.{IsSend, struct_send, recorded_send, view_send, array_send, sendable}
use Rattle.krl_durable.proofs.Crosses.{durable_sent}
use Rattle.krl_server.proofs.Crosses.{server_sent}
use Rattle.krl_client.proofs.Crosses.{global_sent}
use Rattle.krl_world.specs.contracts.node.ServerPlace as desk
use Rattle.krl_nodes.specs.contracts.server.ServerNode as node
use Rattle.krl_nodes.proofs.Sent.{seat_sent}
use Rattle.krl_nodes.proofs.SentClient.{bool_sent}

desk_sent : IsSend (desk.the_field).row
desk_sent = let a = server_sent in let b = durable_sent in search sendable depth 24 fits 4000

node_inside : IsSend node.TheInside.the_row
node_inside = recorded_send _ _ (node.TheInside.the_type).to (node.TheInside.the_type).to_one
    (struct_send (shape node.TheInside.the_type) (global_sent, (desk_sent, (array_send _ 64 bool_sent, (seat_sent, tt)))))

pub node_sent : IsSend (node.the_field).row
node_sent = view_send _ _ _ _ _ node_inside
