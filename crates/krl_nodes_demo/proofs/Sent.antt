-- The nodes of a run may go to other threads.
use denote.Struct.Declared.{shape}
use denote.Param.Send.{IsSend, struct_send, recorded_send, sendable}
use Rattle.krl_nodes.proofs.SentClient.{bool_sent, drawn_sent, node_sent as client_sent}
use Rattle.krl_nodes.proofs.SentServer.{node_sent as server_sent}
use Rattle.krl_nodes_demo.specs.contracts.delivery.Delivery as delivery
use Rattle.krl_nodes_demo.specs.contracts.run.Serving as serving
use Rattle.krl_nodes_demo.specs.contracts.run.Writer as writer

delivery_sent : IsSend (delivery.the_field).row
delivery_sent = let a = drawn_sent in search sendable depth 24 fits 4000

pub writer_sent : IsSend writer.the_row
writer_sent = recorded_send _ _ (writer.the_type).to (writer.the_type).to_one
    (struct_send (shape writer.the_type) (client_sent, (delivery_sent, (bool_sent, tt))))

pub serving_sent : IsSend serving.the_row
serving_sent = recorded_send _ _ (serving.the_type).to (serving.the_type).to_one
    (struct_send (shape serving.the_type) (server_sent, (delivery_sent, tt)))
