-- Messages and values may go to another thread.
use denote.Param.Send.{IsSend, sendable}
use Rattle.std.proofs.Crossing.{Vec-send}
use Rattle.krl_modes.proofs.Crosses.{mode_sent, span_sent}
use Rattle.krl_messages.specs.contracts.value.Value as value
use Rattle.krl_messages.specs.contracts.range_pieces.RangePiece as range_piece
use Rattle.krl_messages.specs.contracts.key_pieces.KeyPiece as key_piece
use Rattle.krl_messages.specs.contracts.items.Items as items
use Rattle.krl_messages.specs.contracts.pieces.Pieces as pieces
use Rattle.krl_messages.specs.contracts.outcome.Outcome as outcome
use Rattle.krl_messages.specs.contracts.write_op.WriteOp as write_op
use Rattle.krl_messages.specs.contracts.holding.Holding as holding
use Rattle.krl_messages.specs.contracts.holdings.Holdings as holdings
use Rattle.krl_messages.specs.contracts.gathering.Gathering as gathering
use Rattle.krl_messages.specs.contracts.to_server.RequestBody as request_body
use Rattle.krl_messages.specs.contracts.to_server.Request as request
use Rattle.krl_messages.specs.contracts.to_server.ToServer as to_server
use Rattle.krl_messages.specs.contracts.to_server.ToServerBody as to_server_body
use Rattle.krl_messages.specs.contracts.to_client.PushBody as push_body
use Rattle.krl_messages.specs.contracts.to_client.ToClientBody as to_client_body
use Rattle.krl_messages.specs.contracts.to_client.ToClient as to_client

pub value_sent : IsSend value.the_row
value_sent = search sendable depth 24 fits 4000

pub write_op_sent : IsSend (write_op.the_field).row
write_op_sent = search sendable depth 24 fits 4000

pub outcome_sent : IsSend (outcome.the_field).row
outcome_sent = search sendable depth 24 fits 4000

range_piece_sent : IsSend (range_piece.the_field).row
range_piece_sent = let a = span_sent in search sendable depth 24 fits 4000

key_piece_sent : IsSend (key_piece.the_field).row
key_piece_sent = search sendable depth 24 fits 4000

ranges_sent : IsSend (items.the_row range_piece.the_row)
ranges_sent = let a = range_piece_sent in search (sendable, Vec-send) depth 16

keys_sent : IsSend (items.the_row key_piece.the_row)
keys_sent = let a = key_piece_sent in search (sendable, Vec-send) depth 16

pieces_sent : IsSend (pieces.the_field).row
pieces_sent = let a = ranges_sent in let b = keys_sent in search sendable depth 24 fits 4000

request_body_sent : IsSend (request_body.the_field).row
request_body_sent =
    let a = mode_sent in let b = write_op_sent in let c = span_sent in search sendable depth 24 fits 4000

request_sent : IsSend (request.the_field).row
request_sent = let a = request_body_sent in search sendable depth 24 fits 4000

to_server_body_sent : IsSend (to_server_body.the_field).row
to_server_body_sent = let a = pieces_sent in let b = request_sent in search sendable depth 24 fits 4000

pub to_server_field : IsSend (to_server.the_field).row
to_server_field = let a = to_server_body_sent in search sendable depth 24 fits 4000

pub to_server_sent : IsSend to_server.the_row
to_server_sent = let a = to_server_body_sent in search sendable depth 24 fits 4000

holding_sent : IsSend (holding.the_field).row
holding_sent = let a = span_sent in let b = mode_sent in search sendable depth 24 fits 4000

holding_row_sent : IsSend holding.the_row
holding_row_sent = let a = span_sent in let b = mode_sent in search sendable depth 24 fits 4000

holdings_sent : IsSend (holdings.the_field).row
holdings_sent = let a = holding_row_sent in search (sendable, Vec-send) depth 24 fits 4000

pub gathering_sent : IsSend (gathering.the_field).row
gathering_sent = let a = holding_row_sent in search (sendable, Vec-send) depth 24 fits 4000

pub push_body_sent : IsSend (push_body.the_field).row
push_body_sent = let a = holding_sent in let b = outcome_sent in let d = holdings_sent in search sendable depth 24 fits 4000

to_client_body_sent : IsSend (to_client_body.the_field).row
to_client_body_sent =
    let a = push_body_sent in let b = span_sent in let c = mode_sent in search sendable depth 24 fits 4000

pub to_client_field : IsSend (to_client.the_field).row
to_client_field = let a = to_client_body_sent in search sendable depth 24 fits 4000

pub to_client_sent : IsSend to_client.the_row
to_client_sent = let a = to_client_body_sent in search sendable depth 24 fits 4000
