-- Nodes may go to other threads.
use denote.RattleType.{RattleType}
use denote.Struct.Declared.{shape}
use denote.Param.Send.{IsSend, IsSync, AllSync, view_sync, struct_sync, recorded_sync, sendable, array_send, view_send, struct_send, recorded_send}
use Rattle.atomic_table.proofs.Sent.{seat_keyless}
use Rattle.atomic_table.proofs.owned.Table.TheSendSync as owned
use Rattle.core.specs.contracts.snapshot.Snapshot as snapshot
use Rattle.std.specs.contracts.alloc.Global as global
use Rattle.std.proofs.Crossing as heap
use Rattle.std.proofs.Crossing.{Vec-send, Deque-send}
use Rattle.std.specs.contracts.impls.GlobalAllocator.TheImpl as allocator
use Rattle.krl_messages.proofs.Crosses.{to_server_field, to_server_sent, to_client_field, to_client_sent}
use Rattle.krl_world.specs.contracts.message.Message as message
use Rattle.krl_messages.specs.contracts.to_server.ToServer as to_server
use Rattle.krl_messages.specs.contracts.to_client.ToClient as to_client
use Rattle.krl_nodes.specs.contracts.inbox.Inbox as inbox
use Rattle.krl_nodes.specs.contracts.rule.OnePost as rule
use Rattle.krl_nodes.specs.contracts.rule.Opening as opening
use Rattle.krl_nodes.specs.contracts.rule.OnePostTableRulePostViewSnapshotOpening.TheImpl as kept
use Rattle.krl_nodes.specs.contracts.office.Office as office
use Rattle.krl_nodes.specs.contracts.post.Chair as chair
use Rattle.krl_nodes.specs.contracts.post.Post as post
use Rattle.krl_nodes.specs.contracts.view.View as view
use Rattle.atomic_table.specs.contracts.shared.Seat as ticket

message_sent : IsSend message.the_row
message_sent = let a = to_server_field in let b = to_client_field in search sendable depth 24 fits 4000

chair_sent : IsSend chair.the_row
chair_sent = search sendable depth 12

inbox_inside : (T : RattleType) → IsSend T → IsSend (inbox.TheInside.the_row T)
inbox_inside T s = recorded_send _ _ (inbox.TheInside.the_type T).to (inbox.TheInside.the_type T).to_one (struct_send (shape (inbox.TheInside.the_type T)) (Deque-send T s, tt))

inbox_sent : (T : RattleType) → IsSend T → IsSend (inbox.the_row T)
inbox_sent T s = view_send _ _ _ _ _ (inbox_inside T s)

inside_sent : IsSend post.TheInside.the_row
inside_sent = recorded_send _ _ (post.TheInside.the_type).to (post.TheInside.the_type).to_one (struct_send (shape post.TheInside.the_type) (
  record { owned = λ d vs. ((λ vss. (tt, ((λ uss. (tt, tt)), tt))), tt); leaving = λ k f vs. tt },
  (inbox_sent to_server.the_row to_server_sent, (Vec-send _ (inbox_sent to_client.the_row to_client_sent), (Vec-send message.the_row message_sent, (array_send _ 64 chair_sent, tt)))),
))

pub post_sent : IsSend post.the_row
post_sent = view_send _ _ _ _ _ inside_sent

pub seat_sent : IsSend (ticket.the_row post.the_row view.the_row)
seat_sent = record { owned = λ d vs. ((λ vss. (tt, ((λ uss. (tt, tt)), tt))), seat_keyless post.the_row post_sent view.the_row.coded.code d.table_id d.id d.me); leaving = λ k f vs. tt }

pub office_fields : AllSync (shape office.TheInside.the_type).fields
office_fields = (owned.the_field_sync post.the_row view.the_row (snapshot.the_row opening.the_row) rule.the_row global.the_row kept.ghosts allocator.ghosts post_sent heap.send heap.sync heap.frees, tt)

office_inside : IsSync office.TheInside.the_row
office_inside = recorded_sync _ _ (office.TheInside.the_type).to (office.TheInside.the_type).to_one
    (struct_sync (shape office.TheInside.the_type) office_fields)

pub office_sync : IsSync office.the_row
office_sync = view_sync _ _ _ _ _ office_inside
