-- A table may go to another thread.
use denote.Struct.Declared.{shape}
use denote.Param.Send.{IsSend, struct_send, recorded_send, view_send, array_send, sendable}
use Rattle.krl_modes.proofs.Crosses.{mode_row_sent}
use Rattle.krl_queue.proofs.Crosses.{waiter_sent, wait_list_sent}
use Rattle.krl_blocks.proofs.Reserved.Crosses.{reserved_map_sent}
use Rattle.krl_table.specs.contracts.row.SlotRow as slot_row
use Rattle.krl_table.specs.contracts.waiting.Waiting as waiting
use Rattle.krl_table.specs.contracts.extent.Extent as extent
use Rattle.krl_table.specs.contracts.extents.Extents as extents
use Rattle.krl_table.specs.contracts.table.Table as table

waiting_sent : IsSend (waiting.the_field).row
waiting_sent = let a = waiter_sent in search sendable depth 24 fits 4000

row_kept_sent : IsSend slot_row.the_row
row_kept_sent = recorded_send _ _ (slot_row.the_type).to (slot_row.the_type).to_one
    (struct_send (shape slot_row.the_type) (array_send _ 64 mode_row_sent, (wait_list_sent, tt)))

extent_sent : IsSend extent.the_row
extent_sent = search sendable depth 20

extents_sent : IsSend (extents.the_field).row
extents_sent = struct_send (shape extents.the_type) (array_send _ 64 extent_sent, tt)

table_inside : IsSend table.TheInside.the_row
table_inside = recorded_send _ _ (table.TheInside.the_type).to (table.TheInside.the_type).to_one
    (struct_send (shape table.TheInside.the_type) (reserved_map_sent _ row_kept_sent, (waiting_sent, (extents_sent, tt))))

pub table_sent : IsSend (table.the_field).row
table_sent = view_send _ _ _ _ _ table_inside
