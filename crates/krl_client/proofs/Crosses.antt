-- A client may go to another thread.
use denote.RattleType.{RattleType}
use denote.Struct.Declared.{shape}
use denote.Builtin.{bool, u64}
use denote.Param.Send.{IsSend, struct_send, recorded_send, view_send, sendable}
use Rattle.std.specs.contracts.alloc.Global as global
use Rattle.arrayvec.specs.contracts.cells.Cells as cells
use Rattle.arrayvec.specs.contracts.array_vec.ArrayVec as array_vec
use Rattle.krl_modes.proofs.Crosses.{mode_sent, span_sent}
use Rattle.krl_messages.proofs.Crosses.{write_op_sent}
use Rattle.krl_cache.proofs.Crosses.{cache_sent}
use Rattle.krl_client.specs.contracts.lock_request.LockRequest as asked
use Rattle.krl_client.specs.contracts.last_write.LastWrite as written
use Rattle.krl_client.specs.contracts.pins.Pins as pins
use Rattle.krl_client.specs.contracts.client.Client as client

asked_sent : IsSend (asked.the_field).row
asked_sent = let a = mode_sent in search sendable depth 24 fits 4000

written_sent : IsSend (written.the_field).row
written_sent = let a = write_op_sent in search sendable depth 24 fits 4000

cells_sent : (T N : RattleType) → IsSend T → IsSend (cells.the_row T N)
cells_sent T N s = search sendable depth 12

array_vec_inside : (T N A : RattleType) → IsSend T → IsSend A → IsSend (array_vec.TheInside.the_row T N A)
array_vec_inside T N A s a = let c = cells_sent T N s in search sendable depth 12

array_vec_sent : (T N A : RattleType) → IsSend T → IsSend A → IsSend (array_vec.the_row T N A)
array_vec_sent T N A s a = view_send _ _ _ _ _ (array_vec_inside T N A s a)

pins_inside : IsSend pins.TheInside.the_row
pins_inside = let a = span_sent in search (sendable, array_vec_sent) depth 16 fits 4000

pins_sent : IsSend (pins.the_field).row
pins_sent = view_send _ _ _ _ _ pins_inside

pub global_sent : IsSend (global.the_field).row
global_sent = search sendable depth 20

client_inside : IsSend client.TheInside.the_row
client_inside = let n : IsSend u64 = search sendable in let b : IsSend bool = search sendable in
    recorded_send _ _ (client.TheInside.the_type).to (client.TheInside.the_type).to_one
    (struct_send (shape client.TheInside.the_type)
    (global_sent, (n, (n, (n, (n, (n, (asked_sent, (n, (written_sent, (b, (cache_sent, (pins_sent, tt)))))))))))))

pub client_sent : IsSend (client.the_field).row
client_sent = view_send _ _ _ _ _ client_inside
