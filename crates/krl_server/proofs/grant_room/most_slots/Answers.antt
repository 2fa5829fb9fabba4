use Rattle.std.proofs.Common.{arith}
use Rattle.krl_durable.proofs.Kept.{most_roomed}
use Rattle.krl_server.proofs.grant_room.most_slots.Goals as goal

pub overflow_add-len : goal.overflow_add-len
overflow_add-len c = let few = c.len.ensures.few in let most = c.room-room.ensures.in_range.1 in omega (arith, few, most, most_roomed)
