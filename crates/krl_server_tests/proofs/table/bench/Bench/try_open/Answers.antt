use Rattle.std.proofs.Common.{arith}
use Rattle.krl_durable.proofs.SlotLaws.{near_end}
use Rattle.krl_server_tests.proofs.table.bench.Bench.try_open.Goals as goal

pub invariant_of-result : goal.invariant_of-result
invariant_of-result c = let m = c.in_ok-durable.durable.index in let room = c.room.ensures.room in let rows = c.in_ok-table.ensures.room in (c.in_ok-table.ensures.slots m (near_end m c.epoch-kept.ensures.kept.keys), omega (arith, room, rows))
