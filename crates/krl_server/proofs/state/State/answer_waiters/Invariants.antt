use Rattle.krl_server.proofs.Names.{◌≤◌, ◌+◌, ◌-◌, List, length, ToClient, rows_of, IsTable, waiting, IsSound, meaning, IsFormed, Sends, HaveWaiters}
use Rattle.krl_server.specs.GrantRooms.{HasGrantRooms}
use Rattle.krl_server.proofs.Functions.Rounds.{HasBegun}
use Rattle.krl_server.proofs.Functions.Listed.{AreLeft}
use Rattle.krl_server.proofs.state.State.answer_waiters.Given as goal

abbrev pub invariant-loop-i : goal.invariant-loop-i
invariant-loop-i l = record {
  formed : IsFormed l.self;
  sound : IsSound (meaning l.self);
  table : IsTable l.self.durable.index (rows_of l.self.table.map);
  all : HaveWaiters (meaning l.self) 0 l.slots;
  left : AreLeft (meaning l.self) l.slots l.i;
  begun : (outs : List ToClient) × HasBegun (meaning l.fn.self) (meaning l.self) outs × Sends l.fn.outbox l.outbox outs;
  room : length l.outbox.sent + waiting (meaning l.self) ≤ l.outbox.room;
  rooms : HasGrantRooms (meaning l.self) l.rooms;
}

abbrev pub decreases-loop-i : goal.decreases-loop-i
decreases-loop-i l = waiting (meaning l.self) + (length l.slots - l.i)
