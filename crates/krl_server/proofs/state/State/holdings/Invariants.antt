use Rattle.krl_server.proofs.Names.{◌≡◌, ◌≤◌, take, meaning, holdings}
use Rattle.krl_server.proofs.state.State.holdings.Given as goal

abbrev pub invariant-loop-i : goal.invariant-loop-i
invariant-loop-i l = (l.all.holdings ≡ holdings (meaning l.self) l.client (take l.i l.slots)) × (l.fn.room.room ≤ l.all.room)
