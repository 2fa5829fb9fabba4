use Rattle.krl_server.proofs.Names.{ℕ, drop, meaning, HaveWaiters}
use Rattle.krl_server.proofs.Functions.CallbackLoop.{AreCalled}
use Rattle.krl_server.proofs.state.State.call_back.Given as goal

abbrev pub invariant-loop-slot : goal.invariant-loop-slot
invariant-loop-slot l = (at : ℕ) × AreCalled (meaning l.self) at l.fn.outbox l.outbox × HaveWaiters (meaning l.self) at (drop l.slot-index l.slots)
