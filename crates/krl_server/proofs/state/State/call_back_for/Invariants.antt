use Rattle.krl_server.specs.StateMeaning.{meaning}
use Rattle.krl_server.proofs.Functions.CallbackLoop.{IsCalled}
use Rattle.krl_server.proofs.state.State.call_back_for.Given as goal

abbrev pub invariant-loop-client : goal.invariant-loop-client
invariant-loop-client l = IsCalled (meaning l.self) l.slot l.first.waiter l.client l.fn.outbox l.outbox
