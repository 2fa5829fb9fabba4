use Rattle.krl_server.specs.StateMeaning.{meaning}
use Rattle.krl_server.proofs.Functions.WaitsFor.{AreFound}
use Rattle.krl_server.proofs.state.State.waited_for.Given as goal

abbrev pub invariant-loop-other : goal.invariant-loop-other
invariant-loop-other l = AreFound (meaning l.self) l.client l.other l.others.items
