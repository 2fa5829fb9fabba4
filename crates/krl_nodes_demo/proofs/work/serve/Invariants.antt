use Rattle.std.specs.Prelude.{◌≡◌}
use Rattle.krl_nodes.specs.Nodes.{IsSameServer}
use Rattle.krl_nodes_demo.specs.Deliveries.{Serves}
use Rattle.krl_nodes_demo.proofs.work.serve.Given as goal

abbrev pub invariant-loop : goal.invariant-loop
invariant-loop g l =
    IsSameServer l.initial.node l.node × (l.delivery.seed ≡ l.initial.delivery.seed)
    × Serves l.initial.delivery l.initial.node l.is_second l.delivery l.node
