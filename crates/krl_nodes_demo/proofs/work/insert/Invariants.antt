use Rattle.std.specs.Prelude.{◌≡◌}
use Rattle.krl_nodes.specs.Nodes.{IsSameClient}
use Rattle.krl_nodes_demo.specs.Deliveries.{Goes}
use Rattle.krl_nodes_demo.proofs.work.insert.Given as goal

abbrev pub invariant-loop-turn : goal.invariant-loop-turn
invariant-loop-turn g l =
    IsSameClient l.initial.node l.node × (l.delivery.seed ≡ l.initial.delivery.seed)
    × Goes l.initial.delivery l.initial.node l.delivery l.node
