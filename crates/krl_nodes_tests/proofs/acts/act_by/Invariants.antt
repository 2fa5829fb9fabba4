use Rattle.krl_nodes.specs.Nodes.{IsSameClient}
use Rattle.krl_nodes_tests.proofs.acts.act_by.Given as goal

abbrev pub invariant-loop : goal.invariant-loop
invariant-loop g l = IsSameClient l.initial.client l.client
