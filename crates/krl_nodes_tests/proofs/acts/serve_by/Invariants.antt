use Rattle.krl_nodes.specs.Nodes.{IsSameServer}
use Rattle.krl_nodes_tests.proofs.acts.serve_by.Given as goal

abbrev pub invariant-loop : goal.invariant-loop
invariant-loop g l = IsSameServer l.initial.server l.server
