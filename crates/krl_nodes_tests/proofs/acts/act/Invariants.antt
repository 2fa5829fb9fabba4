use Rattle.std.specs.Prelude.{◌≡◌, IfSome}
use Rattle.krl_nodes_tests.proofs.acts.act.Given as goal

abbrev pub invariant-loop : goal.invariant-loop
invariant-loop g l = IfSome l.seat (λ c. c.office ≡ l.office)
