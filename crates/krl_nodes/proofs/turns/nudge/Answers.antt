use Rattle.krl_nodes.proofs.Names.{arith, refl, ap, ◌∙◌, server_down, node_of, is_client, meaning}
use Rattle.krl_nodes.proofs.turns.nudge.Goals as goal

pub returns-in-Ok : goal.returns-in-Ok
returns-in-Ok c = λ p. let up = ap node_of c.in-Up.is in
    (refl, is_client c.args.client _ (omega (arith, c.if-client.false)) ∙ ap server_down up, record { server = meaning c.in-Up.server; was = up; now = refl; post = c.in-Ok.ensures.ok })
