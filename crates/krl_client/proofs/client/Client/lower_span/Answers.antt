use Rattle.std.proofs.Common.{ap, ◌∙◌, [], ◌∷◌}
use Rattle.krl_messages.specs.declared.to_server.ToServer.{ToServer}
use Rattle.krl_client.specs.Fields.{meaning}
use Rattle.krl_client.specs.contracts.client.Client.{the_view}
use Rattle.krl_client.proofs.Cases.{lowers}
use Rattle.krl_client.proofs.client.Client.lower_span.Goals as goal

pub returns-clause-follows : goal.returns-clause-follows
returns-clause-follows c = rw (← c.self.view_is) (lowers (meaning (the_view c.self.inside)) c.args.span c.args.keep _ c.in_ok-list.list.items c.self.invariant.belief (λ t. record (meaning (the_view c.self.inside)) { belief = c.in_ok-lower.ensures.ok t })
    (λ ps. c.in_ok-list.ensures ∙ ap (λ (m : ToServer). m ∷ []) (rw (← c.self.view_is) at c.requests-release.ensures)))
