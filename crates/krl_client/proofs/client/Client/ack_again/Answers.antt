use Rattle.std.proofs.Common.{subst, ap, ◌∙◌, [], ◌∷◌}
use Rattle.krl_messages.specs.declared.to_server.ToServer.{ToServer}
use Rattle.krl_cache.specs.Laws.{IsBelief}
use Rattle.krl_client.specs.Fields.{KeptClient, meaning}
use Rattle.krl_client.proofs.Cases.{acks_again}
use Rattle.krl_client.proofs.client.Client.ack_again.Goals as goal

pub returns : goal.returns
returns c = acks_again (meaning c.args.self.now) c.in_ok-list.list.items (subst (λ (k : KeptClient). IsBelief (meaning k).belief) c.self.view_is c.self.invariant.belief) (λ ps. c.in_ok-list.ensures ∙ ap (λ (m : ToServer). m ∷ []) c.requests.ensures)
