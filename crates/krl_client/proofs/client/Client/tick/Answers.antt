use Rattle.std.proofs.Common.{subst, sym, ap, ◌∙◌, [], ◌∷◌}
use Rattle.krl_messages.specs.declared.to_server.ToServer.{ToServer}
use Rattle.krl_cache.specs.Laws.{IsBelief}
use Rattle.krl_client.specs.Fields.{KeptClient, meaning}
use Rattle.krl_client.proofs.Cases.{ticks_hello}
use Rattle.krl_client.proofs.client.Client.tick.Goals as goal

pub returns-then-not-has_joined : goal.returns-then-not-has_joined
returns-then-not-has_joined c =
    ticks_hello (meaning c.args.self.now) c.in_ok-hellos.hellos.items (subst (λ (k : KeptClient). IsBelief (meaning k).belief) c.self.view_is c.self.invariant.belief) (sym c.if-not-has_joined.ensures) (c.in_ok-hellos.ensures ∙ ap (λ (m : ToServer). m ∷ []) c.says.ensures)
