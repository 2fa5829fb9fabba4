use Rattle.std.proofs.lemmas.Bool.{ne_eqb}
use Rattle.krl_client.specs.Fields.{meaning}
use Rattle.krl_client.specs.contracts.client.Client.{the_view}
use Rattle.krl_client.proofs.Cases.{opens_with_ack}
use Rattle.krl_client.proofs.client.Client.opening.Goals as goal

pub returns : goal.returns
returns c = rw (← c.self.view_is) (opens_with_ack (meaning (the_view c.self.inside)) c.requests.result c.self.invariant.belief (ne_eqb c.self.inside.seen 0 c.if-self-eq0.false) (rw (← c.self.view_is) at c.requests.ensures))
