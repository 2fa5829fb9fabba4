use Rattle.std.proofs.Common.{ap, subst, ◌∙◌, arith}
use Rattle.krl_wire.specs.Reading.{GivesIfRoom, to_client_of}
use Rattle.krl_wire.proofs.ToClients.{client_found, client_again}
use Rattle.krl_wire.proofs.read_client.to_client_of.Goals as goal

pub returns-clause-found : goal.returns-clause-found
returns-clause-found c = client_found c.args.bytes.now c.read.result
    (λ i. omega (arith, c.type_inv.bytes i)) c.read.ensures.gives

pub returns-clause-only : goal.returns-clause-only
returns-clause-only c = λ m fits e. subst (λ f. GivesIfRoom c.read.result f)
    (ap to_client_of e ∙ client_again m fits) c.read.ensures.gives
