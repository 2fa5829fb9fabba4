use Rattle.std.proofs.Common.{ap, subst, ◌∙◌, arith}
use Rattle.krl_wire.specs.Reading.{GivesIfRoom, to_server_of}
use Rattle.krl_wire.proofs.ToServers.{server_found, server_again}
use Rattle.krl_wire.proofs.read_server.to_server_of.Goals as goal

pub returns-clause-found : goal.returns-clause-found
returns-clause-found c = server_found c.args.bytes.now c.read.result
    (λ i. omega (arith, c.type_inv.bytes i)) c.read.ensures.gives

pub returns-clause-only : goal.returns-clause-only
returns-clause-only c = λ m fits e. subst (λ f. GivesIfRoom c.read.result f)
    (ap to_server_of e ∙ server_again m fits) c.read.ensures.gives
