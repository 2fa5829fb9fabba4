use Rattle.krl_server.proofs.Names.{ap, ◌∙◌, is_some, rows_of}
use Rattle.krl_server.proofs.Functions.WaitersByClient.{waiter_waits}
use Rattle.krl_server.proofs.state.State.waits.Goals as goal

pub returns : goal.returns
returns c = c.is_some.ensures ∙ ap (λ o. is_some o) (c.waiter_of.ensures.waiter c.args.self.now.durable.index c.requires.formed.over) ∙ waiter_waits c.args.self.now.durable.index (rows_of c.args.self.now.table.map) c.args.client
