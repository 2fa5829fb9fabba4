use Rattle.krl_client.specs.Fields.{meaning}
use Rattle.krl_nodes.proofs.Obeying.{ticked}
use Rattle.krl_nodes.proofs.post.Post.tick.Goals as goal

pub returns-clause-ok : goal.returns-clause-ok
returns-clause-ok c = let i = c.self.inside in rw (← c.self.view_is) (
    ticked i.opening.value i.to_server i.to_clients.items i.chairs i.unsorted.items c.tick.new.sent.items (meaning c.args.client.now) c.tick.result c.tick.ensures.ok)
