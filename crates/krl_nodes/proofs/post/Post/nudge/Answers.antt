use Rattle.krl_server.specs.StateMeaning.{meaning}
use Rattle.krl_server.specs.Steps.{nudge}
use Rattle.krl_nodes.proofs.Obeying.{nudged}
use Rattle.krl_nodes.proofs.post.Post.nudge.Goals as goal

pub returns-clause-ok : goal.returns-clause-ok
returns-clause-ok c = let i = c.self.inside in rw (← c.self.view_is) (
    nudged i.opening.value i.to_server i.to_clients.items i.chairs i.unsorted.items c.nudge.new.sent.items (nudge (meaning c.args.server.now) c.args.client) c.nudge.result c.nudge.ensures.ok)
