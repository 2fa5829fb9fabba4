use Rattle.krl_nodes.proofs.Obeying.{started}
use Rattle.krl_nodes.proofs.post.Post.start.Goals as goal

pub returns : goal.returns
returns c = λ p. let i = c.self.inside in rw (← c.self.view_is) (
    started i.opening.value i.to_server i.to_clients.items i.chairs i.unsorted.items c.start.new.sent.items p c.args.number c.args.seat.now c.start.new.place c.start.result c.start.ensures.ok c.start.ensures.due c.start.ensures.err)
