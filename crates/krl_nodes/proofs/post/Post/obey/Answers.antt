use Rattle.krl_world.specs.Fields.{place_of}
use Rattle.krl_nodes.proofs.Obeying.{obeys}
use Rattle.krl_nodes.proofs.post.Post.obey.Goals as goal

pub returns : goal.returns
returns c = λ p n. let i = c.self.inside in rw (← c.self.view_is) (
    obeys i.opening.value i.to_server i.to_clients.items i.chairs i.unsorted.items c.obey.new.sent.items p n c.args.what (place_of c.args.seat.now) (place_of c.obey.new.place) c.obey.ensures.last_incarnation c.obey.result c.obey.ensures.commanded)
