use Rattle.krl_nodes.proofs.Names.{refl, inr, subst, node_of, from_client, HasOne, HasNone}
use Rattle.krl_nodes.specs.declared.post.Reader.TheVariants as reader
use Rattle.krl_nodes.proofs.Piles.{one_said}
use Rattle.krl_nodes.proofs.Hearing.{some_of, served_by}
use Rattle.krl_nodes.proofs.post.Post.serve.Goals as goal

pub returns-then-any_for : goal.returns-then-any_for
returns-then-any_for c = let i = c.self.inside in rw (← c.self.view_is) (
    let one = subst (HasOne reader.Server) c.deref.ensures.value c.if-any_for.ensures in
    (inr (refl, refl, some_of i.to_server (from_client i.unsorted.items) (one_said i.unsorted.items one)), record { post = refl; node = refl }))

pub returns : goal.returns
returns c = let i = c.self.inside in rw (← c.self.view_is) (
    let none = subst (HasNone reader.Server) c.deref.ensures.value c.if-any_for.ensures in
    served_by c.args.pick i.opening.value i.to_clients.items i.unsorted.items c.hear_one.new.messages.items i.chairs i.to_server c.hear_one.new.inbox (node_of c.args.desk.now) (node_of c.hear_one.new.desk) none c.hear_one.result c.hear_one.ensures)
