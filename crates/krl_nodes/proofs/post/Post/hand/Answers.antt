use Rattle.krl_nodes.proofs.Names.{◌<◌, length, refl, inr, subst, arith, place_of, HasOne, HasNone}
use Rattle.krl_nodes.specs.declared.post.Reader.TheVariants as reader
use Rattle.krl_nodes.proofs.Hearing.{index_is, some_to, read_by}
use Rattle.krl_nodes.proofs.post.Post.hand.Goals as goal

pub returns-then-any_for : goal.returns-then-any_for
returns-then-any_for c = let i = c.self.inside in rw (← c.self.view_is) (
    let one = subst (HasOne (reader.Client c.args.number)) c.deref.ensures.value c.if-any_for.ensures in
    let small : c.args.number < length i.to_clients.items = omega (arith, c.self.invariant.1) in
    (inr (refl, refl, some_to i.opening.value i.to_server i.to_clients.items i.unsorted.items i.chairs c.args.number small one), record { post = refl; node = refl }))

pub returns : goal.returns
returns c = let i = c.self.inside in rw (← c.self.view_is) (
    let none = subst (HasNone (reader.Client c.args.number)) c.deref.ensures.value c.if-any_for.ensures in
    let small : c.args.number < length i.to_clients.items = omega (arith, c.self.invariant.1) in
    read_by c.args.pick i.opening.value i.to_clients.items i.unsorted.items c.read_one.new.messages.items i.chairs i.to_server c.args.number c.index_mut-inbox.result.now c.read_one.new.inbox (place_of c.args.seat.now) (place_of c.read_one.new.seat) none small (index_is i.to_clients.items c.args.number c.index_mut-inbox.result.now small c.index_mut-inbox.ensures.value) c.read_one.result c.read_one.ensures)
