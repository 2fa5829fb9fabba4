use Rattle.krl_nodes.proofs.Names.{◌<◌, ◌∙◌, length, refl, sym, subst, arith, IsReader, HasOne, HasNone}
use Rattle.krl_nodes.proofs.Hearing.{index_is, some_for, all_server, all_client}
use Rattle.krl_nodes.proofs.post.Post.count_for.Goals as goal

pub returns-then-any_for : goal.returns-then-any_for
returns-then-any_for c = let i = c.self.inside in rw (← c.self.view_is) (
    let one = subst (HasOne c.args.reader) c.deref.ensures.value c.if-any_for.ensures in
    (refl, some_for i.opening.value i.to_server i.to_clients.items i.unsorted.items i.chairs c.self.invariant.1 c.args.reader c.requires one))

pub returns-in-Server : goal.returns-in-Server
returns-in-Server c = let i = c.self.inside in rw (← c.self.view_is, c.in-Server.is) (
    let none = subst (λ r. HasNone r i.unsorted.items) c.in-Server.is (subst (HasNone c.args.reader) c.deref.ensures.value c.if-any_for.ensures) in
    c.len.ensures ∙ sym (all_server i.opening.value i.to_server i.to_clients.items i.unsorted.items i.chairs none))

pub returns-in-Client : goal.returns-in-Client
returns-in-Client c = let i = c.self.inside in rw (← c.self.view_is, c.in-Client.is) (
    let none = subst (λ r. HasNone r i.unsorted.items) c.in-Client.is (subst (HasNone c.args.reader) c.deref.ensures.value c.if-any_for.ensures) in
    let small : c.in-Client.client < length i.to_clients.items = let few : c.in-Client.client < 64 = subst IsReader c.in-Client.is c.requires in omega (arith, few, c.self.invariant.1) in
    c.len-in-Client.ensures ∙ sym (all_client i.opening.value i.to_server i.to_clients.items i.unsorted.items i.chairs c.in-Client.client small none c.index.result.now (sym (index_is i.to_clients.items c.in-Client.client c.index.result.now small c.index.ensures))))
