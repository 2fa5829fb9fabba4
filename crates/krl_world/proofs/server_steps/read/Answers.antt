use Rattle.krl_world.proofs.Names.{◌≡◌, arith, Some, ◌++◌, sym, ap, subst, ◌∙◌, ToServer, slice_get, from_server, HasServed, applied_in, as_list}
use Rattle.krl_world.specs.declared.message.Message.TheVariants as sent_message
use Rattle.krl_server.specs.StateMeaning.{meaning}
use Rattle.krl_world.proofs.Functions.Applies.{served_by}
use Rattle.std.proofs.lemmas.Option.{get_or_from_slice_get}
use Rattle.krl_server.specs.Termination.{max_messages}
use Rattle.krl_world.proofs.server_steps.read.Goals as goal

pub returns-clause-ok : goal.returns-clause-ok
returns-clause-ok c = λ m f.
    let x = c.in-ToServer.message in
    let h = get_or_from_slice_get c.reserve.new.self.items c.args.at (sent_message.ToServer m) c.index.result.now (subst (λ xs. slice_get xs c.args.at ≡ Some (sent_message.ToServer m)) (sym c.reserve.ensures.items) f) in
    let e : m ≡ x = cc (h, c.index.ensures, c.in-ToServer.is) in
    let s = meaning c.args.server.now in
    let t = meaning c.step.new.self in
    let out = c.in_ok-out.out in
    let written : c.note.new.writes.items ≡ c.args.writes.now.items ++ applied_in x out.change =
    c.note.ensures ∙ ap (λ xs. xs ++ as_list c.applied_in.result) c.reserve-2.ensures.items ∙ ap (λ xs. c.args.writes.now.items ++ xs) c.applied_in.ensures in
    subst (λ (y : ToServer). HasServed s y t c.args.sent.now.items c.send_to_clients.new.sent.items c.args.writes.now.items c.note.new.writes.items) (sym e)
    (served_by s t x out c.args.sent.now.items c.send_to_clients.new.sent.items c.args.writes.now.items c.note.new.writes.items c.in_ok-out.ensures.stepped (c.send_to_clients.ensures ∙ ap (λ xs. xs ++ from_server out.messages) c.reserve.ensures.items) written)

pub send_to_clients-requires : goal.send_to_clients-requires
unfolding max_messages
send_to_clients-requires c = let few = c.in_ok-out.ensures.few in omega (arith, c.in_ok-reserve.ensures.ok)
