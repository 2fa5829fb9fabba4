use Rattle.krl_world.proofs.Names.{◌≡◌, ◌≤◌, ◌++◌, arith, Some, length, sym, ap, subst, ◌∙◌, slice_get, ToClient, HasRead}
use Rattle.krl_world.specs.declared.message.Message.TheVariants as sent_message
use Rattle.std.proofs.lemmas.Option.{get_or_from_slice_get}
use Rattle.krl_client.specs.Fields.{meaning}
use Rattle.krl_client.specs.Messages.{client_case_of}
use Rattle.krl_world.specs.States.{from_clients}
use Rattle.krl_world.proofs.Functions.ThreeMessages.{few_said}
use Rattle.krl_world.proofs.client_steps.read_sent.Goals as goal

pub send_to_server-requires : goal.send_to_server-requires
send_to_server-requires c =
    let f = c.in_ok-messages.ensures.follows in
    let k = meaning c.args.client.now in
    let few : length c.in_ok-messages.messages.items ≤ 3 = few_said f.pieces k (client_case_of k c.in-ToClient.message) c.in_ok-messages.messages.items f.says in
    omega (arith, c.in_ok-reserve.ensures.ok)

pub returns-clause-ok : goal.returns-clause-ok
returns-clause-ok c = λ m f.
    let x = c.in-ToClient.message in
    let h = get_or_from_slice_get c.reserve.new.self.items c.args.at (sent_message.ToClient m) c.index.result.now (subst (λ xs. slice_get xs c.args.at ≡ Some (sent_message.ToClient m)) (sym c.reserve.ensures.items) f) in
    let e : m ≡ x = cc (h, c.index.ensures, c.in-ToClient.is) in
    subst (λ (y : ToClient). HasRead (meaning c.args.client.now) y (meaning c.step.new.self) c.args.sent.now.items c.send_to_server.new.sent.items) (sym e)
    (record {
      list = c.in_ok-messages.messages.items;
      follows = c.in_ok-messages.ensures.follows;
      sent = c.send_to_server.ensures ∙ ap (λ xs. xs ++ from_clients c.in_ok-messages.messages.items) c.reserve.ensures.items;
    })
