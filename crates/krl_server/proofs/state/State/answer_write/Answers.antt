use Rattle.krl_server.proofs.Names.{◌∙◌, ap, subst, arith, slot_of, meaning, pushes, holding, Sends}
use Rattle.krl_messages.specs.declared.to_client.PushBody.TheVariants as push
use Rattle.krl_server.proofs.state.State.answer_write.Goals as goal

pub holding-holding-requires-clause-slot : goal.holding-holding-requires-clause-slot
holding-holding-requires-clause-slot c = (c.slot_of-slot.ensures.least (omega (arith, c.key.ensures, c.requires.key))).slot

pub returns-clause-server : goal.returns-clause-server
returns-clause-server c =
    let s = meaning c.args.self.now in
    let slot = c.slot_of-slot.ensures.slot ∙ ap (slot_of c.args.self.now.durable.index) c.key.ensures in
    c.push.ensures.server ∙ ap (λ h. (pushes s c.args.client (push.Answer c.args.number c.args.outcome h)).server) (c.holding-holding.ensures ∙ ap (λ n. holding s n c.args.client) slot)

pub returns-clause-sent : goal.returns-clause-sent
returns-clause-sent c =
    let s = meaning c.args.self.now in
    let slot = c.slot_of-slot.ensures.slot ∙ ap (slot_of c.args.self.now.durable.index) c.key.ensures in
    subst (λ h. Sends c.args.outbox.now c.push.new.outbox (pushes s c.args.client (push.Answer c.args.number c.args.outcome h)).outs) (c.holding-holding.ensures ∙ ap (λ n. holding s n c.args.client) slot) c.push.ensures.sent
