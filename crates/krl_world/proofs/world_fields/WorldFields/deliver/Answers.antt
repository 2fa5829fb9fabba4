use Rattle.krl_world.proofs.Names.{◌≡◌, ◌<◌, ◌⊎◌, inl, inr, length, ◌-◌, arith, refl, the_view}
use Rattle.krl_world.specs.declared.message.Message.TheVariants as message
use Rattle.krl_world.proofs.Functions.Server.{no_message, nth_delivered}
use Rattle.krl_world.proofs.world_fields.WorldFields.deliver.Goals.{then-number-eq0-via-then-number-eq0, then-number-eq0-via-else-number-eq0+then-number-len}
use Rattle.krl_world.proofs.world_fields.WorldFields.deliver.Goals as goal

pub returns-then-number-eq0 : goal.returns-then-number-eq0
returns-then-number-eq0 c = rw (← c.self.view_is) (let w = the_view c.self.inside in
    let out : (c.args.number ≡ 0) ⊎ (length w.sent < c.args.number) = elim c.then-number-eq0.branch [
      | then-number-eq0-via-then-number-eq0 z ↦ inl z.if-number-eq0.true
      | then-number-eq0-via-else-number-eq0+then-number-len z ↦ inr (omega (arith, c.self.inside.sent.ok.0))
    ] in
    no_message w c.args.number out)

pub returns-in-ToServer : goal.returns-in-ToServer
returns-in-ToServer c =
    nth_delivered (the_view c.self.inside) c.args.self.now _ c.args.number c.index.result.now (message.ToServer c.in-ToServer.field-0) c.deliver_to_server.result c.self.view_is c.if-number-eq0.false (omega (arith, c.self.inside.sent.ok.0)) c.index.ensures
    c.in-ToServer.is (c.deliver_to_server.ensures c.in-ToServer.field-0)

pub returns-in-ToClient : goal.returns-in-ToClient
returns-in-ToClient c =
    nth_delivered (the_view c.self.inside) c.args.self.now _ c.args.number c.index.result.now (message.ToClient c.in-ToClient.message) c.deliver_to_client.result c.self.view_is c.if-number-eq0.false (omega (arith, c.self.inside.sent.ok.0)) c.index.ensures
    c.in-ToClient.is (λ f. c.deliver_to_client.ensures c.in-ToClient.message f refl)
