use Rattle.krl_world.proofs.Names.{◌≡◌, Some, sym, subst, ap, ◌∙◌, err_from_is_err_and, slice_get, HasArrived, server_down, KeptWorld, server_there, node_of, the_view}
use Rattle.krl_world.specs.declared.message.Message.TheVariants as message
use Rattle.krl_world.proofs.Functions.Server.{arrived_at, arrival_memory_at, lost_at}
use Rattle.krl_world.proofs.world_fields.WorldFields.deliver_to_server.Goals as goal

pub returns-in_default : goal.returns-in_default
returns-in_default c = λ m f. rw (← c.self.view_is) (let w = the_view c.self.inside in
    let there = subst (λ (y : KeptWorld). slice_get y.sent c.args.at ≡ Some (message.ToServer m)) (sym c.self.view_is) f in
    lost_at w c.args.at m _ there (ap server_there c.in_default.is))

pub returns-in_err-arrive : goal.returns-in_err-arrive
returns-in_err-arrive c = λ m f. rw (← c.self.view_is) (let w = the_view c.self.inside in
    let there = subst (λ (y : KeptWorld). slice_get y.sent c.args.at ≡ Some (message.ToServer m)) (sym c.self.view_is) f in
    let is = ap server_there c.in-Some.is in
    let p = err_from_is_err_and c.from_residual.result c.from_residual.ensures.1 in
    rw (p.1, p.2) (arrival_memory_at w c.args.at m c.arrive.new.node c.arrive.new.sent.items c.arrive.new.writes.items there (ap (λ n. server_down (node_of n)) is ∙ c.in_err-arrive.ensures.up) (c.in_err-arrive.ensures.err.0 ∙ sym is) c.in_err-arrive.ensures.err.1 c.in_err-arrive.ensures.err.2))

pub returns : goal.returns
returns c = λ m f. rw (← c.self.view_is) (let w = the_view c.self.inside in
    let there = subst (λ (y : KeptWorld). slice_get y.sent c.args.at ≡ Some (message.ToServer m)) (sym c.self.view_is) f in
    arrived_at w c.args.at m c.arrive.new.node c.arrive.new.sent.items c.arrive.new.writes.items there
    (subst (λ n. HasArrived (node_of n) m (node_of c.arrive.new.node) w.sent c.arrive.new.sent.items w.writes c.arrive.new.writes.items) (sym (ap server_there c.in-Some.is)) (c.in_ok-arrive.ensures.ok m there)))
