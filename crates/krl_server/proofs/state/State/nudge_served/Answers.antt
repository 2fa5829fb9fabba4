use Rattle.krl_server.proofs.Names.{◌<◌, length, ap, arith, max_clients, meaning}
use Rattle.krl_server.proofs.Outputs.Numbers.{sixty_four, for_few}
use Rattle.krl_server.proofs.state.State.nudge_served.Goals as goal

pub call_back_for-requires-clause-room : goal.call_back_for-requires-clause-room
call_back_for-requires-clause-room c =
    let w = c.in-Some-first_waiter_of in
    let own = w.ensures.client in
    let low = c.requires.client in
    let all = sixty_four in
    let lt : w.first.waiter.client < max_clients = omega (arith, own, low, all) in
    let few = for_few (meaning c.args.self.now) w.slot w.first.waiter lt in
    let e = c.in_ok-outbox-in-Some-first_waiter_of.ensures in
    let sent = ap (λ b. length b.sent) e in
    let room = ap (λ b. b.room) e in
    omega (arith, few, sent, room)
