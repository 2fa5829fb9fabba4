use Rattle.krl_nodes.proofs.Names.{ap, refl, arith, place_of, Client, Take}
use Rattle.krl_nodes.proofs.Events.{client_change}
use Rattle.krl_nodes.proofs.Nodes.{may_give, is_at, exchanged, given_once}
use Rattle.krl_nodes.proofs.client.ClientNode.turn.Goals as goal

pub give_client-requires-clause-may : goal.give_client-requires-clause-may
give_client-requires-clause-may g c =
    let i = c.self.inside in
    let s = c.do_order-answer.ensures.acts in
    may_give i.ticket.me c.take.new.ticket.me c.do_order-answer.new.ticket.me (Client i.number i.seat) (Client i.number c.do_order-answer.new.seat) _ (ap (λ m. m.0.node) c.self.invariant.0.me) c.take.ensures.took s tt
    (client_change (Take 0) i.number (omega (arith, c.self.invariant.1)) c.args.order s.before (place_of i.seat) s.after (place_of c.do_order-answer.new.seat) c.do_order-answer.result s.so)

pub invariant_of-self : goal.invariant_of-self
invariant_of-self g c =
    (is_at c.do_order-answer.new.ticket.me c.give_client.new.ticket.me (Client c.self.inside.number c.do_order-answer.new.seat) c.give_client.ensures.view c.give_client.ensures.stands c.give_client.new.ticket refl, c.self.invariant.1)

pub returns-clause-turns : goal.returns-clause-turns
returns-clause-turns g c = rw (← c.self.view_is) (
    exchanged c.self.inside.ticket.me c.take.new.ticket.me c.do_order-answer.new.ticket.me c.give_client.new.ticket.me (Client c.self.inside.number c.do_order-answer.new.seat) _ c.take.ensures.took c.do_order-answer.ensures.acts c.give_client.ensures.view)

pub returns-clause-once : goal.returns-clause-once
returns-clause-once g c = rw (← c.self.view_is) (
    given_once c.self.inside.ticket.me c.take.new.ticket.me c.do_order-answer.new.ticket.me c.give_client.new.ticket.me (Client c.self.inside.number c.do_order-answer.new.seat) _ c.take.ensures.took c.do_order-answer.ensures.acts c.give_client.ensures.view)
