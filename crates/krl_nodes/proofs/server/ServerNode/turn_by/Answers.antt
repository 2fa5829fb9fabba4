use Rattle.krl_nodes.proofs.Names.{ap, refl, node_of, Server}
use Rattle.krl_nodes.proofs.Events.{server_change}
use Rattle.krl_nodes.proofs.Nodes.{may_give, is_at, exchanged, given_once}
use Rattle.krl_nodes.proofs.server.ServerNode.turn_by.Goals as goal

pub give_server-requires-clause-may : goal.give_server-requires-clause-may
give_server-requires-clause-may g c =
    let i = c.self.inside in
    let s = c.do_order_by-answer.ensures.acts in
    may_give i.ticket.me c.take.new.ticket.me c.do_order_by-answer.new.ticket.me (Server i.desk) (Server c.do_order_by-answer.new.desk) _ (ap (λ m. m.0.node) c.self.invariant.0.me) c.take.ensures.took s tt
    (server_change s.so.0 c.args.order s.before (node_of i.desk) s.after (node_of c.do_order_by-answer.new.desk) c.do_order_by-answer.result s.so.2)

pub invariant_of-self : goal.invariant_of-self
invariant_of-self g c =
    (is_at c.do_order_by-answer.new.ticket.me c.give_server.new.ticket.me (Server c.do_order_by-answer.new.desk) c.give_server.ensures.view c.give_server.ensures.stands c.give_server.new.ticket refl, c.self.invariant.1)

pub returns-clause-turns : goal.returns-clause-turns
returns-clause-turns g c = rw (← c.self.view_is) (
    exchanged c.self.inside.ticket.me c.take.new.ticket.me c.do_order_by-answer.new.ticket.me c.give_server.new.ticket.me (Server c.do_order_by-answer.new.desk) _ c.take.ensures.took c.do_order_by-answer.ensures.acts c.give_server.ensures.view)

pub returns-clause-once : goal.returns-clause-once
returns-clause-once g c = rw (← c.self.view_is) (
    given_once c.self.inside.ticket.me c.take.new.ticket.me c.do_order_by-answer.new.ticket.me c.give_server.new.ticket.me (Server c.do_order_by-answer.new.desk) _ c.take.ensures.took c.do_order_by-answer.ensures.acts c.give_server.ensures.view)
