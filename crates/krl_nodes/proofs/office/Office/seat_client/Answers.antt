use Rattle.krl_nodes.proofs.Names.{None, refl, inl, inr, ap, arith, Server, Client, Blank}
use Rattle.std.proofs.Math.ListN.{length-set}
use Rattle.krl_nodes.proofs.Nodes.{may_give, is_at, at_same, joined_at}
use Rattle.krl_nodes.proofs.office.Office.seat_client.Goals as goal

pub invariant_of-server : goal.invariant_of-server
invariant_of-server g c =
    let i = c.server.inside in
    (joined_at c.blank-ticket.new.ticket c.unblank.new.ticket (Server i.desk) c.give_back.new.ticket.me.0 (at_same i.ticket c.blank-ticket.new.ticket (Server i.desk) c.server.invariant.0 c.blank-ticket.ensures.same.2) c.unblank.ensures.joined, c.server.invariant.1)

pub give_client-requires-clause-may : goal.give_client-requires-clause-may
give_client-requires-clause-may g c =
    let s = c.in-Free.ensures.sits in
    may_give c.blank-ticket.result.me c.take.new.ticket.me c.sit.new.ticket.me Blank (Client c.args.number (record { last_incarnation = c.in-Free.last_incarnation; client = None })) _ (ap (λ m. m.0.node) c.blank-ticket.ensures.blank.1) c.take.ensures.took s tt
    (inr (inr (inl (c.args.number, c.in-Free.last_incarnation, refl, s.so.0, refl, s.so.1))))

pub invariant_of-result : goal.invariant_of-result
invariant_of-result g c =
    (is_at c.sit.new.ticket.me c.give_client.new.ticket.me (Client c.args.number (record { last_incarnation = c.in-Free.last_incarnation; client = None })) c.give_client.ensures.view c.give_client.ensures.stands c.give_client.new.ticket refl, omega arith)

pub invariant_of-server-in-Free : goal.invariant_of-server-in-Free
invariant_of-server-in-Free g c =
    let i = c.server.inside in
    (at_same i.ticket c.blank-ticket.new.ticket (Server i.desk) c.server.invariant.0 c.blank-ticket.ensures.same.2, simp length-set c.server.invariant.1)
