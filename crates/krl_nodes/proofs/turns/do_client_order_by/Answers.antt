use Rattle.krl_nodes.proofs.Names.{inl, place_of, Take}
use Rattle.krl_nodes.proofs.Unasked.{client_unasked, client_apart}
use Rattle.krl_nodes.proofs.turns.do_client_order_by.Goals as goal

pub returns-in-Err : goal.returns-in-Err
returns-in-Err g c = let e = c.in-Err.ensures.err in rw c.in-Letter.is (
    client_unasked g.P.Policy.picks c.args.post.now c.args.policy.now c.choose.new.policy c.in-Err.refused e.0 e.2 c.args.number (place_of c.args.seat.now) e.1)

pub returns : goal.returns
returns g c = (Take 0, inl (client_apart g.P.Policy.picks c.args.post.now c.args.policy.now (Take 0) c.args.number c.args.order c.in_default.not-Letter), c.do_client_order-2.ensures)
