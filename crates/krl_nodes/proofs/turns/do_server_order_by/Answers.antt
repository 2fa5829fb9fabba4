use Rattle.krl_nodes.proofs.Names.{inl, node_of, Take}
use Rattle.krl_nodes.proofs.Unasked.{server_unasked, server_apart}
use Rattle.krl_nodes.proofs.turns.do_server_order_by.Goals as goal

pub returns-in-Err : goal.returns-in-Err
returns-in-Err g c = let e = c.in-Err.ensures.err in rw c.in-Letter.is (
    server_unasked g.P.Policy.picks c.args.post.now c.args.policy.now c.choose.new.policy c.in-Err.refused e.0 e.2 (node_of c.args.desk.now) e.1)

pub returns : goal.returns
returns g c = (Take 0, inl (server_apart g.P.Policy.picks c.args.post.now c.args.policy.now (Take 0) c.args.order c.in_default.not-Letter), c.do_server_order-2.ensures)
