use Rattle.krl_nodes.proofs.turns.do_client_order.Goals as goal

pub returns-in-Command : goal.returns-in-Command
returns-in-Command c = rw (c.in-Command.is, c.did.ensures) (c.obey.ensures c.args.pick c.args.number)

pub returns-in-Tick : goal.returns-in-Tick
returns-in-Tick c = rw c.in-Tick.is (c.tick.ensures c.args.pick c.args.number)

pub returns-in-Crash : goal.returns-in-Crash
returns-in-Crash c = rw c.in-Crash.is (c.crash.ensures c.args.pick c.args.number c.args.post.now)

pub returns-in-Ok : goal.returns-in-Ok
returns-in-Ok c = rw c.in-Start.is (c.in-Ok.ensures c.args.pick)

pub returns-in-Err : goal.returns-in-Err
returns-in-Err c = rw c.in-Start.is (c.in-Err.ensures c.args.pick)
