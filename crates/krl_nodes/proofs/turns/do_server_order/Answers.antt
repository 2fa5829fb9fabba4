use Rattle.krl_nodes.proofs.turns.do_server_order.Goals as goal

pub returns-in-Nudge : goal.returns-in-Nudge
returns-in-Nudge c = rw c.in-Nudge.is (c.nudge.ensures c.args.pick)

pub returns-in-Crash : goal.returns-in-Crash
returns-in-Crash c = rw c.in-Crash.is (c.replace_with.ensures c.args.pick c.args.post.now)

pub returns-in-Start : goal.returns-in-Start
returns-in-Start c = rw c.in-Start.is (c.replace_with-in-Start.ensures c.args.pick c.args.post.now)
