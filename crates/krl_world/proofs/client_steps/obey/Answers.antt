use Rattle.krl_world.proofs.client_steps.obey.Goals as goal

pub returns-in-Scan-clause-commanded : goal.returns-in-Scan-clause-commanded
returns-in-Scan-clause-commanded c = rw (c.in-Some.is, c.in-Scan.is) (c.scan.ensures c.args.sent.now.items)

pub returns-in-Pin-clause-commanded : goal.returns-in-Pin-clause-commanded
returns-in-Pin-clause-commanded c = rw (c.in-Some.is, c.in-Pin.is) (c.pin.ensures c.args.sent.now.items)

pub returns-in-Unpin-clause-commanded : goal.returns-in-Unpin-clause-commanded
returns-in-Unpin-clause-commanded c = rw (c.in-Some.is, c.in-Unpin.is) (c.unpin.ensures c.args.sent.now.items)
