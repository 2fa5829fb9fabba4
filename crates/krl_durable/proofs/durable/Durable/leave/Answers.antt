use Rattle.krl_durable.proofs.durable.Durable.leave.Goals as goal

pub replace-requires-clause-each : goal.replace-requires-clause-each
replace-requires-clause-each c = c.in-Some.ensures.each
