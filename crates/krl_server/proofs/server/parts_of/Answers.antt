use Rattle.krl_durable.proofs.SlotLaws.{near_end}
use Rattle.krl_server.proofs.server.parts_of.Goals as goal

pub returns-clause-slots : goal.returns-clause-slots
returns-clause-slots c = c.in_ok-table.ensures.slots c.args.durable.now.index (near_end c.args.durable.now.index c.epoch-kept.ensures.kept.keys)
