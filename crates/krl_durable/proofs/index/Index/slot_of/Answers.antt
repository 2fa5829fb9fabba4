use Rattle.krl_modes.specs.declared.point.TheConstants.{END}
use Rattle.krl_durable.proofs.Slots.{entries_kept}
use Rattle.krl_durable.proofs.SlotLaws.{slot_answered}
use Rattle.krl_durable.proofs.Runs.{slot_found, end_found}
use Rattle.krl_durable.proofs.Kept.{index_seen}
use Rattle.krl_durable.proofs.index.Index.slot_of.Goals as goal

pub returns-in-None-clause-slot : goal.returns-in-None-clause-slot
returns-in-None-clause-slot c = end_found c.args.point c.self.inside.entries.list c.args.self.now.index c.find.result.before c.find.result.run.now c.self.invariant.sorted c.self.invariant.below (index_seen c.self.view_is) c.find.ensures.found c.in-None.ensures.value

pub returns-in-None-clause-least : goal.returns-in-None-clause-least
returns-in-None-clause-least c = slot_answered c.args.self.now.index c.self.inside.entries.list c.args.point END (entries_kept c.self.inside.entries.list c.args.self.now.index c.self.invariant.sorted (index_seen c.self.view_is)) c.self.invariant.sorted c.self.invariant.below (end_found c.args.point c.self.inside.entries.list c.args.self.now.index c.find.result.before c.find.result.run.now c.self.invariant.sorted c.self.invariant.below (index_seen c.self.view_is) c.find.ensures.found c.in-None.ensures.value)

pub returns-in-Some-clause-slot : goal.returns-in-Some-clause-slot
returns-in-Some-clause-slot c = slot_found c.args.point c.self.inside.entries.list c.args.self.now.index c.find.result.before c.find.result.run.now c.self.invariant.sorted c.self.invariant.below (index_seen c.self.view_is) c.find.ensures.found c.in-Some.entry.now c.in-Some.ensures.value

pub returns-in-Some-clause-least : goal.returns-in-Some-clause-least
returns-in-Some-clause-least c = slot_answered c.args.self.now.index c.self.inside.entries.list c.args.point c.in-Some.entry.now.0 (entries_kept c.self.inside.entries.list c.args.self.now.index c.self.invariant.sorted (index_seen c.self.view_is)) c.self.invariant.sorted c.self.invariant.below (slot_found c.args.point c.self.inside.entries.list c.args.self.now.index c.find.result.before c.find.result.run.now c.self.invariant.sorted c.self.invariant.below (index_seen c.self.view_is) c.find.ensures.found c.in-Some.entry.now c.in-Some.ensures.value)
