use Rattle.krl_durable.proofs.Names.{◌∙◌, arith, END}
use Rattle.krl_durable.proofs.Slots.{entries_kept}
use Rattle.krl_durable.proofs.SlotLaws.{slot_answered, span_answered}
use Rattle.krl_durable.proofs.Runs.{before_end, slot_found, low_found, value_found, end_found, end_low, end_value, key_ends}
use Rattle.krl_durable.proofs.Kept.{index_seen}
use Rattle.krl_durable.proofs.index.Index.find_by.Goals as goal

pub point_behind-low-requires : goal.point_behind-low-requires
point_behind-low-requires c = before_end c.args.point c.self.inside.entries.list c.args.self.now.index c.find_by-found.result.before c.find_by-found.result.run.now c.self.invariant.sorted c.self.invariant.below (index_seen c.self.view_is) c.find_by-found.ensures.found

pub returns-in-None-clause-slot : goal.returns-in-None-clause-slot
returns-in-None-clause-slot c = end_found c.args.point c.self.inside.entries.list c.args.self.now.index c.find_by-found.result.before c.find_by-found.result.run.now c.self.invariant.sorted c.self.invariant.below (index_seen c.self.view_is) c.find_by-found.ensures.found c.in-None.ensures.value

pub returns-in-None-clause-least : goal.returns-in-None-clause-least
returns-in-None-clause-least c = slot_answered c.args.self.now.index c.self.inside.entries.list c.args.point END (entries_kept c.self.inside.entries.list c.args.self.now.index c.self.invariant.sorted (index_seen c.self.view_is)) c.self.invariant.sorted c.self.invariant.below (end_found c.args.point c.self.inside.entries.list c.args.self.now.index c.find_by-found.result.before c.find_by-found.result.run.now c.self.invariant.sorted c.self.invariant.below (index_seen c.self.view_is) c.find_by-found.ensures.found c.in-None.ensures.value) c.requires

pub returns-in-None-clause-low : goal.returns-in-None-clause-low
returns-in-None-clause-low c = c.point_behind-low.ensures ∙ end_low c.args.point c.self.inside.entries.list c.args.self.now.index c.find_by-found.result.before c.find_by-found.result.run.now c.self.invariant.sorted c.self.invariant.below (index_seen c.self.view_is) c.find_by-found.ensures.found c.in-None.ensures.value

pub returns-in-None-clause-points : goal.returns-in-None-clause-points
returns-in-None-clause-points c = span_answered c.args.self.now.index c.self.inside.entries.list END c.point_behind-low.result (entries_kept c.self.inside.entries.list c.args.self.now.index c.self.invariant.sorted (index_seen c.self.view_is)) c.self.invariant.sorted (c.point_behind-low.ensures ∙ end_low c.args.point c.self.inside.entries.list c.args.self.now.index c.find_by-found.result.before c.find_by-found.result.run.now c.self.invariant.sorted c.self.invariant.below (index_seen c.self.view_is) c.find_by-found.ensures.found c.in-None.ensures.value) (omega arith)

pub returns-in-None-clause-value : goal.returns-in-None-clause-value
returns-in-None-clause-value c = end_value c.args.point c.self.inside.entries.list c.args.self.now.index c.find_by-found.result.before c.find_by-found.result.run.now c.self.invariant.sorted c.self.invariant.below (index_seen c.self.view_is) c.find_by-found.ensures.found c.in-None.ensures.value

pub returns-in-Some-clause-slot : goal.returns-in-Some-clause-slot
returns-in-Some-clause-slot c = slot_found c.args.point c.self.inside.entries.list c.args.self.now.index c.find_by-found.result.before c.find_by-found.result.run.now c.self.invariant.sorted c.self.invariant.below (index_seen c.self.view_is) c.find_by-found.ensures.found c.in-Some.entry.now c.in-Some.ensures.value

pub returns-in-Some-clause-least : goal.returns-in-Some-clause-least
returns-in-Some-clause-least c = slot_answered c.args.self.now.index c.self.inside.entries.list c.args.point c.in-Some.entry.now.0 (entries_kept c.self.inside.entries.list c.args.self.now.index c.self.invariant.sorted (index_seen c.self.view_is)) c.self.invariant.sorted c.self.invariant.below (slot_found c.args.point c.self.inside.entries.list c.args.self.now.index c.find_by-found.result.before c.find_by-found.result.run.now c.self.invariant.sorted c.self.invariant.below (index_seen c.self.view_is) c.find_by-found.ensures.found c.in-Some.entry.now c.in-Some.ensures.value) c.requires

pub returns-in-Some-clause-low : goal.returns-in-Some-clause-low
returns-in-Some-clause-low c = c.point_behind-low.ensures ∙ low_found c.args.point c.self.inside.entries.list c.args.self.now.index c.find_by-found.result.before c.find_by-found.result.run.now c.self.invariant.sorted c.self.invariant.below (index_seen c.self.view_is) c.find_by-found.ensures.found c.in-Some.entry.now c.in-Some.ensures.value

pub returns-in-Some-clause-points : goal.returns-in-Some-clause-points
returns-in-Some-clause-points c =
    span_answered c.args.self.now.index c.self.inside.entries.list c.in-Some.entry.now.0 c.point_behind-low.result (entries_kept c.self.inside.entries.list c.args.self.now.index c.self.invariant.sorted (index_seen c.self.view_is)) c.self.invariant.sorted (c.point_behind-low.ensures ∙ low_found c.args.point c.self.inside.entries.list c.args.self.now.index c.find_by-found.result.before c.find_by-found.result.run.now c.self.invariant.sorted c.self.invariant.below (index_seen c.self.view_is) c.find_by-found.ensures.found c.in-Some.entry.now c.in-Some.ensures.value)
    (key_ends c.args.point c.self.inside.entries.list c.args.self.now.index c.find_by-found.result.before c.find_by-found.result.run.now c.self.invariant.sorted c.self.invariant.below (index_seen c.self.view_is) c.find_by-found.ensures.found c.in-Some.entry.now c.in-Some.ensures.value)

pub returns-in-Some-clause-value : goal.returns-in-Some-clause-value
returns-in-Some-clause-value c = value_found c.args.point c.self.inside.entries.list c.args.self.now.index c.find_by-found.result.before c.find_by-found.result.run.now c.self.invariant.sorted c.self.invariant.below (index_seen c.self.view_is) c.find_by-found.ensures.found c.in-Some.entry.now c.in-Some.ensures.value
