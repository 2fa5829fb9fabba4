use Rattle.std.proofs.Common.{refl, ◌∙◌}
use Rattle.krl_nodes_demo.specs.Deliveries.{begins, reads, obeys}
use Rattle.krl_nodes_demo.proofs.Goings.{asked_goes, ticked_goes, asked_seed}
use Rattle.krl_nodes_demo.proofs.work.insert.Goals as goal

pub loop-turn-init : goal.loop-turn-init
loop-turn-init g c = ((refl, refl, refl), refl, begins)

pub loop-turn-preserved-then-may_lack : goal.loop-turn-preserved-then-may_lack
loop-turn-preserved-then-may_lack g c =
    let i = c.loop-turn.invariant in
    let same = c.tick.ensures.same in
    let is = c.may_lack.ensures.once in
    ((same.0 ∙ i.0.0, same.1 ∙ i.0.1, same.2 ∙ i.0.2), asked_seed c.loop-turn.delivery c.may_lack.new.self is ∙ i.1, ticked_goes _ _ _ _ _ is _ i.2 c.tick.ensures.ticks)

pub loop-turn-preserved-then-is_waiting : goal.loop-turn-preserved-then-is_waiting
loop-turn-preserved-then-is_waiting g c =
    let i = c.loop-turn.invariant in
    let same = c.read-is_read.ensures.same in
    let is = c.may_lack.ensures.once in
    let read = c.read-is_read.ensures.reads in
    ((same.0 ∙ i.0.0, same.1 ∙ i.0.1, same.2 ∙ i.0.2), read.seed ∙ asked_seed c.loop-turn.delivery c.may_lack.new.self is ∙ i.1, reads _ _ _ _ _ (asked_goes _ _ _ _ _ is i.2) read)

pub loop-turn-preserved : goal.loop-turn-preserved
loop-turn-preserved g c =
    let i = c.loop-turn.invariant in
    let same = c.turn.ensures.same in
    let is = c.may_lack.ensures.once in
    ((same.0 ∙ i.0.0, same.1 ∙ i.0.1, same.2 ∙ i.0.2), asked_seed c.loop-turn.delivery c.may_lack.new.self is ∙ i.1, obeys _ _ _ _ _ (asked_goes _ _ _ _ _ is i.2) c.order.ensures c.turn.ensures.turns)

pub returns-in-End-clause-goes : goal.returns-in-End-clause-goes
returns-in-End-clause-goes g c = obeys _ _ _ _ _ (asked_goes _ _ _ _ _ c.may_lack.ensures.once c.loop-turn.invariant.2) c.order.ensures c.turn.ensures.turns
