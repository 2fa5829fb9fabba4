use Rattle.std.proofs.Common.{◌≤◌, length, sym, ap, ◌∙◌}
use Rattle.krl_queue.specs.Turns.{goes_before}
use Rattle.krl_queue.proofs.Nodes.{at_testable, at_null}
use Rattle.krl_queue.proofs.Found.{nobody_past}
use Rattle.krl_queue.proofs.list.WaitList.goes_before.Goals as goal

pub is_null-requires : goal.is_null-requires
is_null-requires c = at_testable _ c.self.invariant.places _ _ c.loop-self.invariant.place

pub returns : goal.returns
returns c =
    let ss = c.self.inside.chain.spots in
    let past : length ss ≤ c.loop-self.i.at = at_null _ c.self.invariant.places _ _ c.loop-self.invariant.place (sym c.is_null.ensures ∙ c.loop-self-test.false) in
    sym (nobody_past c.args.client c.loop-self.i.at ss past c.args.other) ∙ sym c.loop-self.invariant.passed
    ∙ ap (goes_before c.args.client c.args.other) c.self.view_is
