use Rattle.std.proofs.Common.{◌+◌, ◌<◌, ◌≤◌, ◌++◌, take, length, sym, ap, ◌∙◌, arith}
use Rattle.krl_queue.specs.Segment.{waiters}
use Rattle.krl_queue.specs.Waiting.{first_of}
use Rattle.krl_queue.specs.Turns.{without_first}
use Rattle.krl_queue.proofs.Nodes.{at_testable, at_null, at_some, take_step}
use Rattle.krl_queue.proofs.Found.{hit, miss, slice_get_at, first_past, without_past}
use Rattle.krl_queue.proofs.node_chain.NodeChain.find.Goals as goal

pub is_null-requires : goal.is_null-requires
is_null-requires c = at_testable _ c.requires.places _ _ c.loop-i.invariant.place

pub returns-then-waiter-client-clause-first : goal.returns-then-waiter-client-clause-first
returns-then-waiter-client-clause-first c =
    let i = c.loop-i.i.at in let ws = waiters c.args.self.now.spots in
    c.loop-i.invariant.first ∙ ap (first_of c.args.client) c.waiter.ensures ∙ (hit c.args.client _ _ c.if-waiter-client.true).0 ∙ sym (slice_get_at i ws _ _ c.waiter.ensures)

pub loop-i-preserved : goal.loop-i-preserved
loop-i-preserved c =
    let i = c.loop-i.i.at in let ss = c.args.self.now.spots in let ws = waiters ss in let e = c.waiter.ensures in
    let within : i < length ss = at_some _ c.requires.places _ _ c.loop-i.invariant.place (sym c.is_null.ensures ∙ c.loop-i-test.true) in
    let more : i + 1 ≤ length ss = omega arith in let m = miss c.args.client _ _ c.if-waiter-client.false in
    rw c.next-i.ensures (record {
      within = more;
      place = c.next-at.ensures;
      first = c.loop-i.invariant.first ∙ ap (first_of c.args.client) e ∙ m.0;
      rest = c.loop-i.invariant.rest ∙ ap (λ l. take i ws ++ without_first c.args.client l) e ∙ ap (λ l. take i ws ++ l) m.1 ∙ take_step i ws _ _ _ e;
    })

pub returns-clause-first : goal.returns-clause-first
returns-clause-first c =
    c.loop-i.invariant.first ∙ first_past c.args.client c.loop-i.i.at c.args.self.now.spots (at_null _ c.requires.places _ _ c.loop-i.invariant.place (sym c.is_null.ensures ∙ c.loop-i-test.false))

pub returns-clause-rest : goal.returns-clause-rest
returns-clause-rest c =
    let i = c.loop-i.i.at in let ws = waiters c.args.self.now.spots in
    c.loop-i.invariant.rest ∙ ap (λ l. take i ws ++ l) (without_past c.args.client i c.args.self.now.spots (at_null _ c.requires.places _ _ c.loop-i.invariant.place (sym c.is_null.ensures ∙ c.loop-i-test.false)))
