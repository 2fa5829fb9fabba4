use Rattle.std.proofs.Common.{◌≡◌, ◌-◌, ◌≤◌, drop, length}
use denote.RawPtr.{null_ptr}
use Rattle.krl_queue.specs.Segment.{waiters, first_or}
use Rattle.krl_queue.specs.Turns.{goes_before}
use Rattle.krl_queue.proofs.list.WaitList.goes_before.Given as goal

-- neither of them waits before the index
abbrev pub invariant-loop-self : goal.invariant-loop-self
invariant-loop-self l =
    let ss = l.self-inside.chain.spots in
    record {
      within : l.i.at ≤ length ss;
      place : l.at.ptr ≡ first_or null_ptr (drop l.i.at ss);
      passed : goes_before l.client l.other (waiters ss) ≡ goes_before l.client l.other (drop l.i.at (waiters ss));
    }

abbrev pub decreases-loop-self : goal.decreases-loop-self
decreases-loop-self l = length l.self-inside.chain.spots - l.i.at
