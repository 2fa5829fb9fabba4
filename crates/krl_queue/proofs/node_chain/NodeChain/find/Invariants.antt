use Rattle.std.proofs.Common.{◌≡◌, ◌-◌, ◌≤◌, ◌++◌, take, drop, length}
use denote.RawPtr.{null_ptr}
use Rattle.krl_queue.specs.Segment.{waiters, first_or}
use Rattle.krl_queue.specs.Waiting.{first_of}
use Rattle.krl_queue.specs.Turns.{without_first}
use Rattle.krl_queue.proofs.node_chain.NodeChain.find.Given as goal

-- nobody before the index is the client
abbrev pub invariant-loop-i : goal.invariant-loop-i
invariant-loop-i l =
    let ss = l.fn.self.spots in let ws = waiters ss in
    record {
      within : l.i.at ≤ length ss;
      place : l.at.ptr ≡ first_or null_ptr (drop l.i.at ss);
      first : first_of l.fn.client ws ≡ first_of l.fn.client (drop l.i.at ws);
      rest : without_first l.fn.client ws ≡ take l.i.at ws ++ without_first l.fn.client (drop l.i.at ws);
    }

abbrev pub decreases-loop-i : goal.decreases-loop-i
decreases-loop-i l = length l.fn.self.spots - l.i.at
