use Rattle.std.proofs.Common.{◌≡◌, ◌+◌, length}
use Rattle.krl_script.specs.Undelivered.{waiting_after}
use Rattle.krl_script.proofs.undelivered.pass.Given as goal

abbrev pub invariant-passing : goal.invariant-passing
invariant-passing l =
    record {
      sent : l.past + length l.flags.items ≡ l.fn.past + length l.fn.flags.items;
      waiting : waiting_after l.past l.flags.items ≡ waiting_after l.fn.past l.fn.flags.items;
    }

abbrev pub decreases-passing : goal.decreases-passing
decreases-passing l = length l.flags.items
