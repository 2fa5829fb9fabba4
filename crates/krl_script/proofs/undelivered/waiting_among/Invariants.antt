use Rattle.std.proofs.Common.{◌≡◌, ◌≤◌, ℕ, length, take}
use Rattle.krl_script.specs.Undelivered.{waiting_after}
use Rattle.krl_script.proofs.undelivered.waiting_among.Given as goal

abbrev pub invariant-flags : goal.invariant-flags
invariant-flags l =
    record {
      fits : l.waiting ≤ l.i;
      count : (past : ℕ) → l.waiting ≡ length (waiting_after past (take l.i l.flags.items));
    }
