use Rattle.std.proofs.Common.{◌≡◌, ◌+◌, ◌++◌, length}
use Rattle.krl_script.specs.Undelivered.{waiting_after, numbers}
use Rattle.krl_script.proofs.undelivered.Undelivered.count.Given as goal

abbrev pub invariant-loop : goal.invariant-loop
invariant-loop l =
    record {
      count : l.self-inside.past + length l.self-inside.flags.items ≡ l.counted + l.counter;
      waiting : waiting_after l.self-inside.past l.self-inside.flags.items ≡ waiting_after l.initial.self-inside.past l.initial.self-inside.flags.items ++ numbers l.counted l.counter;
    }
