use Rattle.std.proofs.Common.{◌≡◌, ℕ, ◌+◌, ◌≤◌, Some, length}
use Rattle.std.specs.Io.KnownBytes.{Consumes}
use Rattle.krl_text.specs.Limits.{max_text}
use Rattle.krl_text.specs.Transfers.{Counts}
use Rattle.krl_text.proofs.io.read_text.Given as goal

abbrev pub invariant-loop : goal.invariant-loop
invariant-loop g l =
    record {
      taken : Consumes (g.R.Read.remaining l.fn.reader) (g.R.Read.remaining l.reader) l.text.items;
      short : length l.text.items ≤ max_text;
      counted : Counts (g.R.Source.reads l.fn.reader) (g.R.Source.reads l.reader) l.counter;
      steady :
          (n : ℕ) → g.R.Source.interruptions l.fn.reader ≡ Some n → (m : ℕ) × (g.R.Source.interruptions l.reader ≡ Some m) × (l.counter + m ≤ length l.text.items + n);
    }
