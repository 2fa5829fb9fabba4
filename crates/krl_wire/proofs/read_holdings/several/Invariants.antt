use Rattle.std.proofs.Common.{◌≡◌, ◌≤◌, ◌-◌, ◌++◌, ◌∷◌, [], length}
use Rattle.krl_messages.specs.declared.holding.Holding.{Holding}
use Rattle.krl_messages.specs.Ascending.{Ascend}
use Rattle.krl_wire.specs.Reading.{holdings_from}
use Rattle.krl_wire.proofs.Loop.{with_front}
use Rattle.krl_wire.proofs.read_holdings.several.Given as goal

-- what begins at the end of the last holding or later may come after it
abbrev pub invariant-loop : goal.invariant-loop
invariant-loop l =
    record {
      read : with_front l.gathering.holdings (holdings_from (l.count - l.counter) l.least l.reader) ≡ holdings_from l.count 0
          l.fn.reader;
      many : length l.gathering.holdings ≡ l.counter;
      behind : (h : Holding) → l.least ≤ h.span.lo → Ascend (l.gathering.holdings ++ h ∷ []);
      order : Ascend l.gathering.holdings;
      room : l.count ≤ l.gathering.room;
    }
