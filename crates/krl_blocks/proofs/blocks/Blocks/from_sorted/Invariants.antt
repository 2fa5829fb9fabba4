use Rattle.std.proofs.Common.{◌≡◌, ◌≤◌, take}
use Rattle.krl_blocks.proofs.blocks.Blocks.from_sorted.Given as goal

abbrev pub invariant-loop-key : goal.invariant-loop-key
invariant-loop-key g l =
    record {
      list : l.blocks.list ≡ take l.key-index l.entries;
      room : l.room ≤ l.blocks.room;
    }
