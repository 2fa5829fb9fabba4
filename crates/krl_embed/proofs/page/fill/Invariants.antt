use Rattle.std.proofs.Common.{◌≡◌, ◌≤◌, ◌-◌, ◌++◌, length, take, drop, map}
use Rattle.std.specs.FinMap as fin
use Rattle.krl_blocks.specs.Entries.{IsRun}
use Rattle.krl_durable.specs.Index.{range}
use Rattle.krl_embed.specs.Rows.{row_of}
use Rattle.krl_embed.proofs.page.fill.Given as goal

abbrev pub invariant-loop-entry : goal.invariant-loop-entry
invariant-loop-entry l = let found = range l.fn.durable.index l.fn.lo l.fn.hi in record {
  within : l.count ≤ length found;
  room : l.count ≤ length l.fn.rows;
  left : drop l.count found ≡ range l.fn.durable.index l.point l.fn.hi;
  rows : l.rows ≡ map row_of (take l.count found) ++ drop l.count l.fn.rows;
  run : IsRun (fin.entries l.fn.durable.index) l.point l.run;
}

abbrev pub decreases-loop-entry : goal.decreases-loop-entry
decreases-loop-entry l = l.hi - l.point
