use Rattle.std.proofs.Common.{◌≡◌, ◌≤◌, ◌++◌, length, take, drop, map}
use Rattle.krl_embed.specs.Rows.{row_of}
use Rattle.krl_embed.proofs.rows.copy_rows.Given as goal

abbrev pub invariant-loop-key : goal.invariant-loop-key
invariant-loop-key l = record {
  within : l.i ≤ length l.fn.found;
  left : drop l.i l.fn.found ≡ l.left;
  rows : l.rows ≡ map row_of (take l.i l.fn.found) ++ drop l.i l.fn.rows;
}

abbrev pub decreases-loop-key : goal.decreases-loop-key
decreases-loop-key l = length l.left
