use Rattle.std.proofs.Common.{◌≡◌, ◌++◌, take, drop, map}
use Rattle.krl_embed.specs.Shards.{row_of}
use Rattle.krl_embed.proofs.shards.copy_parts.Given as goal

abbrev pub invariant-loop-i : goal.invariant-loop-i
invariant-loop-i l = record {
  copied : l.parts ≡ map row_of (take l.i l.found) ++ drop l.i l.fn.parts;
}
