use Rattle.std.proofs.Common.{arith}
use Rattle.krl_embed.proofs.PartsLemmas.{copied_one}
use Rattle.krl_embed.proofs.shards.copy_parts.Goals as goal

pub loop-i-preserved : goal.loop-i-preserved
loop-i-preserved c = record {
  copied = copied_one c.args.found.now c.args.parts.now c.loop-i.parts c.loop-i.i _ c.of.result c.loop-i-test.true
      (omega (arith, c.if-parts-count.false)) c.of.ensures c.loop-i.invariant.copied;
}
