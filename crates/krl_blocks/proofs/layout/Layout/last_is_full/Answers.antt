use Rattle.std.proofs.Common.{◌-◌, sym, ap, arith}
use Rattle.std.specs.Prelude.{nat_le}
use Rattle.krl_blocks.proofs.Laying.{last_length_is}
use Rattle.krl_blocks.proofs.layout.Layout.last_is_full.Goals as goal

pub returns-else-blocks-eq0 : goal.returns-else-blocks-eq0
returns-else-blocks-eq0 g c = ap (nat_le 64) (sym (last_length_is 64 (c.len-blocks.result - 1) c.args.self.now.shelf.blocks c.get.result.now (omega (arith, c.len-blocks.ensures, c.if-blocks-eq0.false)) c.get.ensures))
