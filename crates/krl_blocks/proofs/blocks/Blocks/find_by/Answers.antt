use Rattle.std.proofs.Common.{subst}
use Rattle.krl_blocks.specs.Entries.{KeysRise}
use Rattle.krl_blocks.proofs.Readings.{flat_rise}
use Rattle.krl_blocks.proofs.blocks.Blocks.find_by.Goals as goal

pub returns-clause-rises : goal.returns-clause-rises
returns-clause-rises g c = subst (λ e. KeysRise e.list) c.self.view_is (flat_rise c.self.inside.layout.tops.items c.self.inside.layout.shelf.blocks c.self.invariant.kept.laid)
