use Rattle.krl_durable.proofs.Names.{sym, arith}
use Rattle.krl_durable.proofs.Kept.{most, most_roomed}
use Rattle.krl_durable.proofs.room.Room.standard.Goals as goal

pub invariant_of-result : goal.invariant_of-result
invariant_of-result c = (omega arith, omega (arith, most_roomed))

pub returns : goal.returns
returns c = sym most
