use Rattle.krl_world.proofs.Examples.InsertAtServer.{entry}
use Rattle.krl_world.proofs.Examples.InsertRun.{v8, written_reached, listed, told_applied}
use Rattle.krl_world.proofs.laws.writes_somewhere.Goals as goal

pub returns : goal.returns
returns c = (v8, entry, written_reached, told_applied, listed)
