use Rattle.krl_nodes.proofs.Halts.{stops}
use Rattle.krl_nodes.proofs.turns.crashed.Goals as goal

pub returns : goal.returns
returns c = λ p mail. rw c.did.ensures (stops p mail c.args.desk c.crash-desk.result.0 c.crash-desk.result.1 c.crash-desk.ensures)
