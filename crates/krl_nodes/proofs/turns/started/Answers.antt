use Rattle.krl_nodes.proofs.Halts.{begins}
use Rattle.krl_nodes.proofs.turns.started.Goals as goal

pub returns : goal.returns
returns c = λ p mail. rw c.did.ensures (begins p mail c.args.desk c.start-desk.result.0 c.start-desk.result.1 c.start-desk.ensures)
