use Rattle.krl_server.proofs.Names.{sym, ap, ◌∙◌, is_registered}
use Rattle.krl_server.proofs.Functions.NudgeMessages.{known_low}
use Rattle.krl_server.proofs.state.State.is_registered.Goals as goal

pub returns-in-Some-clause-client : goal.returns-in-Some-clause-client
returns-in-Some-clause-client c = λ yes. known_low c.args.self.now.durable.register c.args.client c.epoch-kept.ensures.kept.clients (ap is_registered (sym c.record.ensures ∙ c.in-Some.is) ∙ yes)
