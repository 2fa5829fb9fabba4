use Rattle.krl_server.specs.StateMeaning.{meaning}
use Rattle.krl_server.proofs.Functions.Facts.{reporter}
use Rattle.krl_server.proofs.state.State.take_report.Goals as goal

pub report-requires-clause-client : goal.report-requires-clause-client
report-requires-clause-client c = reporter (meaning c.args.self.now) c.args.message.now _ _ c.requires.case c.in-Report.is
