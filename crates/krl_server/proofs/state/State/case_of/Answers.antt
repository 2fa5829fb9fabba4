use Rattle.std.proofs.Common.{sym, ◌∙◌}
use Rattle.krl_server.proofs.Functions.WaitersByClient.{not_malformed}
use Rattle.krl_server.proofs.state.State.case_of.Goals as goal

pub case_of_record-requires-clause-client : goal.case_of_record-requires-clause-client
case_of_record-requires-clause-client c = not_malformed c.args.message.now (sym c.is_malformed.ensures ∙ c.if-is_malformed.false)
