use Rattle.krl_server.proofs.Names.{sym, ◌∙◌, slots, meaning}
use Rattle.krl_server.proofs.Functions.NudgeMessages.{one_nudged, none_nudged}
use Rattle.krl_server.proofs.state.State.first_waiter_of.Goals as goal

pub returns-in-Some-clause-calls : goal.returns-in-Some-clause-calls
returns-in-Some-clause-calls c =
    c.first_at.ensures.calls ∙ sym (one_nudged (meaning c.args.self.now) c.args.client c.in-Some.waiter c.requires.server.sound.near c.requires.server.ordered.table (sym (c.waiter_of.ensures.waiter c.args.self.now.durable.index c.requires.server.formed.over) ∙ c.in-Some.is))

pub returns-in-None-clause-calls : goal.returns-in-None-clause-calls
returns-in-None-clause-calls c = sym (none_nudged (meaning c.args.self.now) c.args.client (slots c.args.self.now.durable.index) (c.waiter_of.ensures.nowhere c.in-None.is))
