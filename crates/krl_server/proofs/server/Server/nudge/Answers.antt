use Rattle.krl_server.proofs.Names.{◌≡◌, false, [], subst, State, is_recovering, AnswersWaiters, meaning}
use Rattle.krl_server.proofs.Outputs.Numbers.{all_end}
use Rattle.krl_server.proofs.Functions.NudgeMessages.{few_nudges}
use Rattle.krl_server.proofs.server.Server.nudge.Goals as goal

pub returns-clause-few : goal.returns-clause-few
returns-clause-few c = few_nudges (meaning c.self.inside.state) c.args.client c.nudge.result c.self.invariant.server.sound c.self.invariant.server.ordered.table c.nudge.ensures

pub returns-clause-nobody : goal.returns-clause-nobody
returns-clause-nobody c =
    subst (λ (st : State). is_recovering (meaning st).missing ≡ false → AnswersWaiters (meaning st) (meaning st) []) c.self.view_is
    (all_end.nobody_left (meaning c.self.inside.state) c.self.invariant.server.settled)
