use Rattle.krl_server.proofs.Names.{◌≡◌, false, subst, IfOk, State, may_change_durable, HasCallbacks, AnswersWrite, meaning}
use Rattle.krl_server.proofs.Functions.Started.{server_kept, few_sent}
use Rattle.std.proofs.lemmas.Result.{IfOk-weaker}
use Rattle.krl_server.proofs.Functions.StepClauses.{durable_said, calls_said, answers_said}
use Rattle.krl_server.proofs.Functions.Standing.{pushes_stand}
use Rattle.krl_durable.specs.Changes.{IsChange}
use Rattle.krl_server.proofs.Outputs.Replayed.{change_said}
use Rattle.krl_server.proofs.server.Server.step.Goals as goal

pub invariant_of-self : goal.invariant_of-self
invariant_of-self c = record {
  server = server_kept c.self.inside.state c.step.new.self c.args.message.now c.step.result c.self.invariant.server c.step.ensures.stepped c.step.ensures.formed c.step.ensures.refused;
  room = c.step.ensures.rooms;
}

pub returns-clause-few : goal.returns-clause-few
returns-clause-few c = few_sent c.self.inside.state c.step.new.self c.args.message.now c.step.result c.self.invariant.server c.step.ensures.stepped

pub returns-clause-durable : goal.returns-clause-durable
returns-clause-durable c =
    subst (λ (old : State). may_change_durable (meaning old) c.args.message.now ≡ false → (meaning c.step.new.self).durable ≡ (meaning old).durable) c.self.view_is
    (durable_said c.self.inside.state c.step.new.self c.args.message.now c.step.result c.step.ensures.stepped c.step.ensures.refused)

pub returns-clause-callbacks : goal.returns-clause-callbacks
returns-clause-callbacks c =
    subst (λ (old : State). IfOk c.step.result (λ out. HasCallbacks (meaning old) c.args.message.now (meaning c.step.new.self) out.messages)) c.self.view_is
    (IfOk-weaker c.step.result _ _ (λ out h. calls_said (meaning c.self.inside.state) (meaning c.step.new.self) c.args.message.now out.messages h.step) c.step.ensures.stepped)

pub returns-clause-answers : goal.returns-clause-answers
returns-clause-answers c =
    subst (λ (old : State). IfOk c.step.result (λ out. AnswersWrite (meaning old) c.args.message.now (meaning c.step.new.self) out.messages)) c.self.view_is
    (IfOk-weaker c.step.result _ _ (λ out h. answers_said (meaning c.self.inside.state) (meaning c.step.new.self) c.args.message.now out.messages h.step) c.step.ensures.stepped)

pub returns-clause-pushes : goal.returns-clause-pushes
returns-clause-pushes c = IfOk-weaker c.step.result _ _ (λ out h. pushes_stand (meaning c.self.inside.state) (meaning c.step.new.self) c.args.message.now out.messages h.step) c.step.ensures.stepped

pub returns-clause-change : goal.returns-clause-change
returns-clause-change c =
    subst (λ (old : State). IfOk c.step.result (λ out. IsChange (meaning old).durable (meaning c.step.new.self).durable out.change)) c.self.view_is
    (IfOk-weaker c.step.result _ _ (λ out h. change_said (meaning c.self.inside.state) (meaning c.step.new.self) c.args.message.now out h) c.step.ensures.stepped)
