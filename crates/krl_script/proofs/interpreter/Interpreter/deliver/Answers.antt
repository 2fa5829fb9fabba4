use Rattle.std.proofs.Common.{sym, ap, ◌∙◌}
use Rattle.krl_world.specs.Fields as world
use Rattle.krl_script.specs.Fields.{Fields}
use Rattle.krl_script.specs.Undelivered.{Waits}
use Rattle.krl_script.specs.Transcripts.{counted}
use Rattle.krl_script.proofs.Interpreting.{waits_delivered, waits_refused}
use Rattle.krl_script.proofs.interpreter.Interpreter.deliver.Goals as goal
use Rattle.krl_script.proofs.interpreter.Interpreter.deliver.Goals.{then-is_ok, else-is_ok}

pub returns : goal.returns
returns c =
    let to = world.meaning c.step-outcome.new.self in
    let delivered = λ (i : Fields). counted (world.meaning i.world) i.waits in
    rw (← c.self.view_is)
    (record {
      world = to;
      steps = c.step-outcome.ensures.steps;
      leaves =
          elim c.if-is_ok.branch [
            | then-is_ok w ↦ c.in_ok-count.ensures ∙ ap delivered w.self-is ∙ ap (λ (x : Waits). counted to x) (w.remove.ensures ∙ waits_delivered c.step-outcome.result c.args.number c.self.inside.waiting (sym c.is_ok.ensures.value ∙ w.if-is_ok.true))
            | else-is_ok w ↦ c.in_ok-count.ensures ∙ ap delivered w.self-is ∙ ap (λ (x : Waits). counted to x) (waits_refused c.step-outcome.result c.args.number c.self.inside.waiting (sym c.is_ok.ensures.value ∙ w.if-is_ok.false))
          ];
    })
