use Rattle.std.proofs.lemmas.Result.{IfOk-weaker}
use Rattle.krl_world.specs.Fields as world
use Rattle.krl_script.proofs.interpreter.Interpreter.act.Goals as goal

pub returns : goal.returns
returns c =
    rw (← c.self.view_is)
    (IfOk-weaker c.outcome.result _ _ (λ line e. record { outcome = c.step-outcome.result; world = world.meaning c.step-outcome.new.self; steps = c.step-outcome.ensures.steps; prints = e; leaves = c.in_ok-count.ensures }) c.outcome.ensures)
