use Rattle.krl_world.proofs.Names.{arith, subst, meaning, Steps}
use Rattle.krl_world.proofs.Reaching.{by_run}
use Rattle.krl_world.proofs.Functions.Runs.{run_steps, run_ends, compatible_at, writes_at}
use Rattle.krl_world.proofs.world.World.run.Goals as goal

pub loop-step-preserved : goal.loop-step-preserved
loop-step-preserved c = record {
  goes =
      run_steps (meaning c.args.self.now) (meaning c.loop-step.self) (meaning c.step.new.self) c.args.steps.now c.loop-step.step-index c.step-item.result c.loop-step.answers.items _ c.step.result c.loop-step-test.true c.loop-step.invariant.goes (subst (λ s. Steps (meaning c.loop-step.self) s c.step.result (meaning c.step.new.self)) c.step-item.is c.step.ensures.steps)
      c.push_reserved.ensures.items;
  counted = omega arith;
  reached = c.step.ensures.by_run;
  room = omega arith;
}

pub returns-clause-runs : goal.returns-clause-runs
returns-clause-runs c = run_ends (meaning c.args.self.now) (meaning c.loop-step.self) c.args.steps.now c.loop-step.step-index c.loop-step.answers.items c.loop-step-test.false c.loop-step.invariant.goes

pub returns-clause-compatible : goal.returns-clause-compatible
returns-clause-compatible c = compatible_at _ (by_run _ c.loop-step.invariant.reached)

pub returns-clause-writes : goal.returns-clause-writes
returns-clause-writes c = writes_at _ (by_run _ c.loop-step.invariant.reached)

pub returns-in_err-answers-clause-compatible : goal.returns-in_err-answers-clause-compatible
returns-in_err-answers-clause-compatible c = rw (← c.self.view_is) (compatible_at _ (by_run _ c.self.invariant))

pub returns-in_err-answers-clause-writes : goal.returns-in_err-answers-clause-writes
returns-in_err-answers-clause-writes c = rw (← c.self.view_is) (writes_at _ (by_run _ c.self.invariant))

pub returns-clause-reachable : goal.returns-clause-reachable
returns-clause-reachable c = by_run _ c.loop-step.invariant.reached

pub returns-in_err-answers-clause-reachable : goal.returns-in_err-answers-clause-reachable
returns-in_err-answers-clause-reachable c = rw (← c.self.view_is) (by_run _ c.self.invariant)
