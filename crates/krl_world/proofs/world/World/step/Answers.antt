use Rattle.krl_world.proofs.Reaching.{by_run}
use Rattle.krl_world.proofs.Functions.Shapes.{step_by_run}
use Rattle.krl_world.proofs.Functions.Runs.{reachable_after, compatible_after, scans_before, writes_after, bounded_after, restarts_after, goes_on_after}
use Rattle.krl_world.proofs.world.World.step.Goals as goal

pub invariant_of-self : goal.invariant_of-self
invariant_of-self c = step_by_run _ _ c.args.step c.step.result c.self.invariant c.step.ensures

pub returns-clause-compatible : goal.returns-clause-compatible
returns-clause-compatible c = compatible_after _ _ c.args.step c.step.result (by_run _ c.self.invariant) c.step.ensures

pub returns-clause-scans : goal.returns-clause-scans
returns-clause-scans c = rw (← c.self.view_is) (scans_before _ _ c.args.step c.step.result (by_run _ c.self.invariant) c.step.ensures)

pub returns-clause-writes : goal.returns-clause-writes
returns-clause-writes c = writes_after _ _ c.args.step c.step.result (by_run _ c.self.invariant) c.step.ensures

pub returns-clause-bounded : goal.returns-clause-bounded
returns-clause-bounded c = bounded_after _ _ c.args.step c.step.result (by_run _ c.self.invariant) c.step.ensures

pub returns-clause-restarts : goal.returns-clause-restarts
returns-clause-restarts c = restarts_after _ _ c.args.step c.step.result (by_run _ c.self.invariant) c.step.ensures

pub returns-clause-reachable : goal.returns-clause-reachable
returns-clause-reachable c = reachable_after _ _ c.args.step c.step.result (by_run _ c.self.invariant) c.step.ensures

pub returns-clause-goes_on : goal.returns-clause-goes_on
returns-clause-goes_on c = goes_on_after _ _ c.args.step c.step.result (by_run _ c.self.invariant) c.step.ensures

pub returns-clause-by_run : goal.returns-clause-by_run
returns-clause-by_run c = step_by_run _ _ c.args.step c.step.result c.self.invariant c.step.ensures
