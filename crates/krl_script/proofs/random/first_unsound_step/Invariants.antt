use Rattle.krl_world.specs.Fields.{meaning}
use Rattle.krl_world.specs.Promises.{IsCompatible}
use Rattle.krl_script.specs.RandomRuns.{stage_of, RunsRandomly}
use Rattle.krl_script.proofs.random.first_unsound_step.Given as goal

abbrev pub invariant-steps : goal.invariant-steps
invariant-steps g l =
    record {
      sound : IsCompatible (meaning l.fn.run.world) → IsCompatible (meaning l.run.world);
      runs : IsCompatible (meaning l.fn.run.world) → RunsRandomly l.pace l.before (stage_of l.fn.run) (stage_of l.run);
    }
