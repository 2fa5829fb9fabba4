use Rattle.std.proofs.Common.{add-one}
use Rattle.krl_script.specs.RandomRuns.{stage_of}
use Rattle.krl_script.proofs.random.first_unsound_step.Goals as goal

pub steps-preserved : goal.steps-preserved
steps-preserved g c =
    record {
      sound = λ h. (c.in_ok-go_at.ensures.sound (c.steps.invariant.sound h)).1;
      runs = λ h. rw (add-one c.steps.before) (stage_of c.steps.run, c.steps.invariant.runs h, c.in_ok-go_at.ensures.goes);
    }
