use Rattle.std.proofs.Common.{◌-◌}
use Rattle.krl_world.specs.Fields.{meaning}
use Rattle.krl_world.specs.Promises.{IsCompatible}
use Rattle.krl_script.specs.RandomRuns.{RandomStage, stage_of, Hurries}
use Rattle.krl_script.proofs.random.RandomRun.hurry.Given as goal

abbrev pub invariant-deliveries : goal.invariant-deliveries
invariant-deliveries l =
    record {
      sound : IsCompatible (meaning l.fn.self.world) → IsCompatible (meaning l.self.world);
      back : (last : RandomStage) → Hurries (l.most - l.counter) (stage_of l.self) last → Hurries l.most (stage_of l.fn.self) last;
    }
