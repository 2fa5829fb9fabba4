use Rattle.std.proofs.Common.{inl}
use Rattle.krl_world.specs.Fields.{meaning}
use Rattle.krl_runs.proofs.random.rest_over.Goals as goal

pub returns-in-Ok-default-true : goal.returns-in-Ok-default-true
returns-in-Ok-default-true g c =
    inl (
      g.W.Write.contents c.drive.new.writer,
      c.in-Ok-default-true.ensures.wrote,
      (
        meaning c.bring_to_rest-ended.new.world,
        c.bring_to_rest-ended.result,
        c.bring_to_rest-ended.ensures.reachable,
        c.bring_to_rest-ended.ensures.ended,
        c.bring_to_rest-ended.ensures.wrote,
        c.status_of_rest.ensures,
      ),
    )
