use Rattle.std.proofs.Common.{◌∙◌}
use Rattle.krl_world.proofs.Functions.Server.{started_at, start_refused_at, start_running_at}
use Rattle.krl_world.proofs.node.ServerPlace.start.Goals as goal

pub returns-in-Up : goal.returns-in-Up
returns-in-Up c = λ w here. start_running_at w c.in-Up.server (here ∙ c.in-Up.is)

pub returns-in-Ok : goal.returns-in-Ok
returns-in-Ok c = λ w here. started_at w c.in-Down.durable c.in-Ok.server (here ∙ c.in-Down.is) c.in-Ok.ensures

pub returns-in-Err : goal.returns-in-Err
returns-in-Err c = λ w here.
    rw c.not_started.ensures (start_refused_at w c.in-Down.durable c.in-Err.field-0.durable c.in-Err.field-0.refused (here ∙ c.in-Down.is) c.in-Err.ensures.durable c.in-Err.ensures.reason)
