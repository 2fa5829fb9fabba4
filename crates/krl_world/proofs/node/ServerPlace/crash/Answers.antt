use Rattle.std.proofs.Common.{◌∙◌}
use Rattle.krl_world.proofs.Functions.Server.{crashed_at, crash_down_at}
use Rattle.krl_world.proofs.node.ServerPlace.crash.Goals as goal

pub returns-in-Up : goal.returns-in-Up
returns-in-Up c = λ w here. crashed_at w c.in-Up.server c.crash.result (here ∙ c.in-Up.is) c.crash.ensures

pub returns-in-Down : goal.returns-in-Down
returns-in-Down c = λ w here. crash_down_at w c.in-Down.durable (here ∙ c.in-Down.is)
