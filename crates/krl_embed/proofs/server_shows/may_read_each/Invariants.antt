use Rattle.std.proofs.Common.{◌≤◌, ◌-◌}
use Rattle.krl_server.specs.StateMeaning.{meaning}
use Rattle.krl_embed.specs.Waits.{MayReadEach}
use Rattle.krl_embed.proofs.server_shows.may_read_each.Given as goal

abbrev pub invariant-loop-point : goal.invariant-loop-point
invariant-loop-point l = (l.lo ≤ l.point) × MayReadEach (meaning l.server) l.client l.lo l.point

abbrev pub decreases-loop-point : goal.decreases-loop-point
decreases-loop-point l = l.hi - l.point
