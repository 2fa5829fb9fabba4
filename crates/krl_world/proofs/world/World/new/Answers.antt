use Rattle.krl_world.proofs.Names.{sym, subst, unused, IsReachedByRun}
use Rattle.krl_world.proofs.Functions.Shapes.{first_by_run}
use Rattle.krl_world.proofs.world.World.new.Goals as goal

pub invariant_of-result : goal.invariant_of-result
invariant_of-result c = let e = c.in_ok-fields.ensures in subst IsReachedByRun (sym e.2) (first_by_run (unused c.args.entries.items) e.1)
