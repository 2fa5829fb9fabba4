use Rattle.krl_world.proofs.Names.{sym, subst, IsReachedByRun}
use Rattle.krl_durable.specs.Migrations.{migrated}
use Rattle.krl_world.proofs.Functions.Shapes.{first_by_run}
use Rattle.krl_world.proofs.world.World.migrate.Goals as goal

pub invariant_of-result : goal.invariant_of-result
invariant_of-result c = let e = c.in_ok-fields.ensures in subst IsReachedByRun (sym e.1) (first_by_run (migrated c.args.old.now) e.0)
