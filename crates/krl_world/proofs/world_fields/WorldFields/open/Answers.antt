use Rattle.krl_world.proofs.Names.{◌≡◌, subst, true, can_start}
use Rattle.krl_world.proofs.Functions.Fresh.{opened_fields, cannot_open}
use Rattle.krl_world.proofs.world_fields.WorldFields.open.Goals as goal

pub returns-in-Ok : goal.returns-in-Ok
returns-in-Ok c = (
  record { kept = c.epoch.ensures.kept; starts = subst (λ d. can_start d ≡ true) c.requires.same c.in-Ok.ensures.epoch; left = c.requires.left },
  opened_fields c.args.durable c.args.opening c.in-Ok.server c.in_ok-places.places.items c.new.result.items c.new-in-Ok.result.items c.requires.same c.epoch.ensures.kept c.in-Ok.ensures.server c.in_ok-places.ensures c.new.ensures.items c.new-in-Ok.ensures.items,
)

pub returns-in-Err : goal.returns-in-Err
returns-in-Err c =
    rw c.not_started.ensures (cannot_open c.args.durable c.args.opening c.in-Err.field-0.refused c.requires.same c.in-Err.ensures.reason)
