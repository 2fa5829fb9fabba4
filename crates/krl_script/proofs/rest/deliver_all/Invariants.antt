use Rattle.std.proofs.Common.{◌-◌, ◌≤◌}
use Rattle.krl_world.specs.Fields.{meaning}
use Rattle.krl_script.specs.Rests.{GoesByRounds, IsWhole, Leads, deliveries}
use Rattle.krl_script.proofs.rest.deliver_all.Given as goal

abbrev pub invariant-messages : goal.invariant-messages
invariant-messages l =
    record {
      goes : GoesByRounds (meaning l.fn.world) (meaning l.world);
      whole : IsWhole (meaning l.fn.world) → IsWhole (meaning l.world);
      leads : Leads (meaning l.fn.world) (deliveries l.fn.past (l.before - l.fn.past)) (meaning l.world);
      within : l.before - l.fn.past ≤ l.fn.last - l.fn.past;
    }
