use Rattle.krl_world.specs.Fields.{meaning}
use Rattle.krl_script.specs.Rests.{GoesByRounds, IsWhole, Leads, ticks_below}
use Rattle.krl_script.proofs.rest.tick_all.Given as goal

abbrev pub invariant-clients : goal.invariant-clients
invariant-clients l =
    record {
      goes : GoesByRounds (meaning l.fn.world) (meaning l.world);
      whole : IsWhole (meaning l.fn.world) → IsWhole (meaning l.world);
      leads : Leads (meaning l.fn.world) (ticks_below l.client) (meaning l.world);
    }
