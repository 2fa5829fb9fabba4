use Rattle.krl_world.specs.Fields.{meaning}
use Rattle.krl_script.specs.Rests.{GoesByRounds, IsWhole, Leads, starts_below}
use Rattle.krl_script.proofs.rest.start_all.Given as goal

abbrev pub invariant-clients : goal.invariant-clients
invariant-clients l =
    record {
      goes : GoesByRounds (meaning l.fn.world) (meaning l.world);
      whole : IsWhole (meaning l.world);
      leads : Leads (meaning l.fn.world) (starts_below l.client) (meaning l.world);
    }
