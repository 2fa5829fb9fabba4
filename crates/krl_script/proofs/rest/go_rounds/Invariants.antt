use Rattle.krl_world.specs.Fields.{meaning}
use Rattle.krl_script.specs.Rests.{GoesByRounds, IsWhole, Rounds}
use Rattle.krl_script.proofs.rest.go_rounds.Given as goal

abbrev pub invariant-rounds : goal.invariant-rounds
invariant-rounds l =
    record {
      goes : GoesByRounds (meaning l.fn.world) (meaning l.world);
      whole : IsWhole (meaning l.fn.world) → IsWhole (meaning l.world);
      rounds : Rounds (meaning l.fn.world) l.fn.past l.rounds l.past (meaning l.world);
    }
