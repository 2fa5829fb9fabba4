-- What the fields of an interpreter stand for.
use Rattle.std.specs.Prelude.{Bool}
use Rattle.krl_world.specs.Fields as world
use Rattle.krl_script.specs.Undelivered.{Waits}
use Rattle.krl_script.specs.Transcripts.{Stage}

pub record Fields : Type 0 where
  pub begun : Bool
  pub world : world.KeptWorld
  pub waits : Waits

-- the stage that the fields stand for
abbrev pub meaning : Fields → Stage
meaning i = record { begun = i.begun; world = world.meaning i.world; waits = i.waits }
