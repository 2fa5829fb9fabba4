use Rattle.krl_world.specs.Fields.{meaning}
use Rattle.krl_script.proofs.RandomLemmas.{sound_points}
use Rattle.krl_script.proofs.rest.is_sound.Goals as goal

pub returns-clause-sound : goal.returns-clause-sound
returns-clause-sound c = sound_points (meaning c.args.world.now) 4 64 c.least_unsound.result c.is_none.result c.least_unsound.ensures c.is_none.ensures
