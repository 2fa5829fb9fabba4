use Rattle.krl_cache_laws.proofs.Determined.{pieces_are_determined}
use Rattle.krl_cache_laws.proofs.pieces_are_determined.Goals as goal

pub returns : goal.returns
returns c = pieces_are_determined
