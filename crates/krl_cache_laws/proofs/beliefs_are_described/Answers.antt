use Rattle.krl_cache.proofs.Described.{beliefs_are_described}
use Rattle.krl_cache_laws.proofs.beliefs_are_described.Goals as goal

pub returns : goal.returns
returns c = beliefs_are_described
