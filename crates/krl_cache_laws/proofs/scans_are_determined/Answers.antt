use Rattle.krl_cache_laws.proofs.Agreement.{one_find}
use Rattle.krl_cache_laws.proofs.scans_are_determined.Goals as goal

pub returns : goal.returns
returns c = one_find
