use Rattle.krl_cache.proofs.Calls.{calls_keep_belief}
use Rattle.krl_cache_laws.proofs.calls_keep_belief.Goals as goal

pub returns : goal.returns
returns c = calls_keep_belief
