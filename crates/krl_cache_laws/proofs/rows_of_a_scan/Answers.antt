use Rattle.krl_cache.proofs.OneScan.{rows_are_determined}
use Rattle.krl_cache_laws.proofs.rows_of_a_scan.Goals as goal

pub returns : goal.returns
returns c = rows_are_determined
