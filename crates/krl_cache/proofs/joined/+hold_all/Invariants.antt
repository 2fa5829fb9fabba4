use Rattle.std.proofs.Common.{length}
use Rattle.krl_cache.proofs.joined.+hold_all.Given as goal

abbrev pub decreases-hold_all : goal.decreases-hold_all
decreases-hold_all l = length l.holdings.now
