use Rattle.std.proofs.Common.{length}
use Rattle.krl_cache.proofs.joined.+joined_to.Given as goal

abbrev pub decreases-joined_to : goal.decreases-joined_to
decreases-joined_to l = length l.holdings.now
