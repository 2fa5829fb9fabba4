use Rattle.std.proofs.Common.{length}
use Rattle.krl_cache.proofs.several.+make_room.Given as goal

abbrev pub decreases-make_room : goal.decreases-make_room
decreases-make_room l = length l.holdings.now
