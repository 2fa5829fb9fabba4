use Rattle.krl_blocks.proofs.Guesses.{from_by_first, from_by_none}
use Rattle.krl_blocks.proofs.search.no_top_below.Goals as goal

pub returns-in-Some : goal.returns-in-Some
returns-in-Some c = from_by_first c.args.tops.now c.in-Some.first.now c.args.point c.requires c.in-Some.ensures.value

pub returns-in-None : goal.returns-in-None
returns-in-None c e = from_by_none c.args.tops.now c.args.point c.in-None.ensures.value
