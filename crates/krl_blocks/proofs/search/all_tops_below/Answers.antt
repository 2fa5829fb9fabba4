use Rattle.krl_blocks.proofs.Guesses.{below_by_last, below_by_none}
use Rattle.krl_blocks.proofs.search.all_tops_below.Goals as goal

pub returns-in-Some : goal.returns-in-Some
returns-in-Some c = below_by_last c.args.tops.now c.in-Some.last.now c.args.point c.requires c.in-Some.ensures.value

pub returns-in-None : goal.returns-in-None
returns-in-None c e = below_by_none c.args.tops.now c.args.point c.in-None.ensures.value
