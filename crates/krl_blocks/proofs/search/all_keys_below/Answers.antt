use Rattle.krl_blocks.proofs.Guesses.{keys_below_by_last, keys_below_by_none}
use Rattle.krl_blocks.proofs.search.all_keys_below.Goals as goal

pub returns-in-Some : goal.returns-in-Some
returns-in-Some g c = keys_below_by_last c.args.entries.now c.in-Some.last.now c.args.point c.requires c.in-Some.ensures.value

pub returns-in-None : goal.returns-in-None
returns-in-None g c e = keys_below_by_none c.args.entries.now c.args.point c.in-None.ensures.value
