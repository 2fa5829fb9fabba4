use Rattle.std.proofs.Common.{sym, subst}
use Rattle.krl_blocks.specs.Laid.{Rises}
use Rattle.krl_blocks.proofs.Guesses.{taken_rise, dropped_rise}
use Rattle.krl_blocks.proofs.search.is_count_of_tops.Goals as goal

pub all_tops_below-requires : goal.all_tops_below-requires
all_tops_below-requires c = subst Rises (sym c.split_at.ensures.front) (taken_rise c.args.tops.now c.args.count c.requires)

pub no_top_below-requires : goal.no_top_below-requires
no_top_below-requires c = subst Rises (sym c.split_at.ensures.back) (dropped_rise c.args.tops.now c.args.count c.requires)
