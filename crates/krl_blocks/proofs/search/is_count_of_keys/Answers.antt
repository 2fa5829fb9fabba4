use Rattle.std.proofs.Common.{sym, subst}
use Rattle.krl_blocks.specs.Laid.{KeysRise}
use Rattle.krl_blocks.proofs.Edits.{rise_behind}
use Rattle.krl_blocks.proofs.Guesses.{taken_keys_rise}
use Rattle.krl_blocks.proofs.search.is_count_of_keys.Goals as goal

pub all_keys_below-requires : goal.all_keys_below-requires
all_keys_below-requires g c = subst KeysRise (sym c.split_at.ensures.front) (taken_keys_rise c.args.entries.now c.args.count c.requires)

pub no_key_below-requires : goal.no_key_below-requires
no_key_below-requires g c = subst KeysRise (sym c.split_at.ensures.back) (rise_behind c.args.entries.now c.args.count c.requires)
