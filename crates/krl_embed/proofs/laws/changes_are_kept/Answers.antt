use Rattle.krl_embed.proofs.KeptLemmas.{all_are_kept}
use Rattle.krl_embed.proofs.laws.changes_are_kept.Goals as goal

pub returns : goal.returns
returns c = all_are_kept
