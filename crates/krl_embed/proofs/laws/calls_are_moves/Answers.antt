use Rattle.krl_embed.proofs.CallLemmas.{calls_are_moves}
use Rattle.krl_embed.proofs.laws.calls_are_moves.Goals as goal

pub returns : goal.returns
returns c = calls_are_moves
