use Rattle.krl_embed.proofs.ClientCallLemmas as lemmas
use Rattle.krl_embed.proofs.laws.client_calls_are_steps.Goals as goal

pub returns : goal.returns
returns c = lemmas.client_calls_are_steps
