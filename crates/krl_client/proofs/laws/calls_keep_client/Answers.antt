use Rattle.krl_client.proofs.Keeping.{client_keeps}
use Rattle.krl_client.proofs.laws.calls_keep_client.Goals as goal

pub returns : goal.returns
returns c = client_keeps
