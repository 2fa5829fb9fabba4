use Rattle.krl_server.proofs.Outputs.Replayed.{all_replay}
use Rattle.krl_server.proofs.laws.changes_replay.Goals as goal

pub returns : goal.returns
returns c = all_replay
