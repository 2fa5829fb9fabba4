use denote.Param.Send.{sendable}
use Rattle.krl_nodes.proofs.Sent.{office_sync}
use Rattle.krl_nodes_demo.proofs.Sent.{serving_sent, writer_sent}
use Rattle.krl_nodes_demo.proofs.run.run.Goals as goal

pub together-serving-requires-sync-T : goal.together-serving-requires-sync-T
together-serving-requires-sync-T g c κs within = record { shared = office_sync.shared }

pub together-serving-requires-send-A : goal.together-serving-requires-send-A
together-serving-requires-send-A g c κs within = let a = serving_sent in search sendable depth 8 fits 2000

pub together-serving-requires-send-B : goal.together-serving-requires-send-B
together-serving-requires-send-B g c κs within = let a = writer_sent in search sendable depth 8 fits 2000
