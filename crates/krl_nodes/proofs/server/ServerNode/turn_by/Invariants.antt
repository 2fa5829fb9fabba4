use Rattle.krl_nodes.specs.declared.view.Node.TheVariants.{Server}
use Rattle.krl_nodes.proofs.server.ServerNode.turn_by.Given as goal

abbrev pub ghosts-give_server : goal.ghosts-give_server
ghosts-give_server g a = record { next = Server a._desk.now }
