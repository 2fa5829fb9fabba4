use Rattle.krl_nodes.specs.declared.view.Node.TheVariants.{Client}
use Rattle.krl_nodes.proofs.client.ClientNode.turn_by.Given as goal

abbrev pub ghosts-give_client : goal.ghosts-give_client
ghosts-give_client g a = record { next = Client a._number a._seat.now }
