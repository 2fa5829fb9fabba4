use Rattle.std.proofs.Common.{rules}
use Rattle.krl_nodes.proofs.Gives.{gives_post_as}
use Rattle.krl_nodes.proofs.office.Office.give_back.Goals as goal

pub store-requires : goal.store-requires
store-requires g c = (search rules, search rules, gives_post_as _ _ _ _ c.requires.may)
