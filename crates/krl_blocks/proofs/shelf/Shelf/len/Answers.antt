use Rattle.std.proofs.Common.{sym, ◌∙◌}
use Rattle.krl_blocks.proofs.Changing.{count_is}
use Rattle.krl_blocks.proofs.shelf.Shelf.len.Goals as goal

pub returns : goal.returns
returns g c =
    c.len.ensures ∙ sym (count_is c.self.inside.order c.self.inside.spare c.self.inside.cells c.self.inside.most c.args.self.now c.self.view_is)
