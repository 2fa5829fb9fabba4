use Rattle.std.proofs.Common.{◌<◌, length, sym, subst}
use Rattle.krl_blocks.proofs.Kept.{some_room}
use Rattle.krl_blocks.proofs.blocks.Blocks.insert.Goals as goal

pub insert-requires-clause-some : goal.insert-requires-clause-some
insert-requires-clause-some g c =
    some_room c.self.inside.layout.tops c.self.inside.layout.shelf c.self.inside.len c.self.inside.room c.self.invariant
    (subst (λ e. length e.list < e.room) (sym c.self.view_is) c.requires.room)
