use Rattle.std.proofs.Common.{◌*◌, Some, length, take, drop, ap, ◌∙◌, arith}
use Rattle.std.proofs.lemmas.List.{length-drop}
use Rattle.krl_blocks.proofs.Changing.{spot_read, count_is}
use Rattle.krl_blocks.proofs.shelf.Shelf.get.Goals as goal

pub index-spot-requires : goal.index-spot-requires
index-spot-requires g c =
    let n = count_is c.self.inside.order c.self.inside.spare c.self.inside.cells c.self.inside.most c.args.self.now c.self.view_is in omega (arith, n, c.requires)

pub overflow_mul-spot : goal.overflow_mul-spot
overflow_mul-spot g c =
    let f = spot_read c.self.inside.order c.self.inside.spare c.self.inside.cells c.self.inside.most c.args.self.now c.self.view_is c.self.invariant c.args.b c.index-spot.result.now c.requires c.index-spot.ensures in
    omega (arith, f.fits, f.small, f.long, f.cells, f.bytes)

pub split_at-requires : goal.split_at-requires
split_at-requires g c =
    let f = spot_read c.self.inside.order c.self.inside.spare c.self.inside.cells c.self.inside.most c.args.self.now c.self.view_is c.self.invariant c.args.b c.index-spot.result.now c.requires c.index-spot.ensures in
    omega (arith, f.fits, f.cells, c.deref.ensures.len)

pub split_at-requires-2 : goal.split_at-requires-2
split_at-requires-2 g c =
    let f = spot_read c.self.inside.order c.self.inside.spare c.self.inside.cells c.self.inside.most c.args.self.now c.self.view_is c.self.invariant c.args.b c.index-spot.result.now c.requires c.index-spot.ensures in
    let n = ap length (c.split_at.ensures.back ∙ ap (drop (64 * c.index-spot.result.now.place)) c.deref.ensures.value) ∙ length-drop (64 * c.index-spot.result.now.place) c.self.inside.cells.items in
    omega (arith, f.fits, f.small, n)

pub returns : goal.returns
returns g c =
    let f = spot_read c.self.inside.order c.self.inside.spare c.self.inside.cells c.self.inside.most c.args.self.now c.self.view_is c.self.invariant c.args.b c.index-spot.result.now c.requires c.index-spot.ensures in
    ap Some (c.split_at-2.ensures.front ∙ ap (take c.index-spot.result.now.len) (c.split_at.ensures.back ∙ ap (drop (64 * c.index-spot.result.now.place)) c.deref.ensures.value)) ∙ f.block
