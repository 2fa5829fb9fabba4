use Rattle.std.proofs.Common.{◌+◌, ◌*◌, ◌<◌, length, slice_set, refl, arith}
use Rattle.krl_blocks.specs.Shelves.{entries_at}
use Rattle.krl_blocks.proofs.Kept.{at_some}
use Rattle.krl_blocks.proofs.Changing.{spot_read, count_is, one_shown, set_shown}
use Rattle.krl_blocks.proofs.shelf.Shelf.set.Goals as goal

pub index-spot-requires : goal.index-spot-requires
index-spot-requires g c =
    let n = count_is c.self.inside.order c.self.inside.spare c.self.inside.cells c.self.inside.most c.args.self.now c.self.view_is in omega (arith, n, c.requires.within)

pub overflow_mul-at : goal.overflow_mul-at
overflow_mul-at g c =
    let f = spot_read c.self.inside.order c.self.inside.spare c.self.inside.cells c.self.inside.most c.args.self.now c.self.view_is c.self.invariant c.args.b c.index-spot.result.now c.requires.within c.index-spot.ensures in
    omega (arith, f.fits, f.small, f.long, f.cells, f.bytes)

pub overflow_add-at : goal.overflow_add-at
overflow_add-at g c =
    let f = spot_read c.self.inside.order c.self.inside.spare c.self.inside.cells c.self.inside.most c.args.self.now c.self.view_is c.self.invariant c.args.b c.index-spot.result.now c.requires.within c.index-spot.ensures in
    let p = at_some (λ x. c.args.i < length x) (entries_at c.self.inside.cells.items c.index-spot.result.now) _ f.block c.requires.place in
    omega (arith, f.fits, f.small, f.long, f.cells, f.bytes, p)

pub index_mut-requires : goal.index_mut-requires
index_mut-requires g c =
    let f = spot_read c.self.inside.order c.self.inside.spare c.self.inside.cells c.self.inside.most c.args.self.now c.self.view_is c.self.invariant c.args.b c.index-spot.result.now c.requires.within c.index-spot.ensures in
    let p = at_some (λ x. c.args.i < length x) (entries_at c.self.inside.cells.items c.index-spot.result.now) _ f.block c.requires.place in
    omega (arith, f.fits, f.small, f.long, f.cells, f.bytes, p)

pub returns-clause-one : goal.returns-clause-one
returns-clause-one g c =
    let f = spot_read c.self.inside.order c.self.inside.spare c.self.inside.cells c.self.inside.most c.args.self.now c.self.view_is c.self.invariant c.args.b c.index-spot.result.now c.requires.within c.index-spot.ensures in
    let p = at_some (λ x. c.args.i < length x) (entries_at c.self.inside.cells.items c.index-spot.result.now) _ f.block c.requires.place in
    one_shown c.self.inside.order c.self.inside.spare c.self.inside.cells c.self.inside.most c.args.self.now c.self.view_is _ _ _
    (set_shown c.self.inside.order c.self.inside.spare c.self.inside.cells c.self.inside.most c.self.invariant c.args.b c.index-spot.result.now f.there c.args.i (64 * c.index-spot.result.now.place + c.args.i) (slice_set c.self.inside.cells.items (64 * c.index-spot.result.now.place + c.args.i) c.args.entry) c.args.entry refl (omega (arith, f.fits, f.small, f.long, f.cells, f.bytes, p)) refl)
