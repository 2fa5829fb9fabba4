use Rattle.std.proofs.Common.{◌+◌, ◌-◌, ◌*◌, ◌≤◌, ◌<◌, length, slice_set, refl, sym, ◌∙◌, arith, add-one}
use Rattle.std.proofs.lemmas.List.{length-set}
use Rattle.krl_blocks.specs.Shelves.{entries_at}
use Rattle.krl_blocks.proofs.Kept.{at_some}
use Rattle.krl_blocks.proofs.Changing.{spot_read, count_is, one_shown, put_shown}
use Rattle.krl_blocks.proofs.Storing.{stored_set}
use Rattle.krl_blocks.proofs.shelf.Shelf.insert_at.Goals as goal

pub index-spot-requires : goal.index-spot-requires
index-spot-requires g c =
    let n = count_is c.self.inside.order c.self.inside.spare c.self.inside.cells c.self.inside.most c.args.self.now c.self.view_is in omega (arith, n, c.requires.within)

pub overflow_mul-from : goal.overflow_mul-from
overflow_mul-from g c =
    let f = spot_read c.self.inside.order c.self.inside.spare c.self.inside.cells c.self.inside.most c.args.self.now c.self.view_is c.self.invariant c.args.b c.index-spot.result.now c.requires.within c.index-spot.ensures in
    omega (arith, f.fits, f.small, f.long, f.cells, f.bytes)

pub overflow_add-at : goal.overflow_add-at
overflow_add-at g c =
    let f = spot_read c.self.inside.order c.self.inside.spare c.self.inside.cells c.self.inside.most c.args.self.now c.self.view_is c.self.invariant c.args.b c.index-spot.result.now c.requires.within c.index-spot.ensures in
    let p = at_some (λ x. (c.args.i ≤ length x) × (length x < 64)) (entries_at c.self.inside.cells.items c.index-spot.result.now) _ f.block c.requires.place in
    omega (arith, f.fits, f.small, f.long, f.cells, f.bytes, p)

pub overflow_add-from : goal.overflow_add-from
overflow_add-from g c =
    let f = spot_read c.self.inside.order c.self.inside.spare c.self.inside.cells c.self.inside.most c.args.self.now c.self.view_is c.self.invariant c.args.b c.index-spot.result.now c.requires.within c.index-spot.ensures in
    let p = at_some (λ x. (c.args.i ≤ length x) × (length x < 64)) (entries_at c.self.inside.cells.items c.index-spot.result.now) _ f.block c.requires.place in
    omega (arith, f.fits, f.small, f.long, f.cells, f.bytes, p)

pub overflow_add-at-2 : goal.overflow_add-at-2
overflow_add-at-2 g c =
    let f = spot_read c.self.inside.order c.self.inside.spare c.self.inside.cells c.self.inside.most c.args.self.now c.self.view_is c.self.invariant c.args.b c.index-spot.result.now c.requires.within c.index-spot.ensures in
    let p = at_some (λ x. (c.args.i ≤ length x) × (length x < 64)) (entries_at c.self.inside.cells.items c.index-spot.result.now) _ f.block c.requires.place in
    omega (arith, f.fits, f.small, f.long, f.cells, f.bytes, p)

pub copy_within-requires-clause-start_le_end : goal.copy_within-requires-clause-start_le_end
copy_within-requires-clause-start_le_end g c =
    let f = spot_read c.self.inside.order c.self.inside.spare c.self.inside.cells c.self.inside.most c.args.self.now c.self.view_is c.self.invariant c.args.b c.index-spot.result.now c.requires.within c.index-spot.ensures in
    let p = at_some (λ x. (c.args.i ≤ length x) × (length x < 64)) (entries_at c.self.inside.cells.items c.index-spot.result.now) _ f.block c.requires.place in
    omega (arith, f.fits, f.small, f.long, f.cells, f.bytes, p)

pub copy_within-requires-clause-in_bounds : goal.copy_within-requires-clause-in_bounds
copy_within-requires-clause-in_bounds g c =
    let f = spot_read c.self.inside.order c.self.inside.spare c.self.inside.cells c.self.inside.most c.args.self.now c.self.view_is c.self.invariant c.args.b c.index-spot.result.now c.requires.within c.index-spot.ensures in
    let p = at_some (λ x. (c.args.i ≤ length x) × (length x < 64)) (entries_at c.self.inside.cells.items c.index-spot.result.now) _ f.block c.requires.place in
    omega (arith, f.fits, f.small, f.long, f.cells, f.bytes, p)

pub copy_within-requires-clause-dest_in_bounds : goal.copy_within-requires-clause-dest_in_bounds
copy_within-requires-clause-dest_in_bounds g c =
    let f = spot_read c.self.inside.order c.self.inside.spare c.self.inside.cells c.self.inside.most c.args.self.now c.self.view_is c.self.invariant c.args.b c.index-spot.result.now c.requires.within c.index-spot.ensures in
    let p = at_some (λ x. (c.args.i ≤ length x) × (length x < 64)) (entries_at c.self.inside.cells.items c.index-spot.result.now) _ f.block c.requires.place in
    omega (arith, f.fits, f.small, f.long, f.cells, f.bytes, p)

pub index_mut-requires : goal.index_mut-requires
index_mut-requires g c =
    let f = spot_read c.self.inside.order c.self.inside.spare c.self.inside.cells c.self.inside.most c.args.self.now c.self.view_is c.self.invariant c.args.b c.index-spot.result.now c.requires.within c.index-spot.ensures in
    let p = at_some (λ x. (c.args.i ≤ length x) × (length x < 64)) (entries_at c.self.inside.cells.items c.index-spot.result.now) _ f.block c.requires.place in
    omega (arith, f.fits, f.small, f.long, f.cells, f.bytes, p, c.copy_within.ensures.len)

pub overflow_add-len : goal.overflow_add-len
overflow_add-len g c =
    let f = spot_read c.self.inside.order c.self.inside.spare c.self.inside.cells c.self.inside.most c.args.self.now c.self.view_is c.self.invariant c.args.b c.index-spot.result.now c.requires.within c.index-spot.ensures in
    let p = at_some (λ x. (c.args.i ≤ length x) × (length x < 64)) (entries_at c.self.inside.cells.items c.index-spot.result.now) _ f.block c.requires.place in
    omega (arith, f.fits, f.small, f.long, f.cells, f.bytes, p)

pub index_mut-requires-2 : goal.index_mut-requires-2
index_mut-requires-2 g c =
    let n = count_is c.self.inside.order c.self.inside.spare c.self.inside.cells c.self.inside.most c.args.self.now c.self.view_is in omega (arith, n, c.requires.within)

pub invariant_of-self : goal.invariant_of-self
invariant_of-self g c =
    let f = spot_read c.self.inside.order c.self.inside.spare c.self.inside.cells c.self.inside.most c.args.self.now c.self.view_is c.self.invariant c.args.b c.index-spot.result.now c.requires.within c.index-spot.ensures in
    let p = at_some (λ x. (c.args.i ≤ length x) × (length x < 64)) (entries_at c.self.inside.cells.items c.index-spot.result.now) _ f.block c.requires.place in
    stored_set c.self.inside.order c.self.inside.spare c.self.inside.cells c.self.inside.most c.self.invariant _ _ _ (omega arith) (omega arith) (omega (arith, c.copy_within.ensures.capacity)) c.args.b c.index-spot.result.now _ f.there refl (omega (arith, f.fits, f.small, f.long, f.cells, f.bytes, p)) refl refl
    (length-set c.copy_within.new.self.items _ c.args.entry ∙ sym c.copy_within.new.self.ok.0 ∙ c.copy_within.ensures.len ∙ c.self.inside.cells.ok.0)

pub returns-clause-one : goal.returns-clause-one
returns-clause-one g c =
    let f = spot_read c.self.inside.order c.self.inside.spare c.self.inside.cells c.self.inside.most c.args.self.now c.self.view_is c.self.invariant c.args.b c.index-spot.result.now c.requires.within c.index-spot.ensures in
    let p = at_some (λ x. (c.args.i ≤ length x) × (length x < 64)) (entries_at c.self.inside.cells.items c.index-spot.result.now) _ f.block c.requires.place in
    one_shown c.self.inside.order c.self.inside.spare c.self.inside.cells c.self.inside.most c.args.self.now c.self.view_is _ _ _
    (put_shown c.self.inside.order c.self.inside.spare c.self.inside.cells c.self.inside.most c.self.invariant c.args.b c.index-spot.result.now f.there c.args.i (64 * c.index-spot.result.now.place + c.args.i) (64 * c.index-spot.result.now.place + c.index-spot.result.now.len - (64 * c.index-spot.result.now.place + c.args.i)) (64 * c.index-spot.result.now.place + c.args.i + 1) c.copy_within.new.self.items (slice_set c.self.inside.order.items c.args.b (record { place = c.index-spot.result.now.place; len = c.index-spot.result.now.len + 1 })) (record { place = c.index-spot.result.now.place; len = c.index-spot.result.now.len + 1 }) refl refl refl (slice_set c.copy_within.new.self.items (64 * c.index-spot.result.now.place + c.args.i) c.args.entry) c.args.entry (omega (arith, f.fits, f.small, f.long, f.cells, f.bytes, p)) refl (omega (arith, f.fits, f.small, f.long, f.cells, f.bytes, p)) (add-one c.index-spot.result.now.len) c.copy_within.ensures.items refl)
