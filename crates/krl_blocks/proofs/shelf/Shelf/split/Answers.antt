use Rattle.std.proofs.Common.{◌+◌, ◌-◌, ◌*◌, ◌≤◌, length, slice_set, refl, sym, ap, ◌∙◌, arith, add-one, is_ok}
use Rattle.std.proofs.lemmas.List.{length-set}
use Rattle.std.proofs.lemmas.Bool.{cond-true}
use Rattle.std.specs.List.{insert}
use Rattle.krl_blocks.specs.Shelves.{entries_at}
use Rattle.krl_blocks.proofs.Around.{all_set}
use Rattle.krl_blocks.proofs.Kept.{at_some}
use Rattle.krl_blocks.proofs.Shelving.{places_set}
use Rattle.krl_blocks.proofs.Changing.{spot_read, count_is, most_is, split_one, split_shown}
use Rattle.krl_blocks.proofs.Storing.{stored_new, freed}
use Rattle.krl_blocks.proofs.shelf.Shelf.split.Goals as goal

pub index-spot-requires : goal.index-spot-requires
index-spot-requires g c =
    let n = count_is c.self.inside.order c.self.inside.spare c.self.inside.cells c.self.inside.most c.args.self.now c.self.view_is in omega (arith, n, c.requires.within)

pub overflow_mul-from : goal.overflow_mul-from
overflow_mul-from g c =
    let f = spot_read c.self.inside.order c.self.inside.spare c.self.inside.cells c.self.inside.most c.args.self.now c.self.view_is c.self.invariant c.args.b c.index-spot.result.now c.requires.within c.index-spot.ensures in
    omega (arith, f.fits, f.small, f.long, f.cells, f.bytes)

pub index-entry-requires : goal.index-entry-requires
index-entry-requires g c =
    let f = spot_read c.self.inside.order c.self.inside.spare c.self.inside.cells c.self.inside.most c.args.self.now c.self.view_is c.self.invariant c.args.b c.index-spot.result.now c.requires.within c.index-spot.ensures in
    omega (arith, f.fits, f.small, f.long, f.cells, f.bytes)

pub free_place-place-requires-clause-room : goal.free_place-place-requires-clause-room
free_place-place-requires-clause-room g c =
    let n = count_is c.self.inside.order c.self.inside.spare c.self.inside.cells c.self.inside.most c.args.self.now c.self.view_is in let most = most_is c.self.inside.order c.self.inside.spare c.self.inside.cells c.self.inside.most c.args.self.now c.self.view_is in let long = c.self.inside.order.ok.0 in
    λ e. let none = ap length e in let all = c.self.invariant.all in let room = c.self.invariant.room in omega (arith, n, most, long, none, all, room, c.requires.room)

pub overflow_add-from : goal.overflow_add-from
overflow_add-from g c =
    let f = spot_read c.self.inside.order c.self.inside.spare c.self.inside.cells c.self.inside.most c.args.self.now c.self.view_is c.self.invariant c.args.b c.index-spot.result.now c.requires.within c.index-spot.ensures in
    let p = at_some (λ x. c.args.i ≤ length x) (entries_at c.self.inside.cells.items c.index-spot.result.now) _ f.block c.requires.place in
    omega (arith, f.fits, f.small, f.long, f.cells, f.bytes, p)

pub overflow_add-from-2 : goal.overflow_add-from-2
overflow_add-from-2 g c =
    let f = spot_read c.self.inside.order c.self.inside.spare c.self.inside.cells c.self.inside.most c.args.self.now c.self.view_is c.self.invariant c.args.b c.index-spot.result.now c.requires.within c.index-spot.ensures in
    let p = at_some (λ x. c.args.i ≤ length x) (entries_at c.self.inside.cells.items c.index-spot.result.now) _ f.block c.requires.place in
    omega (arith, f.fits, f.small, f.long, f.cells, f.bytes, p)

pub overflow_mul-place : goal.overflow_mul-place
overflow_mul-place g c =
    let n = count_is c.self.inside.order c.self.inside.spare c.self.inside.cells c.self.inside.most c.args.self.now c.self.view_is in let most = most_is c.self.inside.order c.self.inside.spare c.self.inside.cells c.self.inside.most c.args.self.now c.self.view_is in let long = c.self.inside.order.ok.0 in
    let h = freed c.self.inside.order c.self.inside.spare c.self.inside.cells c.self.inside.most c.self.invariant c.free_place-place.new.spare.items c.free_place-place.new.cells.items c.free_place-place.result c.index-entry.result.now (omega (arith, n, most, long, c.requires.room)) c.free_place-place.ensures.free in
    let its = h.its in let longer = h.longer in omega (arith, its, longer, c.free_place-place.new.cells.ok, c.free_place-place.new.cells.small)

pub copy_within-requires-clause-start_le_end : goal.copy_within-requires-clause-start_le_end
copy_within-requires-clause-start_le_end g c =
    let f = spot_read c.self.inside.order c.self.inside.spare c.self.inside.cells c.self.inside.most c.args.self.now c.self.view_is c.self.invariant c.args.b c.index-spot.result.now c.requires.within c.index-spot.ensures in
    let p = at_some (λ x. c.args.i ≤ length x) (entries_at c.self.inside.cells.items c.index-spot.result.now) _ f.block c.requires.place in
    omega (arith, f.fits, f.small, f.long, f.cells, f.bytes, p)

pub copy_within-requires-clause-in_bounds : goal.copy_within-requires-clause-in_bounds
copy_within-requires-clause-in_bounds g c =
    let f = spot_read c.self.inside.order c.self.inside.spare c.self.inside.cells c.self.inside.most c.args.self.now c.self.view_is c.self.invariant c.args.b c.index-spot.result.now c.requires.within c.index-spot.ensures in
    let p = at_some (λ x. c.args.i ≤ length x) (entries_at c.self.inside.cells.items c.index-spot.result.now) _ f.block c.requires.place in
    let n = count_is c.self.inside.order c.self.inside.spare c.self.inside.cells c.self.inside.most c.args.self.now c.self.view_is in let most = most_is c.self.inside.order c.self.inside.spare c.self.inside.cells c.self.inside.most c.args.self.now c.self.view_is in let long = c.self.inside.order.ok.0 in
    let h = freed c.self.inside.order c.self.inside.spare c.self.inside.cells c.self.inside.most c.self.invariant c.free_place-place.new.spare.items c.free_place-place.new.cells.items c.free_place-place.result c.index-entry.result.now (omega (arith, n, most, long, c.requires.room)) c.free_place-place.ensures.free in
    let its = h.its in let longer = h.longer in omega (arith, f.fits, f.small, f.long, f.cells, f.bytes, p, longer, c.free_place-place.new.cells.ok)

pub copy_within-requires-clause-dest_in_bounds : goal.copy_within-requires-clause-dest_in_bounds
copy_within-requires-clause-dest_in_bounds g c =
    let f = spot_read c.self.inside.order c.self.inside.spare c.self.inside.cells c.self.inside.most c.args.self.now c.self.view_is c.self.invariant c.args.b c.index-spot.result.now c.requires.within c.index-spot.ensures in
    let p = at_some (λ x. c.args.i ≤ length x) (entries_at c.self.inside.cells.items c.index-spot.result.now) _ f.block c.requires.place in
    let n = count_is c.self.inside.order c.self.inside.spare c.self.inside.cells c.self.inside.most c.args.self.now c.self.view_is in let most = most_is c.self.inside.order c.self.inside.spare c.self.inside.cells c.self.inside.most c.args.self.now c.self.view_is in let long = c.self.inside.order.ok.0 in
    let h = freed c.self.inside.order c.self.inside.spare c.self.inside.cells c.self.inside.most c.self.invariant c.free_place-place.new.spare.items c.free_place-place.new.cells.items c.free_place-place.result c.index-entry.result.now (omega (arith, n, most, long, c.requires.room)) c.free_place-place.ensures.free in
    let its = h.its in let longer = h.longer in omega (arith, f.fits, f.small, f.long, f.cells, f.bytes, p, its, c.free_place-place.new.cells.ok)

pub index_mut-requires : goal.index_mut-requires
index_mut-requires g c =
    let n = count_is c.self.inside.order c.self.inside.spare c.self.inside.cells c.self.inside.most c.args.self.now c.self.view_is in omega (arith, n, c.requires.within)

pub overflow_sub-len : goal.overflow_sub-len
overflow_sub-len g c =
    let f = spot_read c.self.inside.order c.self.inside.spare c.self.inside.cells c.self.inside.most c.args.self.now c.self.view_is c.self.invariant c.args.b c.index-spot.result.now c.requires.within c.index-spot.ensures in
    let p = at_some (λ x. c.args.i ≤ length x) (entries_at c.self.inside.cells.items c.index-spot.result.now) _ f.block c.requires.place in
    omega (arith, f.fits, f.small, f.long, f.cells, f.bytes, p)

pub insert-requires : goal.insert-requires
insert-requires g c =
    let n = count_is c.self.inside.order c.self.inside.spare c.self.inside.cells c.self.inside.most c.args.self.now c.self.view_is in omega (arith, n, c.requires.within)

pub unwrap-requires : goal.unwrap-requires
unwrap-requires g c =
    let n = count_is c.self.inside.order c.self.inside.spare c.self.inside.cells c.self.inside.most c.args.self.now c.self.view_is in let most = most_is c.self.inside.order c.self.inside.spare c.self.inside.cells c.self.inside.most c.args.self.now c.self.view_is in let long = c.self.inside.order.ok.0 in
    let orders = c.self.invariant.orders in c.insert.ensures.succeeds (omega (arith, n, most, orders, c.requires.room))

pub invariant_of-self : goal.invariant_of-self
invariant_of-self g c =
    let f = spot_read c.self.inside.order c.self.inside.spare c.self.inside.cells c.self.inside.most c.args.self.now c.self.view_is c.self.invariant c.args.b c.index-spot.result.now c.requires.within c.index-spot.ensures in
    let p = at_some (λ x. c.args.i ≤ length x) (entries_at c.self.inside.cells.items c.index-spot.result.now) _ f.block c.requires.place in
    let n = count_is c.self.inside.order c.self.inside.spare c.self.inside.cells c.self.inside.most c.args.self.now c.self.view_is in let most = most_is c.self.inside.order c.self.inside.spare c.self.inside.cells c.self.inside.most c.args.self.now c.self.view_is in let long = c.self.inside.order.ok.0 in
    let h = freed c.self.inside.order c.self.inside.spare c.self.inside.cells c.self.inside.most c.self.invariant c.free_place-place.new.spare.items c.free_place-place.new.cells.items c.free_place-place.result c.index-entry.result.now (omega (arith, n, most, long, c.requires.room)) c.free_place-place.ensures.free in
    stored_new c.self.inside.order c.self.inside.spare c.self.inside.cells c.self.inside.most c.self.invariant c.insert.new.self c.free_place-place.new.spare c.copy_within.new.self c.insert.ensures.capacity (omega (arith, c.free_place-place.ensures.spares)) (omega (arith, c.free_place-place.ensures.cells, c.copy_within.ensures.capacity))
    (slice_set c.self.inside.order.items c.args.b (record { place = c.index-spot.result.now.place; len = c.args.i })) c.free_place-place.new.cells.items (c.args.b + 1) c.free_place-place.result (record { place = c.free_place-place.result; len = c.index-spot.result.now.len - c.args.i }) h (places_set c.self.inside.order.items c.args.b c.index-spot.result.now (record { place = c.index-spot.result.now.place; len = c.args.i }) f.there refl) (all_set (λ u. u.len ≤ 64) c.self.inside.order.items c.args.b (record { place = c.index-spot.result.now.place; len = c.args.i }) c.self.invariant.small (omega (arith, f.fits, f.small, f.long, f.cells, f.bytes, p))) (length-set c.self.inside.order.items c.args.b (record { place = c.index-spot.result.now.place; len = c.args.i }))
    (let m = length-set c.self.inside.order.items c.args.b (record { place = c.index-spot.result.now.place; len = c.args.i }) in omega (arith, m, f.order)) refl (omega (arith, f.small))
    (c.insert.ensures.items ∙ cond-true _ _ _ (ap is_ok c.unwrap.ensures)) (sym c.copy_within.new.self.ok.0 ∙ c.copy_within.ensures.len ∙ c.free_place-place.new.cells.ok.0)

pub returns-clause-split : goal.returns-clause-split
returns-clause-split g c =
    let f = spot_read c.self.inside.order c.self.inside.spare c.self.inside.cells c.self.inside.most c.args.self.now c.self.view_is c.self.invariant c.args.b c.index-spot.result.now c.requires.within c.index-spot.ensures in
    let p = at_some (λ x. c.args.i ≤ length x) (entries_at c.self.inside.cells.items c.index-spot.result.now) _ f.block c.requires.place in
    let n = count_is c.self.inside.order c.self.inside.spare c.self.inside.cells c.self.inside.most c.args.self.now c.self.view_is in let most = most_is c.self.inside.order c.self.inside.spare c.self.inside.cells c.self.inside.most c.args.self.now c.self.view_is in let long = c.self.inside.order.ok.0 in
    let h = freed c.self.inside.order c.self.inside.spare c.self.inside.cells c.self.inside.most c.self.invariant c.free_place-place.new.spare.items c.free_place-place.new.cells.items c.free_place-place.result c.index-entry.result.now (omega (arith, n, most, long, c.requires.room)) c.free_place-place.ensures.free in
    split_one c.self.inside.order c.self.inside.spare c.self.inside.cells c.self.inside.most c.args.self.now c.self.view_is _ _ _
    (split_shown c.self.inside.order c.self.inside.spare c.self.inside.cells c.self.inside.most c.self.invariant c.args.b c.index-spot.result.now f.there c.free_place-place.new.spare.items c.free_place-place.new.cells.items c.copy_within.new.self.items c.free_place-place.result c.args.i (64 * c.index-spot.result.now.place + c.index-spot.result.now.len - (64 * c.index-spot.result.now.place + c.args.i)) (64 * c.index-spot.result.now.place + c.args.i) c.insert.new.self.items (record { place = c.index-spot.result.now.place; len = c.args.i }) (record { place = c.free_place-place.result; len = c.index-spot.result.now.len - c.args.i }) h refl
    (omega (arith, f.fits, f.small, f.long, f.cells, f.bytes, p)) c.copy_within.ensures.items (c.insert.ensures.items ∙ cond-true _ _ _ (ap is_ok c.unwrap.ensures) ∙ ap (λ n. insert (slice_set c.self.inside.order.items c.args.b (record { place = c.index-spot.result.now.place; len = c.args.i })) n (record { place = c.free_place-place.result; len = c.index-spot.result.now.len - c.args.i })) (add-one c.args.b)) refl refl refl (omega (arith, f.fits, f.small, f.long, f.cells, f.bytes, p)))
