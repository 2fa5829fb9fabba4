use Rattle.std.proofs.Common.{◌++◌, ◌∷◌, [], ◌*◌, length, slice_set, refl, sym, ap, ◌∙◌, arith, is_ok}
use Rattle.std.proofs.lemmas.List.{length-set}
use Rattle.std.proofs.lemmas.List.Edits.{insert_end}
use Rattle.std.proofs.lemmas.Bool.{cond-true}
use Rattle.krl_blocks.specs.Shelves.{Shelved}
use Rattle.krl_blocks.proofs.Changing.{count_is, most_is, pushed_shown}
use Rattle.krl_blocks.proofs.Storing.{stored_new, freed}
use Rattle.krl_blocks.proofs.shelf.Shelf.push.Goals as goal

pub free_place-place-requires-clause-room : goal.free_place-place-requires-clause-room
free_place-place-requires-clause-room g c =
    let n = count_is c.self.inside.order c.self.inside.spare c.self.inside.cells c.self.inside.most c.args.self.now c.self.view_is in let most = most_is c.self.inside.order c.self.inside.spare c.self.inside.cells c.self.inside.most c.args.self.now c.self.view_is in let long = c.self.inside.order.ok.0 in
    λ e. let none = ap length e in let all = c.self.invariant.all in let room = c.self.invariant.room in omega (arith, n, most, long, none, all, room, c.requires.room)

pub overflow_mul-at : goal.overflow_mul-at
overflow_mul-at g c =
    let n = count_is c.self.inside.order c.self.inside.spare c.self.inside.cells c.self.inside.most c.args.self.now c.self.view_is in let most = most_is c.self.inside.order c.self.inside.spare c.self.inside.cells c.self.inside.most c.args.self.now c.self.view_is in let long = c.self.inside.order.ok.0 in
    let h = freed c.self.inside.order c.self.inside.spare c.self.inside.cells c.self.inside.most c.self.invariant c.free_place-place.new.spare.items c.free_place-place.new.cells.items c.free_place-place.result c.args.entry (omega (arith, n, most, long, c.requires.room)) c.free_place-place.ensures.free in
    let its = h.its in omega (arith, its, c.free_place-place.new.cells.ok, c.free_place-place.new.cells.small)

pub index_mut-requires : goal.index_mut-requires
index_mut-requires g c =
    let n = count_is c.self.inside.order c.self.inside.spare c.self.inside.cells c.self.inside.most c.args.self.now c.self.view_is in let most = most_is c.self.inside.order c.self.inside.spare c.self.inside.cells c.self.inside.most c.args.self.now c.self.view_is in let long = c.self.inside.order.ok.0 in
    let h = freed c.self.inside.order c.self.inside.spare c.self.inside.cells c.self.inside.most c.self.invariant c.free_place-place.new.spare.items c.free_place-place.new.cells.items c.free_place-place.result c.args.entry (omega (arith, n, most, long, c.requires.room)) c.free_place-place.ensures.free in
    let its = h.its in omega (arith, its, c.free_place-place.new.cells.ok.0)

pub unwrap-requires : goal.unwrap-requires
unwrap-requires g c =
    let n = count_is c.self.inside.order c.self.inside.spare c.self.inside.cells c.self.inside.most c.args.self.now c.self.view_is in let most = most_is c.self.inside.order c.self.inside.spare c.self.inside.cells c.self.inside.most c.args.self.now c.self.view_is in let long = c.self.inside.order.ok.0 in
    let orders = c.self.invariant.orders in c.push.ensures.succeeds (omega (arith, n, most, orders, c.requires.room))

pub invariant_of-self : goal.invariant_of-self
invariant_of-self g c =
    let n = count_is c.self.inside.order c.self.inside.spare c.self.inside.cells c.self.inside.most c.args.self.now c.self.view_is in let most = most_is c.self.inside.order c.self.inside.spare c.self.inside.cells c.self.inside.most c.args.self.now c.self.view_is in let long = c.self.inside.order.ok.0 in
    let h = freed c.self.inside.order c.self.inside.spare c.self.inside.cells c.self.inside.most c.self.invariant c.free_place-place.new.spare.items c.free_place-place.new.cells.items c.free_place-place.result c.args.entry (omega (arith, n, most, long, c.requires.room)) c.free_place-place.ensures.free in
    stored_new c.self.inside.order c.self.inside.spare c.self.inside.cells c.self.inside.most c.self.invariant c.push.new.self c.free_place-place.new.spare _ c.push.ensures.capacity (omega (arith, c.free_place-place.ensures.spares)) c.free_place-place.ensures.cells
    c.self.inside.order.items c.free_place-place.new.cells.items (length c.self.inside.order.items) c.free_place-place.result (record { place = c.free_place-place.result; len = 1 }) h refl c.self.invariant.small refl (omega arith) refl (omega arith)
    (c.push.ensures.items ∙ cond-true _ _ _ (ap is_ok c.unwrap.ensures) ∙ sym (insert_end c.self.inside.order.items (record { place = c.free_place-place.result; len = 1 }))) (length-set c.free_place-place.new.cells.items _ c.args.entry)

pub returns-clause-blocks : goal.returns-clause-blocks
returns-clause-blocks g c =
    let n = count_is c.self.inside.order c.self.inside.spare c.self.inside.cells c.self.inside.most c.args.self.now c.self.view_is in let most = most_is c.self.inside.order c.self.inside.spare c.self.inside.cells c.self.inside.most c.args.self.now c.self.view_is in let long = c.self.inside.order.ok.0 in
    let h = freed c.self.inside.order c.self.inside.spare c.self.inside.cells c.self.inside.most c.self.invariant c.free_place-place.new.spare.items c.free_place-place.new.cells.items c.free_place-place.result c.args.entry (omega (arith, n, most, long, c.requires.room)) c.free_place-place.ensures.free in
    pushed_shown c.self.inside.order c.self.inside.spare c.self.inside.cells c.self.inside.most c.self.invariant c.free_place-place.new.spare.items c.free_place-place.new.cells.items (slice_set c.free_place-place.new.cells.items (64 * c.free_place-place.result) c.args.entry) c.free_place-place.result (64 * c.free_place-place.result) c.push.new.self.items (record { place = c.free_place-place.result; len = 1 }) c.args.entry h refl refl
    (c.push.ensures.items ∙ cond-true _ _ _ (ap is_ok c.unwrap.ensures)) refl refl ∙ ap (λ (v : Shelved g.row.V.Denot). v.blocks ++ (c.args.entry ∷ []) ∷ []) c.self.view_is
