use Rattle.std.proofs.Common.{◌≡◌, ◌++◌, ◌+◌, ◌-◌, ◌*◌, ◌≤◌, suc, Some, length, take, drop, slice_set, refl, sym, ap, subst, ◌∙◌, arith, add-one, is_ok}
use Rattle.std.proofs.lemmas.List.{length-set}
use Rattle.std.proofs.lemmas.List.Edits.{length-remove}
use Rattle.std.proofs.lemmas.Bool.{cond-true}
use Rattle.std.specs.List.{slice_get, remove}
use Rattle.krl_blocks.specs.Shelves.{entries_at, places}
use Rattle.krl_blocks.proofs.Edits.{read_at}
use Rattle.krl_blocks.proofs.Around.{all_set, all_remove}
use Rattle.krl_blocks.proofs.Kept.{few_at, before_reads}
use Rattle.krl_blocks.proofs.Shelving.{AreSmall, places_set}
use Rattle.krl_blocks.proofs.Changing.{spot_there, count_is, joined_one, joined_shown}
use Rattle.krl_blocks.proofs.Storing.{stored_gone}
use Rattle.krl_blocks.proofs.shelf.Shelf.join.Goals as goal

pub overflow_add-b : goal.overflow_add-b
overflow_add-b g c =
    let n = count_is c.self.inside.order c.self.inside.spare c.self.inside.cells c.self.inside.most c.args.self.now c.self.view_is in omega (arith, n, c.requires.within, c.self.inside.order.ok, c.self.inside.order.small)

pub remove-upper-requires : goal.remove-upper-requires
remove-upper-requires g c =
    let n = count_is c.self.inside.order c.self.inside.spare c.self.inside.cells c.self.inside.most c.args.self.now c.self.view_is in omega (arith, n, c.requires.within)

pub overflow_mul-from : goal.overflow_mul-from
overflow_mul-from g c =
    let n = count_is c.self.inside.order c.self.inside.spare c.self.inside.cells c.self.inside.most c.args.self.now c.self.view_is in
    let long = c.self.inside.order.ok.0 in
    let rm = c.remove-upper.ensures.items in
    let some = read_at c.self.inside.order.items c.self.inside.order.items (c.args.b + 1) c.remove-upper.result (omega (arith, n, long, c.requires.within)) refl c.remove-upper.ensures.value in
    let upper_there = subst (λ j. Some c.remove-upper.result ≡ slice_get c.self.inside.order.items j) (add-one c.args.b) some in
    let fewer = length-remove c.self.inside.order.items (c.args.b + 1) (omega (arith, n, long, c.requires.within)) in
    let count = ap length rm in
    let left_there = read_at (remove c.self.inside.order.items (suc c.args.b)) c.remove-upper.new.self.items c.args.b c.index-lower.result.now (omega (arith, n, long, fewer, count, c.requires.within)) (rm ∙ ap (remove c.self.inside.order.items) (add-one c.args.b)) c.index-lower.ensures in
    let lower_there = before_reads c.self.inside.order.items c.args.b (suc c.args.b) c.index-lower.result.now (omega arith) left_there in
    let u = spot_there c.self.inside.order c.self.inside.spare c.self.inside.cells c.self.inside.most c.args.self.now c.self.view_is c.self.invariant (suc c.args.b) c.remove-upper.result c.requires.within upper_there in
    let l = spot_there c.self.inside.order c.self.inside.spare c.self.inside.cells c.self.inside.most c.args.self.now c.self.view_is c.self.invariant c.args.b c.index-lower.result.now (omega (arith, c.requires.within)) lower_there in
    let few = few_at c.args.self.now.blocks c.args.b (entries_at c.self.inside.cells.items c.index-lower.result.now) (entries_at c.self.inside.cells.items c.remove-upper.result) l.block u.block c.requires.few in
    omega (arith, u.fits, u.small, u.long, u.cells, u.bytes, l.fits, l.small, l.long, few)

pub overflow_mul-end : goal.overflow_mul-end
overflow_mul-end g c =
    let n = count_is c.self.inside.order c.self.inside.spare c.self.inside.cells c.self.inside.most c.args.self.now c.self.view_is in
    let long = c.self.inside.order.ok.0 in
    let rm = c.remove-upper.ensures.items in
    let some = read_at c.self.inside.order.items c.self.inside.order.items (c.args.b + 1) c.remove-upper.result (omega (arith, n, long, c.requires.within)) refl c.remove-upper.ensures.value in
    let upper_there = subst (λ j. Some c.remove-upper.result ≡ slice_get c.self.inside.order.items j) (add-one c.args.b) some in
    let fewer = length-remove c.self.inside.order.items (c.args.b + 1) (omega (arith, n, long, c.requires.within)) in
    let count = ap length rm in
    let left_there = read_at (remove c.self.inside.order.items (suc c.args.b)) c.remove-upper.new.self.items c.args.b c.index-lower.result.now (omega (arith, n, long, fewer, count, c.requires.within)) (rm ∙ ap (remove c.self.inside.order.items) (add-one c.args.b)) c.index-lower.ensures in
    let lower_there = before_reads c.self.inside.order.items c.args.b (suc c.args.b) c.index-lower.result.now (omega arith) left_there in
    let u = spot_there c.self.inside.order c.self.inside.spare c.self.inside.cells c.self.inside.most c.args.self.now c.self.view_is c.self.invariant (suc c.args.b) c.remove-upper.result c.requires.within upper_there in
    let l = spot_there c.self.inside.order c.self.inside.spare c.self.inside.cells c.self.inside.most c.args.self.now c.self.view_is c.self.invariant c.args.b c.index-lower.result.now (omega (arith, c.requires.within)) lower_there in
    let few = few_at c.args.self.now.blocks c.args.b (entries_at c.self.inside.cells.items c.index-lower.result.now) (entries_at c.self.inside.cells.items c.remove-upper.result) l.block u.block c.requires.few in
    omega (arith, u.fits, u.small, u.long, u.cells, u.bytes, l.fits, l.small, l.long, few)

pub overflow_add-end : goal.overflow_add-end
overflow_add-end g c =
    let n = count_is c.self.inside.order c.self.inside.spare c.self.inside.cells c.self.inside.most c.args.self.now c.self.view_is in
    let long = c.self.inside.order.ok.0 in
    let rm = c.remove-upper.ensures.items in
    let some = read_at c.self.inside.order.items c.self.inside.order.items (c.args.b + 1) c.remove-upper.result (omega (arith, n, long, c.requires.within)) refl c.remove-upper.ensures.value in
    let upper_there = subst (λ j. Some c.remove-upper.result ≡ slice_get c.self.inside.order.items j) (add-one c.args.b) some in
    let fewer = length-remove c.self.inside.order.items (c.args.b + 1) (omega (arith, n, long, c.requires.within)) in
    let count = ap length rm in
    let left_there = read_at (remove c.self.inside.order.items (suc c.args.b)) c.remove-upper.new.self.items c.args.b c.index-lower.result.now (omega (arith, n, long, fewer, count, c.requires.within)) (rm ∙ ap (remove c.self.inside.order.items) (add-one c.args.b)) c.index-lower.ensures in
    let lower_there = before_reads c.self.inside.order.items c.args.b (suc c.args.b) c.index-lower.result.now (omega arith) left_there in
    let u = spot_there c.self.inside.order c.self.inside.spare c.self.inside.cells c.self.inside.most c.args.self.now c.self.view_is c.self.invariant (suc c.args.b) c.remove-upper.result c.requires.within upper_there in
    let l = spot_there c.self.inside.order c.self.inside.spare c.self.inside.cells c.self.inside.most c.args.self.now c.self.view_is c.self.invariant c.args.b c.index-lower.result.now (omega (arith, c.requires.within)) lower_there in
    let few = few_at c.args.self.now.blocks c.args.b (entries_at c.self.inside.cells.items c.index-lower.result.now) (entries_at c.self.inside.cells.items c.remove-upper.result) l.block u.block c.requires.few in
    omega (arith, u.fits, u.small, u.long, u.cells, u.bytes, l.fits, l.small, l.long, few)

pub overflow_add-from : goal.overflow_add-from
overflow_add-from g c =
    let n = count_is c.self.inside.order c.self.inside.spare c.self.inside.cells c.self.inside.most c.args.self.now c.self.view_is in
    let long = c.self.inside.order.ok.0 in
    let rm = c.remove-upper.ensures.items in
    let some = read_at c.self.inside.order.items c.self.inside.order.items (c.args.b + 1) c.remove-upper.result (omega (arith, n, long, c.requires.within)) refl c.remove-upper.ensures.value in
    let upper_there = subst (λ j. Some c.remove-upper.result ≡ slice_get c.self.inside.order.items j) (add-one c.args.b) some in
    let fewer = length-remove c.self.inside.order.items (c.args.b + 1) (omega (arith, n, long, c.requires.within)) in
    let count = ap length rm in
    let left_there = read_at (remove c.self.inside.order.items (suc c.args.b)) c.remove-upper.new.self.items c.args.b c.index-lower.result.now (omega (arith, n, long, fewer, count, c.requires.within)) (rm ∙ ap (remove c.self.inside.order.items) (add-one c.args.b)) c.index-lower.ensures in
    let lower_there = before_reads c.self.inside.order.items c.args.b (suc c.args.b) c.index-lower.result.now (omega arith) left_there in
    let u = spot_there c.self.inside.order c.self.inside.spare c.self.inside.cells c.self.inside.most c.args.self.now c.self.view_is c.self.invariant (suc c.args.b) c.remove-upper.result c.requires.within upper_there in
    let l = spot_there c.self.inside.order c.self.inside.spare c.self.inside.cells c.self.inside.most c.args.self.now c.self.view_is c.self.invariant c.args.b c.index-lower.result.now (omega (arith, c.requires.within)) lower_there in
    let few = few_at c.args.self.now.blocks c.args.b (entries_at c.self.inside.cells.items c.index-lower.result.now) (entries_at c.self.inside.cells.items c.remove-upper.result) l.block u.block c.requires.few in
    omega (arith, u.fits, u.small, u.long, u.cells, u.bytes, l.fits, l.small, l.long, few)

pub copy_within-requires-clause-in_bounds : goal.copy_within-requires-clause-in_bounds
copy_within-requires-clause-in_bounds g c =
    let n = count_is c.self.inside.order c.self.inside.spare c.self.inside.cells c.self.inside.most c.args.self.now c.self.view_is in
    let long = c.self.inside.order.ok.0 in
    let rm = c.remove-upper.ensures.items in
    let some = read_at c.self.inside.order.items c.self.inside.order.items (c.args.b + 1) c.remove-upper.result (omega (arith, n, long, c.requires.within)) refl c.remove-upper.ensures.value in
    let upper_there = subst (λ j. Some c.remove-upper.result ≡ slice_get c.self.inside.order.items j) (add-one c.args.b) some in
    let fewer = length-remove c.self.inside.order.items (c.args.b + 1) (omega (arith, n, long, c.requires.within)) in
    let count = ap length rm in
    let left_there = read_at (remove c.self.inside.order.items (suc c.args.b)) c.remove-upper.new.self.items c.args.b c.index-lower.result.now (omega (arith, n, long, fewer, count, c.requires.within)) (rm ∙ ap (remove c.self.inside.order.items) (add-one c.args.b)) c.index-lower.ensures in
    let lower_there = before_reads c.self.inside.order.items c.args.b (suc c.args.b) c.index-lower.result.now (omega arith) left_there in
    let u = spot_there c.self.inside.order c.self.inside.spare c.self.inside.cells c.self.inside.most c.args.self.now c.self.view_is c.self.invariant (suc c.args.b) c.remove-upper.result c.requires.within upper_there in
    let l = spot_there c.self.inside.order c.self.inside.spare c.self.inside.cells c.self.inside.most c.args.self.now c.self.view_is c.self.invariant c.args.b c.index-lower.result.now (omega (arith, c.requires.within)) lower_there in
    let few = few_at c.args.self.now.blocks c.args.b (entries_at c.self.inside.cells.items c.index-lower.result.now) (entries_at c.self.inside.cells.items c.remove-upper.result) l.block u.block c.requires.few in
    omega (arith, u.fits, u.small, u.long, u.cells, u.bytes, l.fits, l.small, l.long, few)

pub copy_within-requires-clause-dest_in_bounds : goal.copy_within-requires-clause-dest_in_bounds
copy_within-requires-clause-dest_in_bounds g c =
    let n = count_is c.self.inside.order c.self.inside.spare c.self.inside.cells c.self.inside.most c.args.self.now c.self.view_is in
    let long = c.self.inside.order.ok.0 in
    let rm = c.remove-upper.ensures.items in
    let some = read_at c.self.inside.order.items c.self.inside.order.items (c.args.b + 1) c.remove-upper.result (omega (arith, n, long, c.requires.within)) refl c.remove-upper.ensures.value in
    let upper_there = subst (λ j. Some c.remove-upper.result ≡ slice_get c.self.inside.order.items j) (add-one c.args.b) some in
    let fewer = length-remove c.self.inside.order.items (c.args.b + 1) (omega (arith, n, long, c.requires.within)) in
    let count = ap length rm in
    let left_there = read_at (remove c.self.inside.order.items (suc c.args.b)) c.remove-upper.new.self.items c.args.b c.index-lower.result.now (omega (arith, n, long, fewer, count, c.requires.within)) (rm ∙ ap (remove c.self.inside.order.items) (add-one c.args.b)) c.index-lower.ensures in
    let lower_there = before_reads c.self.inside.order.items c.args.b (suc c.args.b) c.index-lower.result.now (omega arith) left_there in
    let u = spot_there c.self.inside.order c.self.inside.spare c.self.inside.cells c.self.inside.most c.args.self.now c.self.view_is c.self.invariant (suc c.args.b) c.remove-upper.result c.requires.within upper_there in
    let l = spot_there c.self.inside.order c.self.inside.spare c.self.inside.cells c.self.inside.most c.args.self.now c.self.view_is c.self.invariant c.args.b c.index-lower.result.now (omega (arith, c.requires.within)) lower_there in
    let few = few_at c.args.self.now.blocks c.args.b (entries_at c.self.inside.cells.items c.index-lower.result.now) (entries_at c.self.inside.cells.items c.remove-upper.result) l.block u.block c.requires.few in
    omega (arith, u.fits, u.small, u.long, u.cells, u.bytes, l.fits, l.small, l.long, few)

pub invariant_of-self : goal.invariant_of-self
invariant_of-self g c =
    let n = count_is c.self.inside.order c.self.inside.spare c.self.inside.cells c.self.inside.most c.args.self.now c.self.view_is in
    let long = c.self.inside.order.ok.0 in
    let rm = c.remove-upper.ensures.items in
    let some = read_at c.self.inside.order.items c.self.inside.order.items (c.args.b + 1) c.remove-upper.result (omega (arith, n, long, c.requires.within)) refl c.remove-upper.ensures.value in
    let upper_there = subst (λ j. Some c.remove-upper.result ≡ slice_get c.self.inside.order.items j) (add-one c.args.b) some in
    let fewer = length-remove c.self.inside.order.items (c.args.b + 1) (omega (arith, n, long, c.requires.within)) in
    let count = ap length rm in
    let left_there = read_at (remove c.self.inside.order.items (suc c.args.b)) c.remove-upper.new.self.items c.args.b c.index-lower.result.now (omega (arith, n, long, fewer, count, c.requires.within)) (rm ∙ ap (remove c.self.inside.order.items) (add-one c.args.b)) c.index-lower.ensures in
    let lower_there = before_reads c.self.inside.order.items c.args.b (suc c.args.b) c.index-lower.result.now (omega arith) left_there in
    let u = spot_there c.self.inside.order c.self.inside.spare c.self.inside.cells c.self.inside.most c.args.self.now c.self.view_is c.self.invariant (suc c.args.b) c.remove-upper.result c.requires.within upper_there in
    let l = spot_there c.self.inside.order c.self.inside.spare c.self.inside.cells c.self.inside.most c.args.self.now c.self.view_is c.self.invariant c.args.b c.index-lower.result.now (omega (arith, c.requires.within)) lower_there in
    let few = few_at c.args.self.now.blocks c.args.b (entries_at c.self.inside.cells.items c.index-lower.result.now) (entries_at c.self.inside.cells.items c.remove-upper.result) l.block u.block c.requires.few in
    stored_gone c.self.inside.order c.self.inside.spare c.self.inside.cells c.self.inside.most c.self.invariant _ c.push.new.self c.copy_within.new.self (omega (arith, c.remove-upper.ensures.capacity)) c.push.ensures.capacity (omega (arith, c.copy_within.ensures.capacity)) (c.args.b + 1) c.remove-upper.result some (omega (arith, n, long, c.requires.within))
    (ap (λ ss. places (slice_set ss c.args.b (record { place = c.index-lower.result.now.place; len = c.index-lower.result.now.len + c.remove-upper.result.len }))) (rm ∙ ap (remove c.self.inside.order.items) (add-one c.args.b)) ∙ places_set (remove c.self.inside.order.items (suc c.args.b)) c.args.b c.index-lower.result.now (record { place = c.index-lower.result.now.place; len = c.index-lower.result.now.len + c.remove-upper.result.len }) left_there refl ∙ ap (λ j. places (remove c.self.inside.order.items j)) (sym (add-one c.args.b)))
    (all_set (λ v. v.len ≤ 64) c.remove-upper.new.self.items c.args.b (record { place = c.index-lower.result.now.place; len = c.index-lower.result.now.len + c.remove-upper.result.len }) (subst AreSmall (sym rm) (all_remove (λ v. v.len ≤ 64) c.self.inside.order.items (c.args.b + 1) c.self.invariant.small)) (omega (arith, u.fits, u.small, u.long, u.cells, u.bytes, l.fits, l.small, l.long, few)))
    (length-set c.remove-upper.new.self.items c.args.b (record { place = c.index-lower.result.now.place; len = c.index-lower.result.now.len + c.remove-upper.result.len }) ∙ ap length rm)
    (c.push.ensures.items ∙ cond-true _ _ _ (ap is_ok c.unwrap.ensures)) (sym c.copy_within.new.self.ok.0 ∙ c.copy_within.ensures.len ∙ c.self.inside.cells.ok.0)

pub returns-clause-joined : goal.returns-clause-joined
returns-clause-joined g c =
    let n = count_is c.self.inside.order c.self.inside.spare c.self.inside.cells c.self.inside.most c.args.self.now c.self.view_is in
    let long = c.self.inside.order.ok.0 in
    let rm = c.remove-upper.ensures.items in
    let some = read_at c.self.inside.order.items c.self.inside.order.items (c.args.b + 1) c.remove-upper.result (omega (arith, n, long, c.requires.within)) refl c.remove-upper.ensures.value in
    let upper_there = subst (λ j. Some c.remove-upper.result ≡ slice_get c.self.inside.order.items j) (add-one c.args.b) some in
    let fewer = length-remove c.self.inside.order.items (c.args.b + 1) (omega (arith, n, long, c.requires.within)) in
    let count = ap length rm in
    let left_there = read_at (remove c.self.inside.order.items (suc c.args.b)) c.remove-upper.new.self.items c.args.b c.index-lower.result.now (omega (arith, n, long, fewer, count, c.requires.within)) (rm ∙ ap (remove c.self.inside.order.items) (add-one c.args.b)) c.index-lower.ensures in
    let lower_there = before_reads c.self.inside.order.items c.args.b (suc c.args.b) c.index-lower.result.now (omega arith) left_there in
    let u = spot_there c.self.inside.order c.self.inside.spare c.self.inside.cells c.self.inside.most c.args.self.now c.self.view_is c.self.invariant (suc c.args.b) c.remove-upper.result c.requires.within upper_there in
    let l = spot_there c.self.inside.order c.self.inside.spare c.self.inside.cells c.self.inside.most c.args.self.now c.self.view_is c.self.invariant c.args.b c.index-lower.result.now (omega (arith, c.requires.within)) lower_there in
    let few = few_at c.args.self.now.blocks c.args.b (entries_at c.self.inside.cells.items c.index-lower.result.now) (entries_at c.self.inside.cells.items c.remove-upper.result) l.block u.block c.requires.few in
    joined_one c.self.inside.order c.self.inside.spare c.self.inside.cells c.self.inside.most c.args.self.now c.self.view_is _ _
    (joined_shown c.self.inside.order c.self.inside.spare c.self.inside.cells c.self.inside.most c.self.invariant c.args.b c.index-lower.result.now lower_there c.remove-upper.result (record { place = c.index-lower.result.now.place; len = c.index-lower.result.now.len + c.remove-upper.result.len }) (64 * c.index-lower.result.now.place + c.index-lower.result.now.len) c.copy_within.new.self.items (slice_set c.remove-upper.new.self.items c.args.b (record { place = c.index-lower.result.now.place; len = c.index-lower.result.now.len + c.remove-upper.result.len })) upper_there left_there refl (omega (arith, u.fits, u.small, u.long, u.cells, u.bytes, l.fits, l.small, l.long, few))
    (c.copy_within.ensures.items ∙ ap (λ k. take (64 * c.index-lower.result.now.place + c.index-lower.result.now.len) c.self.inside.cells.items ++ take k (drop (64 * c.remove-upper.result.place) c.self.inside.cells.items) ++ drop (64 * c.index-lower.result.now.place + c.index-lower.result.now.len + k) c.self.inside.cells.items) (let d : 64 * c.remove-upper.result.place + c.remove-upper.result.len - 64 * c.remove-upper.result.place ≡ c.remove-upper.result.len = omega arith in d))
    (ap (λ ss. slice_set ss c.args.b (record { place = c.index-lower.result.now.place; len = c.index-lower.result.now.len + c.remove-upper.result.len })) (rm ∙ ap (remove c.self.inside.order.items) (add-one c.args.b))) refl refl)
