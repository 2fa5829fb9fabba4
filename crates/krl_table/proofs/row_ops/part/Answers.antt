use Rattle.krl_table.proofs.Names.{◌≡◌, sym, ap, subst, ◌∙◌, arith, get, up_to, beyond, split_modes, with_queue, Row, row_of, rows_of, AreSet}
use Rattle.krl_table.proofs.Rows.RowChanges.{both_set, both_after, both_as, there_not}
use Rattle.krl_table.proofs.Invariant.Rooms.{rows_less}
use Rattle.krl_table.proofs.row_ops.part.Goals as goal

pub put-requires : goal.put-requires
put-requires c none =
    let t = c.args.rows.now.map in let v = c.take-row.new.rows.map in
    let less = rows_less t v c.take-row.ensures.kept in
    let free = sym (c.take-row.ensures.others c.args.key c.requires.apart) ∙ ap (get v) (sym c.get.ensures.number) ∙ none in
    let room = c.requires.room free in
    omega (arith, less, room, c.take-row.ensures.same)

pub put-requires-2 : goal.put-requires-2
put-requires-2 c none =
    let s = c.args.slot in
    absurd (there_not (get c.take-row.new.rows.map s) (c.take-row.ensures.stays c.requires.there)
    (sym (c.put.ensures.set.others s (λ e. c.requires.apart (sym c.get.ensures.number ∙ sym e))) ∙ none))

pub returns-clause-set : goal.returns-clause-set
returns-clause-set c =
    let t = c.args.rows.now.map in let v = c.take-row.new.rows.map in let w = c.put.new.rows.map in let u = c.put-2.new.rows.map in let s = c.args.slot in let k = c.args.key in
    let new : Row = record { modes = split_modes (rows_of t s).modes c.args.client; queue = up_to k (rows_of t s).queue } in
    let old : Row = with_queue (rows_of t s) (beyond k (rows_of t s).queue) in
    let row = c.take-row.ensures.row in
    let new_is : row_of (record c.split-new.result { queue = c.split_at.result }) ≡ new =
    (λ i. record {
      modes = (ap (λ (r : Row). r.modes) c.split-new.ensures ∙ ap (λ (r : Row). split_modes r.modes c.args.client) row) i;
      queue = (c.split_at.ensures.taken ∙ ap (λ (r : Row). up_to k r.queue) row) i;
    }) in
    let old_is : row_of (record c.take-row.result { queue = c.split_at.new.self }) ≡ old =
    (λ i. record {
      modes = ap (λ (r : Row). r.modes) row i;
      queue = (c.split_at.ensures.kept ∙ ap (λ (r : Row). beyond k r.queue) row) i;
    }) in
    subst (λ i. AreSet t u i new s old) c.get.ensures.number
    (both_after t v u c.get.result new s old c.take-row.ensures.others
    (both_as v u c.get.result _ new s _ old new_is old_is (both_set v w u c.get.result _ s _ (λ e. c.requires.apart (sym c.get.ensures.number ∙ e)) c.put.ensures.set c.put-2.ensures.set)))
