use Rattle.krl_table.proofs.Names.{◌≡◌, ◌≢◌, ◌++◌, ℕ, Some, IsSome, refl, sym, ap, subst, ◌∙◌, get, SlotRow, with_queue, Row, blank_row, Kept, row_of, row_there, rows_of}
use Rattle.krl_table.proofs.Rows.RowChanges.{gone_set, both_as, remove_past}
use Rattle.krl_table.proofs.row_ops.join.Goals as goal

-- the row that was taken out
was : (t : Kept) (k : ℕ) (x : SlotRow) → get t k ≡ Some x → rows_of t k ≡ row_of x
was t k x e = ap row_there e

-- the other row is still there
still : (t v : Kept) (k s : ℕ) → k ≢ s → v ≡ Rattle.std.specs.FinMap.remove t k → get v s ≡ get t s
still t v k s ne e = ap (λ y. get y s) e ∙ remove_past t k s (λ f. ne (sym f))

pub put-requires : goal.put-requires
put-requires c =
    let t = c.args.rows.now.map in let v = c.remove.new.self.map in let s = c.args.slot in let k = c.args.key in
    c.take-row.ensures.there (subst IsSome (sym (still t v k s c.requires.apart (ap (λ x. x.map) c.remove.ensures.removed))) c.requires.kept)

pub returns-clause-set : goal.returns-clause-set
returns-clause-set c =
    let t = c.args.rows.now.map in let v = c.remove.new.self.map in let w = c.take-row.new.rows.map in let u = c.put.new.rows.map in let s = c.args.slot in let k = c.args.key in
    let x = c.unwrap-queue.result in
    let gone = was t k x (sym c.remove.ensures.before ∙ c.unwrap-queue.ensures) in
    let row : row_of c.take-row.result ≡ rows_of t s = c.take-row.ensures.row ∙ ap row_there (still t v k s c.requires.apart (ap (λ y. y.map) c.remove.ensures.removed)) in
    let new : Row = with_queue (rows_of t s) ((rows_of t k).queue ++ (rows_of t s).queue) in
    let new_is : row_of (record c.take-row.result { queue = c.splice_front.new.self }) ≡ new =
    (λ i. record {
      modes = ap (λ (r : Row). r.modes) row i;
      queue = (c.splice_front.ensures.spliced ∙ (λ j. sym (ap (λ (r : Row). r.queue) gone) j ++ ap (λ (r : Row). r.queue) row j)) i;
    }) in
    both_as t u k blank_row blank_row s _ new refl new_is (gone_set t v w u k s _ c.requires.apart (ap (λ y. y.map) c.remove.ensures.removed) c.take-row.ensures.others c.put.ensures.set)
