use Rattle.krl_table.proofs.Names.{refl, ◌∙◌, sym, arith, rows_of, cleared_within}
use Rattle.krl_table.proofs.Rows.RowChanges.{set_after}
use Rattle.krl_table.proofs.Rows.Walk.{none_walked, walk_step, walk_ends, walk_stops, clears_keep, clears_before, clears_past, clears_here}
use Rattle.krl_table.proofs.all_rows.clear.Goals as goal

pub loop-slot-init : goal.loop-slot-init
loop-slot-init c =
    let t = c.args.rows.now.map in record {
      walked = none_walked (cleared_within c.args.extent c.args.client) t c.args.extent.first c.requires.used (λ n lt. clears_before c.args.extent c.args.client n (rows_of t n) lt);
      first = omega arith;
      room = refl;
    }

pub loop-slot-preserved : goal.loop-slot-preserved
loop-slot-preserved c =
    let t = c.loop-slot.rows.map in let u = c.clear.new.rows.map in let s = c.in-Some.slot in let w = c.loop-slot.invariant in let e = c.args.extent in
    record {
      walked = walk_step (cleared_within e c.args.client) c.args.rows.now.map (clears_keep e c.args.client) t c.loop-slot.at w.walked u s c.in-Some.ensures
          (set_after t t u s _ _ (λ n ne. refl) (sym (clears_here e c.args.client s (rows_of t s) (omega (arith, w.first, c.in-Some.ensures.above)) (omega (arith, c.if-slot-extent.false)))) c.clear.ensures.set);
      first = omega (arith, w.first, c.in-Some.ensures.above);
      room = c.clear.ensures.room ∙ w.room;
    }

pub returns-then-slot-extent-clause-all : goal.returns-then-slot-extent-clause-all
returns-then-slot-extent-clause-all c =
    walk_stops (cleared_within c.args.extent c.args.client) c.args.rows.now.map (clears_keep c.args.extent c.args.client) c.loop-slot.rows.map c.loop-slot.at c.loop-slot.invariant.walked c.in-Some.slot c.in-Some.ensures
    (λ n row le. clears_past c.args.extent c.args.client n row (omega (arith, le, c.if-slot-extent.true)))

pub returns-clause-all : goal.returns-clause-all
returns-clause-all c =
    walk_ends (cleared_within c.args.extent c.args.client) c.args.rows.now.map (clears_keep c.args.extent c.args.client) c.loop-slot.rows.map c.loop-slot.at c.loop-slot.invariant.walked c.in_default.ensures
