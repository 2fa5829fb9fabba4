use Rattle.krl_table.proofs.Names.{refl, sym, ◌∙◌, arith, rows_of, lowered_between}
use Rattle.krl_table.proofs.Rows.RowChanges.{set_after}
use Rattle.krl_table.proofs.Rows.Walk.{none_walked, walk_step, walk_ends, walk_stops, lower_keeps, lower_before, lower_past, lower_here}
use Rattle.krl_table.proofs.all_rows.lower.Goals as goal

pub loop-slot-init : goal.loop-slot-init
loop-slot-init c =
    let t = c.args.rows.now.map in record {
      walked = none_walked (lowered_between c.args.from c.args.hi c.args.client c.args.keep) t c.args.from c.requires.used (λ n lt. lower_before c.args.from c.args.hi c.args.client c.args.keep n (rows_of t n) lt);
      from = omega arith;
      room = refl;
    }

pub loop-slot-preserved : goal.loop-slot-preserved
loop-slot-preserved c =
    let t = c.loop-slot.rows.map in let u = c.lower.new.rows.map in let s = c.in-Some.slot in let w = c.loop-slot.invariant in
    record {
      walked = walk_step (lowered_between c.args.from c.args.hi c.args.client c.args.keep) c.args.rows.now.map (lower_keeps c.args.from c.args.hi c.args.client c.args.keep) t c.loop-slot.at w.walked u s c.in-Some.ensures
          (set_after t t u s _ _ (λ n ne. refl) (sym (lower_here c.args.from c.args.hi c.args.client c.args.keep s (rows_of t s) (omega (arith, w.from, c.in-Some.ensures.above)) (omega (arith, c.if-slot-hi.false)))) c.lower.ensures.set);
      from = omega (arith, w.from, c.in-Some.ensures.above);
      room = c.lower.ensures.room ∙ w.room;
    }

pub returns-then-slot-hi-clause-all : goal.returns-then-slot-hi-clause-all
returns-then-slot-hi-clause-all c =
    walk_stops (lowered_between c.args.from c.args.hi c.args.client c.args.keep) c.args.rows.now.map (lower_keeps c.args.from c.args.hi c.args.client c.args.keep) c.loop-slot.rows.map c.loop-slot.at c.loop-slot.invariant.walked c.in-Some.slot c.in-Some.ensures
    (λ n row le. lower_past c.args.from c.args.hi c.args.client c.args.keep n row (omega (arith, le, c.if-slot-hi.true)))

pub returns-clause-all : goal.returns-clause-all
returns-clause-all c =
    walk_ends (lowered_between c.args.from c.args.hi c.args.client c.args.keep) c.args.rows.now.map (lower_keeps c.args.from c.args.hi c.args.client c.args.keep) c.loop-slot.rows.map c.loop-slot.at c.loop-slot.invariant.walked c.in_default.ensures
