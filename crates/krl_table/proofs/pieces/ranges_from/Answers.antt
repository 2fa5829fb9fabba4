use Rattle.krl_table.proofs.Names.{sym, ap, subst, ◌∙◌, arith, joined_range_over, RangesRise}
use Rattle.krl_table.proofs.ReportRows.Rising.{range_passed, ranges_tail}
use Rattle.krl_table.proofs.pieces.ranges_from.Goals as goal

pub loop-first-preserved : goal.loop-first-preserved
loop-first-preserved c =
    let w = c.loop-first.invariant in let x = c.in-Some.first.now in let xs = c.in-Some.others.now in let is = c.in-Some.ensures.cases.0 in record {
      same = λ span from. range_passed x xs c.args.at (omega (arith, c.if-hi-at.false, c.hi.ensures.end)) span from ∙ ap (λ l. joined_range_over l span) (sym is) ∙ w.same span from;
      rises = λ h. ranges_tail x xs (subst (RangesRise 0) is (w.rises h));
    }
