use Rattle.krl_table.proofs.Names.{sym, ap, subst, ◌∙◌, greatest_key_at, KeysRise}
use Rattle.krl_table.proofs.ReportRows.Rising.{key_passed, keys_tail}
use Rattle.krl_table.proofs.pieces.keys_from.Goals as goal

pub loop-first-preserved : goal.loop-first-preserved
loop-first-preserved c =
    let w = c.loop-first.invariant in let x = c.in-Some.first.now in let xs = c.in-Some.others.now in let is = c.in-Some.ensures.cases.0 in record {
      same = λ p from. key_passed x xs c.args.at c.if-first-at.false p from ∙ ap (λ l. greatest_key_at l p) (sym is) ∙ w.same p from;
      rises = λ h. keys_tail x xs (subst (KeysRise 0) is (w.rises h));
    }
