use Rattle.std.proofs.Common.{◌∙◌, arith}
use Rattle.krl_lease_table.specs.declared.row.Row.{Row}
use Rattle.krl_lease_table.specs.Rows as rows
use Rattle.krl_lease_table.proofs.FlatRows.{one_more, all_changed}
use Rattle.krl_lease_table.proofs.each.open_rows.Goals as goal

pub loop-i-preserved : goal.loop-i-preserved
loop-i-preserved c =
    let f = λ (row : Row). rows.opened c.args.longest c.args.terms c.args.now row in
    one_more f c.args.each.now c.loop-i.each c.loop-i.i c.row_at.result c.of.result c.loop-i-test.true (omega arith)
    c.row_at.ensures (c.of.ensures ∙ c.opened.ensures) c.loop-i.invariant

pub returns : goal.returns
returns c =
    let f = λ (row : Row). rows.opened c.args.longest c.args.terms c.args.now row in
    all_changed f c.args.each.now c.loop-i.each c.loop-i.i (omega arith) c.loop-i.invariant
