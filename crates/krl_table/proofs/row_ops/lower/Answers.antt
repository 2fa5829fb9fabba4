use Rattle.std.proofs.Common.{ap}
use Rattle.krl_table.proofs.Rows.RowChanges.{set_blank}
use Rattle.krl_table.proofs.row_ops.lower.Goals as goal

pub returns-then-goes_blank-clause-set : goal.returns-then-goes_blank-clause-set
returns-then-goes_blank-clause-set c = set_blank c.args.rows.now.map c.remove-blank.new.self.map c.args.slot _ (ap (λ s. s.map) c.remove-blank.ensures.removed) (c.goes_blank.ensures c.if-goes_blank.true)
