use Rattle.std.proofs.Common.{ap}
use Rattle.krl_table.proofs.Rows.RowChanges.{blank_is}
use Rattle.krl_table.proofs.row.SlotRow.is_blank.Goals as goal

pub returns-then-is_empty : goal.returns-then-is_empty
returns-then-is_empty c = (
  λ e. blank_is c.args.self.now (c.is_empty.ensures.0 c.if-is_empty.true) (c.all_are_n.ensures.0 e),
  λ e. c.all_are_n.ensures.1 (λ d. ap (λ r. r.modes d) e),
)
