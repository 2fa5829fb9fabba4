use Rattle.krl_table.proofs.Names.{◌≡◌, true, false, ap, ◌∙◌, sym, row_of}
use Rattle.krl_table.proofs.Rows.RowChanges.{set_kept, set_blank}
use Rattle.krl_table.proofs.row_ops.put.Goals as goal

pub returns-then-is_blank-clause-set : goal.returns-then-is_blank-clause-set
returns-then-is_blank-clause-set c = set_blank c.args.rows.now.map c.remove-gone.new.self.map c.args.slot (row_of c.args.row) (ap (λ s. s.map) c.remove-gone.ensures.removed) (c.is_blank.ensures.0 c.if-is_blank.true)

pub returns-else-is_blank-clause-set : goal.returns-else-is_blank-clause-set
returns-else-is_blank-clause-set c = set_kept c.args.rows.now.map c.put.new.self.map c.args.slot c.args.row (ap (λ s. s.map) c.put.ensures) (λ e. let bad : true ≡ false = sym (c.is_blank.ensures.1 e) ∙ c.if-is_blank.false in absurd (cc))
